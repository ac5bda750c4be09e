use Rattle.std.proofs.Common.{◌≡◌}
use Rattle.task.specs.Benches.{bench_of}
use Rattle.search.specs.Lending.{SameTable}
use Rattle.search.proofs.Sweeps.{Sweeping}
use Rattle.search.proofs.open.Open.sweep.Given as goal

abbrev pub invariant-loop-number : goal.invariant-loop-number
invariant-loop-number g l =
    let o = l.initial.self in
    let m = l.marker in
    record {
      sweeping : Sweeping (bench_of m.task.now m.actions.now) (g.T.Tariff.charges o.tariff.now) o.limits.now m.marks.now l.source o.rows.now l.self.rows.now o.table.now l.self.table.now o.sizes l.self.sizes l.number;
      rows : SameTable o.rows l.self.rows;
      table : SameTable o.table l.self.table;
      tariff : l.self.tariff ≡ o.tariff;
      limits : l.self.limits ≡ o.limits;
    }
