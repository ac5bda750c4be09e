use Rattle.std.proofs.Common.{◌≡◌, ◌-◌, take, drop}
use Rattle.task.specs.Benches.{bench_of}
use Rattle.rules.specs.Marks.{Zeros}
use Rattle.search.specs.Lending.{SameTable}
use Rattle.search.proofs.Running.{Running}
use Rattle.search.proofs.open.Open.run_steps.Given as goal

abbrev pub invariant-loop : goal.invariant-loop
invariant-loop g l =
    let o = l.initial.self in
    let m = l.initial.marker in
    let s = l.self in
    let t = l.marker in
    let b = bench_of m.task.now m.actions.now in
    record {
      running : Running b (g.T.Tariff.charges o.tariff.now) o.limits.now ((g.R.Rule.marking m.rule.now).marks b) o.rows.now s.rows.now o.table.now s.table.now o.sizes s.sizes o.expanded s.expanded l.steps (l.steps - l.counter);
      kept : SameTable o.rows s.rows × SameTable o.table s.table × (s.tariff ≡ o.tariff) × (s.limits ≡ o.limits);
      clear : Zeros (take 4096 m.work.now) → Zeros (take 4096 t.work.now);
      beyond : (drop m.task.now.actions t.marks.now ≡ drop m.task.now.actions m.marks.now) × (drop 4096 t.work.now ≡ drop 4096 m.work.now);
      lent : SameTable m.marks t.marks × SameTable m.work t.work × (t.rule ≡ m.rule) × (t.task ≡ m.task) × (t.actions ≡ m.actions);
    }
