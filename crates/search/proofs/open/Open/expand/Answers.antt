use Rattle.std.proofs.Common.{◌≡◌, get_or, take, drop, set, sym, ap, ◌∙◌, subst, arith, get_or-take, drop-set-lt}
use lib.Seq.{take-set-lt}
use Rattle.task.specs.Benches.{bench_of}
use Rattle.task.proofs.Tables.{act_count}
use Rattle.search.specs.Rows.{shut, row, blank}
use Rattle.search.specs.Steps.{problem, sweep}
use Rattle.search.specs.Counts.{posed, byte_marked}
use Rattle.search.proofs.Sweeps.{Spread, expand_is}
use Rattle.search.proofs.open.Open.expand.Goals as goal

pub returns : goal.returns
returns g c =
    let o = c.args.self.now in
    let m = c.args.marker.now in
    let K = g.T.Tariff.charges o.tariff.now in
    let b = bench_of m.task.now m.actions.now in
    let s = c.args.source in
    let i = s.row in
    let n = o.sizes.used in
    let rows = o.rows.now in
    let q = c.requires in
    let one = c.close_first.new.self in
    let two = c.mark.new.self in
    let new = c.sweep.new.self in
    let y = c.sweep.result in
    let x = c.close_first.ensures in
    let k = c.mark.ensures in
    let e = c.sweep.ensures in
    let spread : Spread m.task.now m.actions.now K o.limits.now two.marks.now s one.rows.now new.rows.now one.table.now new.table.now one.sizes new.sizes y =
    subst (λ t. Spread m.task.now m.actions.now (g.T.Tariff.charges t.now) o.limits.now two.marks.now s one.rows.now new.rows.now one.table.now new.table.now one.sizes new.sizes y) x.kept.2 (
    subst (λ z. Spread m.task.now m.actions.now (g.T.Tariff.charges one.tariff.now) z.now two.marks.now s one.rows.now new.rows.now one.table.now new.table.now one.sizes new.sizes y) x.kept.3 (
    subst (λ t. Spread t.now m.actions.now (g.T.Tariff.charges one.tariff.now) one.limits.now two.marks.now s one.rows.now new.rows.now one.table.now new.table.now one.sizes new.sizes y) k.kept.3 (
    subst (λ t. Spread two.task.now t.now (g.T.Tariff.charges one.tariff.now) one.limits.now two.marks.now s one.rows.now new.rows.now one.table.now new.table.now one.sizes new.sizes y) k.kept.4
    record { rows_are = e.rows; grew = e.grew; rest = e.rest; lined = e.lined }
    )
    )
    ) in
    let d = blank K.zero K.le in
    let held = row K.zero K.le (take n rows) i in
    let is : held ≡ get_or rows i d = get_or-take n rows i d q.1 in
    let front : take one.sizes.used one.rows.now ≡ set (take n rows) i (shut held) =
    ap (λ j. take j one.rows.now) x.used ∙ ap (take n) (x.rows d) ∙ take-set-lt n rows i (shut (get_or rows i d)) q.1 ∙ ap (λ z. set (take n rows) i (shut z)) (sym is) in
    record {
      rows = λ start f lawful proper few.
          spread.rows_are start few
          ∙ ap (λ l. sweep (problem b K (posed start o.limits.now)) (byte_marked two.marks.now) i s.setting s.charge l m.task.now.actions) front
          ∙ expand_is (problem b K (posed start o.limits.now)) ((g.R.Rule.marking m.rule.now).marks b) two.marks.now (take n rows) i s.setting s.charge m.task.now.actions
          (ap (λ r. r.setting) is ∙ (f.read d).0) (ap (λ r. r.charge) is ∙ (f.read d).1) (act_count m.task.now m.actions.now m.served.in_table) (k.marked lawful proper);
      grew = record { more = omega (arith, spread.grew.more, x.used); within = spread.grew.within; waiting = spread.grew.waiting; even = omega (arith, spread.grew.even, x.used, x.waiting) };
      rest = spread.rest ∙ ap (drop new.sizes.used) (x.rows d) ∙ drop-set-lt new.sizes.used rows i (shut (get_or rows i d)) (omega (arith, spread.grew.more, x.used, q.1));
      lined = λ f p. spread.lined (x.lined p (f.first K p));
      kept = ((e.kept.0.0 ∙ x.kept.0.0, e.kept.0.1 ∙ x.kept.0.1), (e.kept.1.0 ∙ x.kept.1.0, e.kept.1.1 ∙ x.kept.1.1), e.kept.2 ∙ x.kept.2, e.kept.3 ∙ x.kept.3);
      clear = k.clear;
      beyond = k.rest;
      lent = k.kept;
    }
