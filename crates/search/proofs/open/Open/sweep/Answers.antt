use Rattle.std.proofs.Common.{◌≡◌, ◌-◌, ◌<◌, length, get_or, take, sym, refl, ap, ◌∙◌, subst, arith, get_or-take}
use Rattle.std.specs.Result.{IsErr}
use Rattle.std.proofs.lemmas.List.{length-take-le}
use Rattle.task.specs.Benches.{act_of, bench_of}
use Rattle.task.proofs.Tables.{act_count}
use Rattle.search.specs.Steps.{problem, sweep}
use Rattle.search.specs.Counts.{posed, byte_marked}
use Rattle.search.proofs.Sweeps.{read_act, grew_same, Tried, swept_full, sweeps_on, sweeps_full, sweep_grew, sweep_stays}
use Rattle.search.proofs.open.Open.sweep.Goals as goal

pub loop-number-init : goal.loop-number-init
loop-number-init g c = record {
  sweeping = record {
    rows_are = λ start few. refl;
    grew = grew_same c.args.self.now.limits.now.capacity c.args.self.now.sizes c.args.self.now.roomy.used c.args.self.now.roomy.waiting;
    rest = refl;
    lined = λ p. p;
  };
  rows = (refl, refl);
  table = (refl, refl);
  tariff = refl;
  limits = refl;
}

pub loop-number-preserved : goal.loop-number-preserved
loop-number-preserved g c =
    let o = c.args.self.now in
    let m = c.args.marker.now in
    let K = g.T.Tariff.charges o.tariff.now in
    let b = bench_of m.task.now m.actions.now in
    let s = c.args.source in
    let l = c.loop-number in
    let v = l.invariant in
    let k = l.number in
    let n = m.task.now.actions in
    let x = c.index-actions-number.result in
    let y = c.try_action.result in
    let e = c.try_action.ensures in
    let new = c.try_action.new.self in
    let whole : n - 0 ≡ n = omega arith in
    let long : length (take (n - 0) m.actions.now) ≡ n = ap (λ i. length (take i m.actions.now)) whole ∙ length-take-le n m.actions.now m.served.in_table in
    let low : k < n = omega (arith, c.loop-number-test.true, long) in
    let low' : k < length b.actions = omega (arith, act_count m.task.now m.actions.now m.served.in_table, low) in
    let read : x ≡ get_or m.actions.now k x = c.index-actions-number.is ∙ get_or-take (n - 0) m.actions.now k x (omega (arith, low)) in
    let is = read_act m.task.now m.actions.now m.served.in_table k low x read in
    let now : Tried b K o.limits.now m.marks.now s l.self.rows.now new.rows.now l.self.table.now new.table.now l.self.sizes new.sizes k (act_of x) y =
    subst (λ t. Tried b (g.T.Tariff.charges t.now) o.limits.now m.marks.now s l.self.rows.now new.rows.now l.self.table.now new.table.now l.self.sizes new.sizes k (act_of x) y) v.tariff (
    subst (λ z. Tried b (g.T.Tariff.charges l.self.tariff.now) z.now m.marks.now s l.self.rows.now new.rows.now l.self.table.now new.table.now l.self.sizes new.sizes k (act_of x) y) v.limits
    record { rows_are = λ start few. e.rows b start m.marks.now low' is refl few; grew = e.grew; rest = e.rest; lined = e.lined }
    ) in
    record {
      sweeping = sweeps_on b K o.limits.now m.marks.now s o.rows.now l.self.rows.now new.rows.now o.table.now l.self.table.now new.table.now o.sizes l.self.sizes new.sizes k (act_of x) y is low' v.sweeping now c.in_ok-try_action.was;
      rows = (e.kept.0.0 ∙ v.rows.0, e.kept.0.1 ∙ v.rows.1);
      table = (e.kept.1.0 ∙ v.table.0, e.kept.1.1 ∙ v.table.1);
      tariff = e.kept.2 ∙ v.tariff;
      limits = e.kept.3 ∙ v.limits;
    }

pub returns-in_err-try_action : goal.returns-in_err-try_action
returns-in_err-try_action g c =
    let o = c.args.self.now in
    let m = c.args.marker.now in
    let K = g.T.Tariff.charges o.tariff.now in
    let b = bench_of m.task.now m.actions.now in
    let s = c.args.source in
    let l = c.loop-number in
    let v = l.invariant in
    let k = l.number in
    let n = m.task.now.actions in
    let x = c.index-actions-number.result in
    let y = c.try_action.result in
    let e = c.try_action.ensures in
    let new = c.try_action.new.self in
    let whole : n - 0 ≡ n = omega arith in
    let long : length (take (n - 0) m.actions.now) ≡ n = ap (λ i. length (take i m.actions.now)) whole ∙ length-take-le n m.actions.now m.served.in_table in
    let low : k < n = omega (arith, c.loop-number-test.true, long) in
    let low' : k < length b.actions = omega (arith, act_count m.task.now m.actions.now m.served.in_table, low) in
    let read : x ≡ get_or m.actions.now k x = c.index-actions-number.is ∙ get_or-take (n - 0) m.actions.now k x (omega (arith, low)) in
    let is = read_act m.task.now m.actions.now m.served.in_table k low x read in
    let now : Tried b K o.limits.now m.marks.now s l.self.rows.now new.rows.now l.self.table.now new.table.now l.self.sizes new.sizes k (act_of x) y =
    subst (λ t. Tried b (g.T.Tariff.charges t.now) o.limits.now m.marks.now s l.self.rows.now new.rows.now l.self.table.now new.table.now l.self.sizes new.sizes k (act_of x) y) v.tariff (
    subst (λ z. Tried b (g.T.Tariff.charges l.self.tariff.now) z.now m.marks.now s l.self.rows.now new.rows.now l.self.table.now new.table.now l.self.sizes new.sizes k (act_of x) y) v.limits
    record { rows_are = λ start few. e.rows b start m.marks.now low' is refl few; grew = e.grew; rest = e.rest; lined = e.lined }
    ) in
    record {
      rows = λ start few. swept_full c.from_residual.result (take new.sizes.used new.rows.now) c.from_residual.ensures.0 ∙ sweeps_full b K o.limits.now m.marks.now s o.rows.now l.self.rows.now new.rows.now o.table.now l.self.table.now new.table.now o.sizes l.self.sizes new.sizes k (act_of x) y is low' v.sweeping now (subst IsErr (sym c.in_err-try_action.was) refl) start n low few;
      grew = sweep_grew b K o.limits.now m.marks.now s o.rows.now l.self.rows.now new.rows.now o.table.now l.self.table.now new.table.now o.sizes l.self.sizes new.sizes k (act_of x) y is low' v.sweeping now;
      rest = sweep_stays b K o.limits.now m.marks.now s o.rows.now l.self.rows.now new.rows.now o.table.now l.self.table.now new.table.now o.sizes l.self.sizes new.sizes k (act_of x) y is low' v.sweeping now;
      lined = λ p. now.lined (v.sweeping.lined p);
      kept = ((e.kept.0.0 ∙ v.rows.0, e.kept.0.1 ∙ v.rows.1), (e.kept.1.0 ∙ v.table.0, e.kept.1.1 ∙ v.table.1), e.kept.2 ∙ v.tariff, e.kept.3 ∙ v.limits);
    }

pub returns : goal.returns
returns g c =
    let o = c.args.self.now in
    let m = c.args.marker.now in
    let K = g.T.Tariff.charges o.tariff.now in
    let b = bench_of m.task.now m.actions.now in
    let s = c.args.source in
    let l = c.loop-number in
    let v = l.invariant in
    let n = m.task.now.actions in
    let whole : n - 0 ≡ n = omega arith in
    let long : length (take (n - 0) m.actions.now) ≡ n = ap (λ i. length (take i m.actions.now)) whole ∙ length-take-le n m.actions.now m.served.in_table in
    let all : l.number ≡ n = omega (arith, c.loop-number-test.false, l.auto.number-end, long) in
    record {
      rows = λ start few. v.sweeping.rows_are start few ∙ ap (sweep (problem b K (posed start o.limits.now)) (byte_marked m.marks.now) s.row s.setting s.charge (take o.sizes.used o.rows.now)) all;
      grew = v.sweeping.grew;
      rest = v.sweeping.rest;
      lined = v.sweeping.lined;
      kept = (v.rows, v.table, v.tariff, v.limits);
    }
