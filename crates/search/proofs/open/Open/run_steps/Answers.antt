use Rattle.std.proofs.Common.{rules, ◌≡◌, ◌+◌, ◌-◌, false, IfErr, take, drop, Err, sym, refl, ap, ◌∙◌, subst, arith}
use Rattle.task.specs.Benches.{bench_of, world}
use Rattle.search.specs.Steps.{problem, advance, State, going}
use Rattle.search.specs.Counts.{Low, posed, outcome_of, stepped}
use Rattle.search.proofs.Runs.{step_going}
use Rattle.search.proofs.Running.{Running, Step, running_none, running_more, running_rest, running_lined, running_on, running_ends, source_is}
use Rattle.search.proofs.open.Open.run_steps.Goals as goal

pub loop-init : goal.loop-init
loop-init g c = record {
  running =
      let o = c.args.self.now in
      let m = c.args.marker.now in
      let b = bench_of m.task.now m.actions.now in
      let all : c.args.steps ≡ c.args.steps - 0 = omega arith in
      let K = g.T.Tariff.charges o.tariff.now in
      let marking = (g.R.Rule.marking m.rule.now).marks b in
      subst (Running b K o.limits.now marking o.rows.now o.rows.now o.table.now o.table.now o.sizes o.sizes o.expanded o.expanded c.args.steps) all (running_none b K o.limits.now marking o.rows.now o.table.now o.sizes o.expanded c.args.steps);
  kept = ((refl, refl), (refl, refl), refl, refl);
  clear = λ z. z;
  beyond = (refl, refl);
  lent = ((refl, refl), (refl, refl), refl, refl, refl);
}

pub loop-preserved : goal.loop-preserved
loop-preserved g c =
    let o = c.args.self.now in
    let m = c.args.marker.now in
    let K = g.T.Tariff.charges o.tariff.now in
    let b = bench_of m.task.now m.actions.now in
    let marking = (g.R.Rule.marking m.rule.now).marks b in
    let l = c.loop in
    let v = l.invariant in
    let s = l.self in
    let t = l.marker in
    let new = c.step.new.self in
    let y = c.step.result in
    let e = c.step.ensures in
    let k = c.args.steps - (l.counter + 1) in
    let left : c.args.steps - l.counter ≡ k + 1 = omega (arith, c.loop-test.true) in
    let was = subst (Running b K o.limits.now marking o.rows.now s.rows.now o.table.now s.table.now o.sizes s.sizes o.expanded s.expanded c.args.steps) left v.running in
    let now : Step b K o.limits.now marking s.rows.now new.rows.now s.table.now new.table.now s.sizes new.sizes s.expanded new.expanded y =
    subst (λ z. Step b (g.T.Tariff.charges z.now) o.limits.now marking s.rows.now new.rows.now s.table.now new.table.now s.sizes new.sizes s.expanded new.expanded y) v.kept.2 (
    subst (λ z. Step b (g.T.Tariff.charges s.tariff.now) z.now marking s.rows.now new.rows.now s.table.now new.table.now s.sizes new.sizes s.expanded new.expanded y) v.kept.3 (
    subst (λ z. Step b (g.T.Tariff.charges s.tariff.now) s.limits.now ((g.R.Rule.marking z.now).marks b) s.rows.now new.rows.now s.table.now new.table.now s.sizes new.sizes s.expanded new.expanded y) v.lent.2 (
    subst (λ z. Step (bench_of z.now m.actions.now) (g.T.Tariff.charges s.tariff.now) s.limits.now ((g.R.Rule.marking t.rule.now).marks (bench_of z.now m.actions.now)) s.rows.now new.rows.now s.table.now new.table.now s.sizes new.sizes s.expanded new.expanded y) v.lent.3 (
    subst (λ z. Step (bench_of t.task.now z.now) (g.T.Tariff.charges s.tariff.now) s.limits.now ((g.R.Rule.marking t.rule.now).marks (bench_of t.task.now z.now)) s.rows.now new.rows.now s.table.now new.table.now s.sizes new.sizes s.expanded new.expanded y) v.lent.4
    record { more = e.more; ran = e.ran; rest = e.rest; lined = e.lined }
    )
    )
    )
    ) in
    let beyond = subst (λ z. (drop z.now.actions c.step.new.marker.marks.now ≡ drop z.now.actions t.marks.now) × (drop 4096 c.step.new.marker.work.now ≡ drop 4096 t.work.now)) v.lent.3 e.beyond in
    record {
      running = running_on b K o.limits.now marking o.rows.now s.rows.now new.rows.now o.table.now s.table.now new.table.now o.sizes s.sizes new.sizes o.expanded s.expanded new.expanded c.args.steps k y was now c.in_ok-step.was;
      kept = ((e.kept.0.0 ∙ v.kept.0.0, e.kept.0.1 ∙ v.kept.0.1), (e.kept.1.0 ∙ v.kept.1.0, e.kept.1.1 ∙ v.kept.1.1), e.kept.2 ∙ v.kept.2, e.kept.3 ∙ v.kept.3);
      clear = λ z. e.clear (v.clear z);
      beyond = (beyond.0 ∙ v.beyond.0, beyond.1 ∙ v.beyond.1);
      lent = ((e.lent.0.0 ∙ v.lent.0.0, e.lent.0.1 ∙ v.lent.0.1), (e.lent.1.0 ∙ v.lent.1.0, e.lent.1.1 ∙ v.lent.1.1), e.lent.2 ∙ v.lent.2, e.lent.3 ∙ v.lent.3, e.lent.4 ∙ v.lent.4);
    }

pub returns-in_err-step : goal.returns-in_err-step
returns-in_err-step g c =
    let o = c.args.self.now in
    let m = c.args.marker.now in
    let K = g.T.Tariff.charges o.tariff.now in
    let b = bench_of m.task.now m.actions.now in
    let marking = (g.R.Rule.marking m.rule.now).marks b in
    let l = c.loop in
    let v = l.invariant in
    let s = l.self in
    let t = l.marker in
    let new = c.step.new.self in
    let y = c.step.result in
    let e = c.step.ensures in
    let k = c.args.steps - (l.counter + 1) in
    let left : c.args.steps - l.counter ≡ k + 1 = omega (arith, c.loop-test.true) in
    let was = subst (Running b K o.limits.now marking o.rows.now s.rows.now o.table.now s.table.now o.sizes s.sizes o.expanded s.expanded c.args.steps) left v.running in
    let now : Step b K o.limits.now marking s.rows.now new.rows.now s.table.now new.table.now s.sizes new.sizes s.expanded new.expanded y =
    subst (λ z. Step b (g.T.Tariff.charges z.now) o.limits.now marking s.rows.now new.rows.now s.table.now new.table.now s.sizes new.sizes s.expanded new.expanded y) v.kept.2 (
    subst (λ z. Step b (g.T.Tariff.charges s.tariff.now) z.now marking s.rows.now new.rows.now s.table.now new.table.now s.sizes new.sizes s.expanded new.expanded y) v.kept.3 (
    subst (λ z. Step b (g.T.Tariff.charges s.tariff.now) s.limits.now ((g.R.Rule.marking z.now).marks b) s.rows.now new.rows.now s.table.now new.table.now s.sizes new.sizes s.expanded new.expanded y) v.lent.2 (
    subst (λ z. Step (bench_of z.now m.actions.now) (g.T.Tariff.charges s.tariff.now) s.limits.now ((g.R.Rule.marking t.rule.now).marks (bench_of z.now m.actions.now)) s.rows.now new.rows.now s.table.now new.table.now s.sizes new.sizes s.expanded new.expanded y) v.lent.3 (
    subst (λ z. Step (bench_of t.task.now z.now) (g.T.Tariff.charges s.tariff.now) s.limits.now ((g.R.Rule.marking t.rule.now).marks (bench_of t.task.now z.now)) s.rows.now new.rows.now s.table.now new.table.now s.sizes new.sizes s.expanded new.expanded y) v.lent.4
    record { more = e.more; ran = e.ran; rest = e.rest; lined = e.lined }
    )
    )
    )
    ) in
    let ended : c.from_residual.result ≡ Err c.in_err-step.field-0.0 = search rules in
    let beyond = subst (λ z. (drop z.now.actions c.step.new.marker.marks.now ≡ drop z.now.actions t.marks.now) × (drop 4096 c.step.new.marker.work.now ≡ drop 4096 t.work.now)) v.lent.3 e.beyond in
    record {
      more = running_more b K o.limits.now marking o.rows.now s.rows.now new.rows.now o.table.now s.table.now new.table.now o.sizes s.sizes new.sizes o.expanded s.expanded new.expanded c.args.steps k y was now;
      low = subst (λ z. IfErr z (λ end. Low end new.sizes.used)) (sym ended) c.in_err-step.ensures.low;
      ran = λ start lawful sound lined.
          running_ends b K o.limits.now marking o.rows.now s.rows.now new.rows.now o.table.now s.table.now new.table.now o.sizes s.sizes new.sizes o.expanded s.expanded new.expanded c.args.steps k y was now start lawful sound lined c.in_err-step.field-0.0 c.in_err-step.was
          ∙ ap (λ z. stepped z (λ rows n. (let st : State g.row.T-Charge.Denot = record { rows = rows; count = n; outcome = going } in st)) (take new.sizes.used new.rows.now) new.expanded) (sym ended);
      rest = running_rest b K o.limits.now marking o.rows.now s.rows.now new.rows.now o.table.now s.table.now new.table.now o.sizes s.sizes new.sizes o.expanded s.expanded new.expanded c.args.steps k y was now;
      lined = running_lined b K o.limits.now marking o.rows.now s.rows.now new.rows.now o.table.now s.table.now new.table.now o.sizes s.sizes new.sizes o.expanded s.expanded new.expanded c.args.steps k y was now;
      kept = ((e.kept.0.0 ∙ v.kept.0.0, e.kept.0.1 ∙ v.kept.0.1), (e.kept.1.0 ∙ v.kept.1.0, e.kept.1.1 ∙ v.kept.1.1), e.kept.2 ∙ v.kept.2, e.kept.3 ∙ v.kept.3);
      clear = λ z. e.clear (v.clear z);
      beyond = (beyond.0 ∙ v.beyond.0, beyond.1 ∙ v.beyond.1);
      lent = ((e.lent.0.0 ∙ v.lent.0.0, e.lent.0.1 ∙ v.lent.0.1), (e.lent.1.0 ∙ v.lent.1.0, e.lent.1.1 ∙ v.lent.1.1), e.lent.2 ∙ v.lent.2, e.lent.3 ∙ v.lent.3, e.lent.4 ∙ v.lent.4);
    }

pub returns-in_err-look : goal.returns-in_err-look
returns-in_err-look g c =
    let o = c.args.self.now in
    let m = c.args.marker.now in
    let K = g.T.Tariff.charges o.tariff.now in
    let b = bench_of m.task.now m.actions.now in
    let marking = (g.R.Rule.marking m.rule.now).marks b in
    let l = c.loop in
    let v = l.invariant in
    let s = l.self in
    let t = l.marker in
    let rows = take s.sizes.used s.rows.now in
    let none : c.args.steps - l.counter ≡ 0 = omega (arith, c.loop-test.false) in
    let was = subst (Running b K o.limits.now marking o.rows.now s.rows.now o.table.now s.table.now o.sizes s.sizes o.expanded s.expanded c.args.steps) none v.running in
    let ended : c.from_residual-in_err-look.result ≡ Err c.in_err-look.field-0.0 = search rules in
    record {
      more = v.running.more;
      low = subst (λ z. IfErr z (λ end. Low end s.sizes.used)) (sym ended) c.in_err-look.ensures.low;
      ran = λ start lawful sound lined.
          was.same start lawful sound lined
          ∙ subst (λ z. advance (problem (bench_of z.now m.actions.now) K (posed start o.limits.now)) marking 0 rows s.expanded ≡ record { rows = rows; count = s.expanded; outcome = outcome_of c.in_err-look.field-0.0 }) v.lent.3
          (c.in_err-look.ensures.ended m.actions.now K (posed start o.limits.now) marking 0 s.expanded (was.lined lined))
          ∙ ap (λ z. stepped z (λ rows n. (let st : State g.row.T-Charge.Denot = record { rows = rows; count = n; outcome = going } in st)) rows s.expanded) (sym ended);
      rest = v.running.rest;
      lined = v.running.lined;
      kept = v.kept;
      clear = v.clear;
      beyond = v.beyond;
      lent = v.lent;
    }

pub returns : goal.returns
returns g c =
    let o = c.args.self.now in
    let m = c.args.marker.now in
    let K = g.T.Tariff.charges o.tariff.now in
    let b = bench_of m.task.now m.actions.now in
    let marking = (g.R.Rule.marking m.rule.now).marks b in
    let l = c.loop in
    let v = l.invariant in
    let s = l.self in
    let t = l.marker in
    let rows = take s.sizes.used s.rows.now in
    let none : c.args.steps - l.counter ≡ 0 = omega (arith, c.loop-test.false) in
    let was = subst (Running b K o.limits.now marking o.rows.now s.rows.now o.table.now s.table.now o.sizes s.sizes o.expanded s.expanded c.args.steps) none v.running in
    let source = c.in_ok-look.field-0 in
    let f = c.in_ok-look.ensures.found in
    let is = source_is K s.rows.now s.sizes.used source f.low f.read in
    let off : (world b).goal source.setting ≡ false = subst (λ z. (world (bench_of z.now m.actions.now)).goal source.setting ≡ false) v.lent.3 (c.in_ok-look.ensures.off m.actions.now) in
    record {
      more = v.running.more;
      low = tt;
      ran = λ start lawful sound lined.
          was.same start lawful sound lined
          ∙ step_going (problem b K (posed start o.limits.now)) marking rows s.expanded source.row (f.first K (was.lined lined)) (ap (world b).goal is.0 ∙ off);
      rest = v.running.rest;
      lined = v.running.lined;
      kept = v.kept;
      clear = v.clear;
      beyond = v.beyond;
      lent = v.lent;
    }
