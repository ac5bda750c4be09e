use Rattle.std.proofs.Common.{refl, sym, ap, ◌∙◌, arith, rules}
use Rattle.std.specs.Fn.{FnReturnsAt}
use Rattle.rules.proofs.Lines.{joined_more, joined_skip, act_read}
use Rattle.rules.proofs.line.Queue.join_where.Goals as goal
use Rattle.rules.proofs.line.Queue.join_where.Goals.{then-test, else-test}

pub loop-number-preserved : goal.loop-number-preserved
loop-number-preserved g c =
    let actions = c.args.self.now.actions.now in
    let i = c.loop-number.number in
    let is = act_read actions i c.index-actions-number.result c.loop-number-test.true c.index-actions-number.is in
    let told : FnReturnsAt g.F.Fn c.args.test c.index-actions-number.result c.test.result = record { shown = _; shows = refl; says = record { met = c.test.ensures } } in
    elim c.if-test.branch [
      | then-test w ↦ rw w.self-is (record {
        same = search rules;
        joined = λ passes tells. joined_more _ i (c.loop-number.invariant.joined passes tells) (omega (arith, c.args.self.now.one_each, c.loop-number-test.true)) (ap passes is ∙ sym (tells _ _ told) ∙ w.if-test.true) w.join.ensures.joined;
      })
      | else-test w ↦ rw w.self-is (record {
        same = c.loop-number.invariant.same;
        joined = λ passes tells. joined_skip _ i (c.loop-number.invariant.joined passes tells) (ap passes is ∙ sym (tells _ _ told) ∙ w.if-test.false);
      })
    ]
