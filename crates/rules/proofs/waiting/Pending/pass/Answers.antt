use Rattle.std.proofs.Common.{◌<◌, ◌≤◌, length, refl, sym, ◌∙◌, arith, rules}
use Rattle.std.proofs.lemmas.Bool.{both_ways}
use Rattle.std.proofs.ByRecursion.{All-get_or}
use Rattle.task.specs.Benches.{act_of}
use Rattle.rules.proofs.Lines.{act_read}
use Rattle.rules.proofs.Passes.{passed_more, passed_skip}
use Rattle.rules.proofs.waiting.Pending.pass.Goals as goal
use Rattle.rules.proofs.waiting.Pending.pass.Goals.{then-marks-number-eq0+then-is_due, else-marks-number-eq0, else-marks-number-eq0-via-then-marks-number-eq0+else-is_due, else-marks-number-eq0-via-else-marks-number-eq0}

pub loop-number-preserved : goal.loop-number-preserved
loop-number-preserved c =
    let p = c.args.self.now in
    let i = c.loop-number.number in
    let marks = c.loop-number.marks in
    let a = act_of c.index-actions-number.result in
    let same = c.loop-number.invariant.same in
    let passed = c.loop-number.invariant.passed in
    let low : i < length c.args.marks.now = omega (arith, c.requires.0, c.loop-number-test.true) in
    let is = act_read c.args.actions.now i c.index-actions-number.result c.loop-number-test.true c.index-actions-number.is in
    elim c.if-marks-number-eq0.branch [
      | then-marks-number-eq0+then-is_due w ↦ rw (w.self-is, w.marks-is, w.more-is) (record {
        same = search rules;
        passed = passed_more p.sizes p.setting c.args.actions.now i passed a is low (w.if-marks-number-eq0.true, sym w.is_due.ensures ∙ w.if-is_due.true, refl, simp (same.1, same.2) at w.ask_called.ensures.wrote);
      })
      | else-marks-number-eq0 w ↦ rw (w.self-is, w.marks-is, w.more-is) (record {
        same = same;
        passed = passed_skip p.sizes p.setting c.args.actions.now i passed a is (
          refl,
          refl,
          λ d. elim w.else-marks-number-eq0.branch [
            | else-marks-number-eq0-via-then-marks-number-eq0+else-is_due v ↦ absurd (both_ways _ (sym v.is_due.ensures ∙ v.if-is_due.false) d)
            | else-marks-number-eq0-via-else-marks-number-eq0 v ↦ (let h = All-get_or (λ x. x ≤ 1) marks i 0 (omega (arith, low, passed.as_many)) passed.bits in omega (arith, v.if-marks-number-eq0.false))
          ],
        );
      })
    ]
