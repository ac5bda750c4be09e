use Rattle.std.proofs.Common.{◌≡◌, ◌+◌, reverse, length, take, drop, sym, ap, ◌∙◌, arith, drop-set-lt}
use Rattle.std.proofs.lemmas.List.{drop-drop}
use Rattle.search.proofs.Plans.{one_back, at_root, at_last}
use Rattle.search.proofs.plan.write_back.Goals as goal

pub loop-count-preserved : goal.loop-count-preserved
loop-count-preserved g c =
    let n = c.loop-count.count in
    let plan = c.loop-count.plan in
    let hop = c.hop_to-hop in (
      λ zero le. one_back zero le c.args.rows.now c.args.goal n c.loop-count.at plan (c.loop-count.invariant.0 zero le) hop.result.origin hop.result.action c.loop-count-test.true (omega arith) c.if-at-eq0.false (hop.ensures zero le).0 (hop.ensures zero le).1,
      drop-set-lt (n + 1) plan n hop.result.action (omega arith) ∙ sym (drop-drop 1 n plan) ∙ ap (drop 1) c.loop-count.invariant.1 ∙ drop-drop 1 n c.args.plan.now,
    )

pub returns-then-at-eq0-clause-plan : goal.returns-then-at-eq0-clause-plan
returns-then-at-eq0-clause-plan g c = λ zero le. at_root zero le c.args.rows.now c.args.goal c.loop-count.count c.loop-count.at c.loop-count.plan (c.loop-count.invariant.0 zero le) c.if-at-eq0.true

pub returns-clause-plan : goal.returns-clause-plan
returns-clause-plan g c = λ zero le.
    let n = c.loop-count.count in
    let plan = c.loop-count.plan in
    let all : length c.args.rows.now ≡ n = omega arith in
    ap (λ m. reverse (take m plan)) all ∙ at_last zero le c.args.rows.now c.args.goal n c.loop-count.at plan (c.loop-count.invariant.0 zero le) c.loop-count-test.false
