use Rattle.std.proofs.Common.{◌+◌, eqb, length, vec_items, sym, ap, ◌∙◌, arith, rules, tests}
use Rattle.std.proofs.lemmas.Grind.{common_steps}
use Rattle.std.proofs.lemmas.Iterator.Consumers.{YieldsList-turn, YieldsList-end}
use Rattle.std.proofs.lemmas.Iterator.Splits.{YieldsList-from_slice_split}
use Rattle.text.specs.declared.Unread.TheVariants.{Field}
use Rattle.std.specs.Option.{ok_or}
use Rattle.std.proofs.lemmas.Result.{err_from_is_err_and}
use Rattle.text.specs.Fields.{pieces}
use Rattle.text.proofs.Pieces.{ends, no_number, one_number}
use Rattle.text.proofs.numbers.Goals as goal

pub returns-in_err-n : goal.returns-in_err-n
returns-in_err-n c =
    let all = YieldsList-from_slice_split _ (λ b. eqb b 32) c.args.line.now (cc) (cc) (cc) (λ x b q k. search (rules, tests)) in
    let turn = YieldsList-turn all c.loop-field.yielded _ c.loop-field.yielded_by _ _ c.in-Some.field c.in-Some.is c.next.ensures.steps in
    let none = no_number (vec_items c.loop-field.sofar) (pieces 32 c.args.line.now) _ _ c.loop-field.invariant.read c.in-Some.field.now turn (sym c.in_err-n.ensures.ok_part ∙ c.number.ensures.value) in
    let p = err_from_is_err_and c.from_residual.result c.from_residual.ensures.1 in
    let place = c.in_err-n.ensures.value ∙ ap (λ o. ok_or o (Field (c.len-place.result + 1))) c.in_err-n.ensures.ok_part in
    grind (arith, common_steps, none, place, p)

pub loop-field-preserved : goal.loop-field-preserved
loop-field-preserved c =
    let all = YieldsList-from_slice_split _ (λ b. eqb b 32) c.args.line.now (cc) (cc) (cc) (λ x b q k. search (rules, tests)) in
    let turn = YieldsList-turn all c.loop-field.yielded _ c.loop-field.yielded_by _ _ c.in-Some.field c.in-Some.is c.next.ensures.steps in
    let one = one_number (vec_items c.loop-field.sofar) (pieces 32 c.args.line.now) _ _ c.loop-field.invariant.read c.in-Some.field.now turn c.in_ok-n.n (sym c.in_ok-n.ensures.ok_part ∙ c.number.ensures.value) in
    grind (arith, common_steps, one, c.in_ok-push.ensures.items)

pub returns : goal.returns
returns c =
    let all = YieldsList-from_slice_split _ (λ b. eqb b 32) c.args.line.now (cc) (cc) (cc) (λ x b q k. search (rules, tests)) in
    let end = YieldsList-end all c.loop-field.yielded _ c.loop-field.yielded_by _ _ c.in-None.is c.next.ensures.steps in
    let done = ends (vec_items c.loop-field.sofar) (pieces 32 c.args.line.now) (length c.loop-field.yielded) _ c.loop-field.invariant.read (omega (arith, end.1)) in
    grind (arith, common_steps, done)
