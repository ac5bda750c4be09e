use Rattle.std.proofs.Common.{nat_le, ◌∙◌, sym, rules, tests}
use Rattle.std.proofs.lemmas.Iterator.{YieldsList-from_slice}
use Rattle.std.proofs.lemmas.Iterator.Search.{position_from_yields_List}
use Rattle.tariff.proofs.Totals.{stray_is_position}
use Rattle.tariff.proofs.first_stray.Goals as goal

pub returns : goal.returns
returns c =
    let limit = c.args.limit in
    let numbers = c.args.numbers.now in
    position_from_yields_List (λ k. nat_le limit k) _ _ _ c.position.ensures.ran (YieldsList-from_slice numbers cc) (λ x b q called. search (rules, tests)) ∙ sym (stray_is_position limit numbers)
