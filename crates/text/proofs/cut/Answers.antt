use Rattle.std.proofs.Common.{◌+◌, eqb, sym, ◌∙◌, rules, tests}
use Rattle.std.proofs.lemmas.List.{take_rest}
use Rattle.std.proofs.lemmas.Iterator.{YieldsList-from_slice}
use Rattle.std.proofs.lemmas.Iterator.Search.{position_from_yields_List}
use Rattle.text.proofs.Marks.{found, missed}
use Rattle.text.proofs.cut.Goals as goal

pub returns-in-Some : goal.returns-in-Some
returns-in-Some c =
    let xs = c.args.text.now in
    let place = position_from_yields_List (λ b. eqb b c.args.mark) _ _ c.position.result c.position.ensures.ran (YieldsList-from_slice xs cc) (λ x b q k. search (rules, tests)) in
    let f = found c.args.mark xs c.in-Some.i (sym c.in-Some.is ∙ place) in
    record { front = f.0; back = take_rest xs (c.in-Some.i + 1) ∙ f.1 }

pub returns-in-None : goal.returns-in-None
returns-in-None c =
    let xs = c.args.text.now in
    let place = position_from_yields_List (λ b. eqb b c.args.mark) _ _ c.position.result c.position.ensures.ran (YieldsList-from_slice xs cc) (λ x b q k. search (rules, tests)) in
    let f = missed c.args.mark xs (sym c.in-None.is ∙ place) in
    record { front = f.0; back = f.1 }
