use Rattle.std.proofs.Common.{◌≡◌, ℕ, not, ltb, get_or, take, sym, refl, ◌∙◌, rules}
use Rattle.std.proofs.lemmas.Iterator.Adapters.{option_map_id}
use Rattle.std.proofs.lemmas.Iterator.{YieldsList-from_range}
use Rattle.std.proofs.lemmas.Iterator.Search.{find_from_yields_List}
use Rattle.std.specs.List.{find, range_with_len}
use Rattle.std.specs.Option.{option_map}
use Rattle.task.proofs.Meets.{find_outside}
use Rattle.task.proofs.first_outside.Goals as goal

pub returns : goal.returns
returns c =
    let sizes = take c.args.task.now.variables c.args.task.now.sizes in
    let s = c.args.setting in
    let found : option_map (λ (x : ℕ). x) c.find.result ≡ find (λ v. not (ltb (get_or s v 0) (get_or sizes v 1))) (range_with_len 0 64) =
    find_from_yields_List (λ v. not (ltb (get_or s v 0) (get_or sizes v 1))) _ _ c.find.result c.find.ensures.ran (YieldsList-from_range 0 64 64 (cc) refl) (λ x b q k. search rules) in
    sym (option_map_id c.find.result) ∙ found ∙ find_outside sizes s 64 0 (search rules)
