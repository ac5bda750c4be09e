use Rattle.std.proofs.Common.{◌≡◌, not, sym, ◌∙◌, rules}
use Rattle.std.proofs.lemmas.Iterator.Adapters.{option_map_id}
use Rattle.std.proofs.lemmas.Iterator.{YieldsList-from_slice}
use Rattle.std.proofs.lemmas.Iterator.Consumers.{YieldsList-from_copied}
use Rattle.std.proofs.lemmas.Iterator.Search.{find_from_yields_List}
use Rattle.std.specs.List.{find}
use Rattle.std.specs.Option.{option_map}
use Rattle.task.specs.declared.data.Atom.{Atom}
use Rattle.task.specs.Settings.{holding}
use Rattle.task.proofs.Meets.{find_unmet}
use Rattle.task.proofs.first_unmet.Goals as goal

pub returns : goal.returns
returns c =
    let found : option_map (λ (x : Atom). x) c.find.result ≡ find (λ a. not (holding c.args.setting a)) c.args.atoms.now =
    find_from_yields_List (λ a. not (holding c.args.setting a)) _ _ c.find.result c.find.ensures.ran (YieldsList-from_copied (YieldsList-from_slice c.args.atoms.now cc)) (λ x b q k. search rules) in
    sym (option_map_id c.find.result) ∙ found ∙ find_unmet c.args.setting c.args.atoms.now
