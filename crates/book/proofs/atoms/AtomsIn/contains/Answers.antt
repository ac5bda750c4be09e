use Rattle.std.proofs.Common.{refl, rules, tests}
use Rattle.std.proofs.lemmas.Iterator.Consumers.{YieldsList-from_first}
use Rattle.std.proofs.lemmas.Iterator.Search.{any_from_yields_List}
use Rattle.task.specs.Benches.{alike}
use Rattle.book.specs.Atoms.{atoms_left, atoms_in}
use Rattle.book.proofs.atoms.AtomsIn.contains.Goals as goal

pub returns : goal.returns
returns c =
    any_from_yields_List (alike c.args.atom) c.any.new.self _ _ c.any.ensures.ran (YieldsList-from_first (λ x. x) atoms_left {s = c.args.self} (atoms_in c.args.self.bytes.now) refl) (λ x b q k. search (rules, tests))
