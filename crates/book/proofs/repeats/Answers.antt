use Rattle.std.proofs.Common.{refl, rules, tests}
use Rattle.std.proofs.lemmas.Iterator.Consumers.{YieldsList-from_first}
use Rattle.std.proofs.lemmas.Iterator.Search.{any_from_yields_List}
use Rattle.task.specs.Settings.{some_atom}
use Rattle.task.specs.Benches.{alike}
use Rattle.book.specs.Atoms.{atoms_left, atoms_in}
use Rattle.book.proofs.repeats.Goals as goal

pub returns : goal.returns
returns c =
    any_from_yields_List (λ e. some_atom (alike e) (atoms_in c.args.conditions.bytes.now)) c.any.new.self _ _ c.any.ensures.ran (YieldsList-from_first (λ x. x) atoms_left {s = c.args.effects} (atoms_in c.args.effects.bytes.now) refl) (λ x b q k. search (rules, tests))
