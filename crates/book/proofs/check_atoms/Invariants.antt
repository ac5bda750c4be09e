use Rattle.std.proofs.Common.{◌≡◌}
use Rattle.book.specs.Atoms.{atoms_left}
use Rattle.book.specs.Format.{atoms_fault}
use Rattle.book.proofs.check_atoms.Given as goal

abbrev pub invariant-loop-atom : goal.invariant-loop-atom
invariant-loop-atom l = atoms_fault l.sizes 0 (atoms_left l.fn.atoms) ≡ atoms_fault l.sizes l.floor (atoms_left l.atom-iterator)
