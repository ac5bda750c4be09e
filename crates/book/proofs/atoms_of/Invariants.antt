use Rattle.std.proofs.Common.{◌≡◌, ◌≤◌, ◌++◌, length}
use Rattle.task.specs.Settings.{listed}
use Rattle.book.specs.Atoms.{atoms_left}
use Rattle.book.proofs.atoms_of.Given as goal

abbrev pub invariant-loop-atom : goal.invariant-loop-atom
invariant-loop-atom g l = length (atoms_left l.fn.spelled) ≤ g.row.N → listed l.atoms ++ atoms_left l.atom-iterator ≡ atoms_left l.fn.spelled
