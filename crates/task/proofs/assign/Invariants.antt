use Rattle.std.proofs.Common.{◌≡◌, length, drop}
use Rattle.task.specs.Settings.{assigned}
use Rattle.task.proofs.assign.Given as goal

abbrev pub invariant-loop-atom : goal.invariant-loop-atom
invariant-loop-atom l = (assigned l.next (drop l.atom-index l.atoms) ≡ assigned l.initial.next l.atoms) × (length l.next ≡ 64)
