use Rattle.std.proofs.Common.{take}
use Rattle.task.specs.Settings.{some_atom}
use Rattle.rules.specs.Waits.{beside, Wrote}
use Rattle.rules.specs.Collections.{first_of, Stays}
use Rattle.rules.proofs.waiting.Pending.ask_all_siblings.Given as goal

abbrev pub invariant-loop-atom : goal.invariant-loop-atom
invariant-loop-atom l = record {
  same : Stays l.initial.self l.self;
  wrote : Wrote (λ x. some_atom (λ a. beside l.initial.self.sizes (first_of l.collection) a x) (take l.atom-index l.atoms)) l.initial.self.work.now l.self.work.now;
}
