use Rattle.rules.specs.Waits.{beside_below, Wrote}
use Rattle.rules.specs.Collections.{first_of, Stays}
use Rattle.rules.proofs.waiting.Pending.ask_siblings.Given as goal

abbrev pub invariant-loop-value : goal.invariant-loop-value
invariant-loop-value l = record {
  same : Stays l.initial.self l.self;
  wrote : Wrote (beside_below l.value (first_of l.collection) l.atom) l.initial.self.work.now l.self.work.now;
}
