use Rattle.rules.specs.Waits.{Passed}
use Rattle.rules.specs.Collections.{Stays}
use Rattle.rules.proofs.waiting.Pending.pass.Given as goal

abbrev pub invariant-loop-number : goal.invariant-loop-number
invariant-loop-number l = record {
  same : Stays l.initial.self l.self;
  passed : Passed l.initial.self.sizes l.initial.self.setting l.actions l.number l.initial.marks l.initial.self.work.now l.more l.marks l.self.work.now;
}
