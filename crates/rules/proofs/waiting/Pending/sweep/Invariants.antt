use Rattle.std.proofs.Common.{◌-◌, length, sum}
use Rattle.rules.specs.Collections.{Stays}
use Rattle.rules.proofs.Passes.{Sweeping}
use Rattle.rules.proofs.waiting.Pending.sweep.Given as goal

abbrev pub invariant-loop : goal.invariant-loop
invariant-loop l = record {
  same : Stays l.initial.self l.self;
  swept : Sweeping l.initial.self.sizes l.initial.self.setting l.actions l.initial.marks l.initial.self.work.now l.marks l.self.work.now;
}

abbrev pub decreases-loop : goal.decreases-loop
decreases-loop l = length l.initial.marks - sum l.marks
