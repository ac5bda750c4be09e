use Rattle.std.proofs.Common.{◌-◌, length}
use Rattle.rules.specs.Queues.{calling}
use Rattle.rules.specs.Members.{SameBytes}
use Rattle.rules.proofs.Spreads.{Going}
use Rattle.rules.proofs.line.Queue.spread.Given as goal

abbrev pub invariant-loop-member : goal.invariant-loop-member
invariant-loop-member l = record {
  same : SameBytes l.initial.self l.self;
  going : Going (calling l.setting l.initial.self.actions.now) l.initial.self.marks.now l.self.marks.now l.self.work.now l.self.head l.self.tail;
}

abbrev pub decreases-loop-member : goal.decreases-loop-member
decreases-loop-member l = length l.initial.self.marks.now - l.self.head
