use Rattle.std.proofs.Common.{◌≡◌, Bool}
use Rattle.std.specs.Fn.{FnReturnsAt}
use Rattle.task.specs.declared.data.Action.{Action}
use Rattle.task.specs.Benches.{Act, act_of}
use Rattle.rules.specs.Queues.{act_at, Joined}
use Rattle.rules.specs.Members.{NoTurn}
use Rattle.rules.proofs.line.Queue.join_where.Given as goal

abbrev pub invariant-loop-number : goal.invariant-loop-number
invariant-loop-number g l = record {
  same : NoTurn l.initial.self l.self;
  joined : (passes : Act → Bool)
      → ((a : Action) (r : Bool) → FnReturnsAt g.F.Fn l.test a r → r ≡ passes (act_of a))
      → Joined (λ k. passes (act_at l.actions k)) l.number l.initial.self.marks.now l.initial.self.work.now l.initial.self.tail l.self.marks.now l.self.work.now l.self.tail;
}
