use Rattle.std.proofs.Common.{◌≡◌, ◌+◌, length, ◌∙◌, subst, arith, rules}
use Rattle.task.specs.Settings.{unmet}
use Rattle.task.specs.Benches.{Act}
use Rattle.rules.specs.Sets.{called}
use Rattle.rules.specs.Queues.{act_at, Joined}
use Rattle.rules.proofs.Lines.{tail_low}
use Rattle.rules.proofs.Spreads.{going_more, going_all}
use Rattle.rules.proofs.line.Queue.spread.Goals as goal

pub loop-member-preserved : goal.loop-member-preserved
loop-member-preserved c =
    let turn = rw c.in-Some.is at c.next.ensures.turn in
    let still = c.next.ensures.still in
    let head : c.join_called.new.self.head ≡ c.loop-member.self.head + 1 = c.join_called.ensures.same.1 ∙ turn.2 in
    let q = c.next.new.self in
    let r = c.join_called.new.self in
    let j = subst (λ (a : Act). Joined (λ k. called (unmet c.args.setting a.conditions) a (act_at q.actions.now k)) (length q.marks.now) q.marks.now q.work.now q.tail r.marks.now r.work.now r.tail) turn.1 c.join_called.ensures.joined in
    record {
      same = search rules;
      going = rw head (going_more c.loop-member.invariant.going turn.0 (simp (c.next.ensures.same.0, c.loop-member.invariant.same.0, still.0, still.1, still.2) at j));
    }

pub loop-member-smaller : goal.loop-member-smaller
loop-member-smaller c =
    let turn = rw c.in-Some.is at c.next.ensures.turn in
    let g = c.loop-member.invariant.going in
    omega (arith, turn.0, turn.2, c.join_called.ensures.same.1, tail_low g.line, g.as_many)

pub returns-clause-spread : goal.returns-clause-spread
returns-clause-spread c = rw c.next.ensures.still.0 (going_all c.loop-member.invariant.going (rw c.in_default.is at c.next.ensures.turn))
