use Rattle.rules.proofs.Passes.{sweeping_less}
use Rattle.rules.proofs.waiting.Pending.sweep.Goals as goal

pub loop-smaller : goal.loop-smaller
loop-smaller c = sweeping_less _ _ _ c.loop.invariant.swept (simp (c.loop.invariant.same.1, c.loop.invariant.same.2) at c.pass.ensures.passed) c.loop-test.true
