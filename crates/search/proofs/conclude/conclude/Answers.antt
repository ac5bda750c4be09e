use Rattle.std.proofs.Common.{refl, ap}
use Rattle.search.specs.Counts.{outcome_of}
use Rattle.search.proofs.conclude.conclude.Goals as goal

pub returns-in-AtGoal : goal.returns-in-AtGoal
returns-in-AtGoal g c =
    let K = g.T.Tariff.charges c.args.tariff.now in
    let plan = c.write_plan-planned.ensures in
    (c.in-AtGoal.row, ap outcome_of c.in-AtGoal.is, refl, c.charge_at-charge.ensures, c.end-ended.ensures _ (plan.count K.zero K.le), plan.written K.zero K.le)
