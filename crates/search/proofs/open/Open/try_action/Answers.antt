use Rattle.std.proofs.Common.{◌≡◌, true, false, ◌&&◌, eqb, take, sym, ap, ◌∙◌}
use Rattle.task.specs.Settings.{met}
use Rattle.task.specs.Benches.{Act, world}
use Rattle.search.specs.Steps.{problem}
use Rattle.search.specs.Counts.{posed, byte_marked}
use Rattle.search.proofs.Benches.{can_met}
use Rattle.search.proofs.Sweeps.{onward_offered, onward_not}
use Rattle.search.proofs.open.Open.try_action.Goals as goal

pub returns-then-not-is_offered-clause-rows : goal.returns-then-not-is_offered-clause-rows
returns-then-not-is_offered-clause-rows g c = λ b start marks low is mark few.
    let o = c.args.self.now in
    let K = g.T.Tariff.charges o.tariff.now in
    let s = c.args.source in
    let k = c.args.number in
    let can = can_met b s.setting k low ∙ ap (λ (a : Act). met s.setting a.conditions) is in
    let offered : (byte_marked marks k && (world b).can s.setting k) ≡ false = (λ i. eqb (mark i) 1 && can i) ∙ sym c.if-not-is_offered.ensures in
    onward_not (problem b K (posed start o.limits.now)) (byte_marked marks) s.row s.setting s.charge (take o.sizes.used o.rows.now) k offered

pub returns-clause-rows : goal.returns-clause-rows
returns-clause-rows g c = λ b start marks low is mark few.
    let o = c.args.self.now in
    let K = g.T.Tariff.charges o.tariff.now in
    let s = c.args.source in
    let k = c.args.number in
    let can = can_met b s.setting k low ∙ ap (λ (a : Act). met s.setting a.conditions) is in
    let offered : (byte_marked marks k && (world b).can s.setting k) ≡ true = (λ i. eqb (mark i) 1 && can i) ∙ sym c.if-not-is_offered.ensures in
    c.relax.ensures.rows b start is few ∙ onward_offered (problem b K (posed start o.limits.now)) (byte_marked marks) s.row s.setting s.charge (take o.sizes.used o.rows.now) k offered
