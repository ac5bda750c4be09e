use Rattle.std.proofs.Common.{length, Some, sym, ap, ◌∙◌}
use Rattle.search.specs.Session.{do_next}
use Rattle.search.specs.Left.{lengths, old_quest, end_of}
use Rattle.search.proofs.Promises.{promised}
use Rattle.search.proofs.Sessions.{take_by}
use Rattle.search.proofs.Takings.{took, phase_is, action_is, remaining_is}
use Rattle.search.proofs.ended.take.Goals as goal

pub returns-in-Err-clause-promised : goal.returns-in-Err-clause-promised
returns-in-Err-clause-promised g c = λ b calls rows queue marks work lawful lent left.
    let K = g.T.Tariff.charges c.args.tariff.now in
    let e = c.args.ended in
    let l = lengths (length c.args.actions.now) rows queue (length c.args.plan.now) marks work in
    let w = take_by b K calls (old_quest e) (end_of e.ending left.plan e.taken) e.expanded l left.is (Some c.in-Err.refusal) (c.in-Err.ensures.refused b left.plan rows queue marks work left.task left.number) in
    (ap (λ p. p.1) w, record { task = left.task; plan = left.plan; is = ap (λ p. p.0) w; number = left.number; in_list = left.in_list }, promised b K lawful _)

pub returns-clause-promised : goal.returns-clause-promised
returns-clause-promised g c = λ b calls rows queue marks work lawful lent left.
    let K = g.T.Tariff.charges c.args.tariff.now in
    let e = c.args.ended in
    let table = c.args.actions.now in
    let list = c.args.plan.now in
    let can = c.in_default.ensures.ready in
    let next = c.next_action-action.ensures in
    let l = lengths (length table) rows queue (length list) marks work in
    let none = c.in_default.ensures.refused b left.plan rows queue marks work left.task left.number in
    let action = next.action ∙ action_is b K lawful calls e table list l lent left can none in
    let remaining = next.remaining ∙ remaining_is b K lawful calls e table list l lent left can none in (
      ap (λ p. p.1) (took b K lawful calls e table list l lent left can none) ∙ (λ i. do_next (sym action i) (sym remaining i)),
      record { task = left.task; plan = left.plan; is = phase_is b K lawful calls e table list l lent left can none; number = left.number; in_list = left.in_list },
      promised b K lawful _,
    )
