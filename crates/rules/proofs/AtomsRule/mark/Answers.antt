use Rattle.std.proofs.Common.{◌≤◌, ◌∙◌, arith, rules}
use Rattle.std.proofs.ByRecursion.{All-from_get_or}
use Rattle.std.proofs.lemmas.List.{length-take-le}
use Rattle.rules.specs.Marks.{Zeros}
use Rattle.rules.proofs.Spreads.{none_closes}
use Rattle.rules.proofs.Bridges.{sweep_closes}
use Rattle.rules.proofs.AtomsRule.mark.Goals as goal

pub sweep-requires : goal.sweep-requires
sweep-requires c =
    let sized = c.sized.ensures.0 c.if-not-sized.false in
    let zeros : Zeros c.fill.new.self = search rules in
    (omega (arith, sized.0, length-take-le c.args.task.now.actions c.args.actions.now sized.1), All-from_get_or (λ x. x ≤ 1) c.fill.new.self 0 (λ i l. omega (arith, zeros i l)))

pub returns-in-Some-clause-marked : goal.returns-in-Some-clause-marked
returns-in-Some-clause-marked c asked =
    let sized = c.sized.ensures.0 c.if-not-sized.false in
    let zeros : Zeros c.fill.new.self = search rules in
    sweep_closes c.args.task.now c.args.actions.now c.args.setting c.in-Some.goal asked.lawful (sized.0, sized.1, c.none-pending.ensures.as_many ∙ sized.2)
    zeros
    c.none-pending.ensures.clear
    (cc)
    c.ask.ensures.wrote
    (simp (c.ask.ensures.same.1, c.ask.ensures.same.2, c.none-pending.ensures.bench.0, c.none-pending.ensures.bench.1) at c.sweep.ensures.swept)

pub returns-clause-marked : goal.returns-clause-marked
returns-clause-marked c asked =
    let zeros : Zeros c.fill.new.self = search rules in
    none_closes c.args.task.now c.args.actions.now c.args.setting c.fill.new.self zeros
    (cc)
