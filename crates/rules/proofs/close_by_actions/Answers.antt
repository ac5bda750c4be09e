use Rattle.std.proofs.Common.{subst, arith, rules, tests}
use Rattle.std.proofs.lemmas.List.{length-take-le}
use Rattle.task.specs.Benches.{Act, achieving, bench_of}
use Rattle.rules.specs.Marks.{Marked}
use Rattle.rules.specs.Sets.{stubborn}
use Rattle.rules.proofs.Spreads.{none_closes, spread_closes}
use Rattle.rules.proofs.close_by_actions.Goals as goal

pub none-queue-requires : goal.none-queue-requires
none-queue-requires c =
    let sized = c.requires.0 in
    (sized.2, omega (arith, sized.0, c.args.task.now.limits.1), omega (arith, sized.0, length-take-le c.args.task.now.actions c.args.actions.now sized.1), c.requires.1)

pub returns-in-Some : goal.returns-in-Some
returns-in-Some c =
    let empty = c.none-queue.ensures.empty in
    let j = c.join_where.ensures.joined (λ (a : Act). achieving a c.in-Some.goal) (λ a r told. search (rules, tests)) in
    subst (λ m. Marked (stubborn (bench_of c.args.task.now c.args.actions.now) c.args.setting) m) (search rules)
    (spread_closes c.args.task.now c.args.actions.now c.args.setting c.in-Some.goal c.requires.0 c.requires.1
    (cc)
    (simp (empty.0, empty.1, empty.2, empty.4) at j)
    (simp (c.join_where.ensures.same.0.0, empty.0) at c.spread.ensures.spread))

pub returns-in_default : goal.returns-in_default
returns-in_default c =
    none_closes c.args.task.now c.args.actions.now c.args.setting c.args.marks.now c.requires.1
    (cc)
