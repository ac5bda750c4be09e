use Rattle.std.proofs.Common.{◌≡◌, Some, None, rules, tests}
use Rattle.task.specs.Settings.{unmet}
use Rattle.task.specs.Benches.{Act, achieving, interfering, act_of}
use Rattle.rules.proofs.line.Queue.join_called.Goals as goal

pub returns-in-Some-clause-joined : goal.returns-in-Some-clause-joined
returns-in-Some-clause-joined c =
    let first : unmet c.args.setting (act_of c.args.member.now).conditions ≡ Some c.in-Some.atom = cc in
    simp first (c.join_where.ensures.joined (λ (a : Act). achieving a c.in-Some.atom) (λ a r told. search (rules, tests)))

pub returns-in-None-clause-joined : goal.returns-in-None-clause-joined
returns-in-None-clause-joined c =
    let first : unmet c.args.setting (act_of c.args.member.now).conditions ≡ None = cc in
    simp first (c.join_where-in-None.ensures.joined (λ (a : Act). interfering a (act_of c.args.member.now)) (λ a r told. search (rules, tests)))
