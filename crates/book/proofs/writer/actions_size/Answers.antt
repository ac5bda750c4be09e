use Rattle.std.proofs.Common.{◌≡◌, length, arith, rules, sum_by}
use Rattle.task.specs.Benches.{act_of}
use Rattle.book.specs.Print.{action_bytes}
use Rattle.book.proofs.Puts.{actions_limit}
use Rattle.book.proofs.writer.actions_size.Goals as goal

pub returns-clause-bound : goal.returns-clause-bound
returns-clause-bound c =
    let value : c.sum.result ≡ sum_by (λ action. length (action_bytes (act_of action))) c.args.actions.now = search rules in
    omega (arith, c.requires, value, actions_limit c.args.actions.now)
