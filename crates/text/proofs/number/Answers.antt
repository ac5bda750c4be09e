use Rattle.std.proofs.Common.{arith}
use Rattle.text.proofs.Decimals.{below_limit}
use Rattle.text.proofs.number.Goals as goal

pub returns-clause-bound : goal.returns-clause-bound
returns-clause-bound c = below_limit c.args.limit c.args.text.now (omega arith) _ c.few_digits.ensures.bound
