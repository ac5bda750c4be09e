use Rattle.std.proofs.Common.{length, ap, arith}
use Rattle.task.specs.Benches.{act_of}
use Rattle.book.proofs.Puts.{body_size}
use Rattle.book.proofs.writer.body_size.Goals as goal

pub returns-clause-value : goal.returns-clause-value
returns-clause-value c = omega (arith, body_size (act_of c.args.action.now), ap length c.list.ensures, ap length c.list-2.ensures)
