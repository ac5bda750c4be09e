use Rattle.std.proofs.Common.{length, ap, arith}
use Rattle.book.specs.Writer.{bench_with}
use Rattle.book.proofs.Puts.{book_parts, actions_length}
use Rattle.book.proofs.writer.book_size.Goals as goal

pub returns : goal.returns
returns c = omega (arith, book_parts (bench_with c.args.task.now c.args.actions.now), actions_length c.args.actions.now, c.actions_size.ensures.value, ap length c.sizes_of.ensures, ap length c.list.ensures)
