use Rattle.book.proofs.Puts.{writes_then}
use Rattle.book.proofs.writer.Pen.both.Goals as goal

pub returns : goal.returns
returns c = writes_then c.bytes.ensures (writes_then c.all.ensures c.all-2.ensures)
