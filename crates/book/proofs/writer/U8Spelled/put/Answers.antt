use Rattle.book.proofs.Puts.{writes_then}
use Rattle.book.proofs.writer.U8Spelled.put.Goals as goal

pub returns : goal.returns
returns c = writes_then c.head.ensures c.bytes.ensures
