use Rattle.std.proofs.Common.{ap}
use Rattle.book.specs.Print.{word_bytes}
use Rattle.book.proofs.Puts.{writes_then, writes_as}
use Rattle.book.proofs.writer.Pen.head.Goals as goal

pub returns : goal.returns
returns c = writes_then c.word.ensures (writes_as c.word-2.ensures (ap word_bytes c.from.ensures))
