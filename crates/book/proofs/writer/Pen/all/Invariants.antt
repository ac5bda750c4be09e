use Rattle.std.proofs.Common.{take}
use Rattle.std.specs.List.{flat_map}
use Rattle.book.specs.Writer.{Writes}
use Rattle.book.proofs.writer.Pen.all.Given as goal

abbrev pub invariant-loop-item : goal.invariant-loop-item
invariant-loop-item g l = Writes l.initial.self l.self (flat_map g.T.Spelled.spelling (take l.item-index l.items))
