use Rattle.std.proofs.Common.{ap}
use Rattle.book.specs.declared.records.Kind.TheVariants as kind
use Rattle.book.specs.Print.{head_bytes, both_bytes}
use Rattle.book.proofs.Puts.{writes_then, writes_as}
use Rattle.book.proofs.writer.ActionSpelled.put.Goals as goal

pub returns : goal.returns
returns c =
    writes_then (writes_as c.head.ensures (ap (head_bytes kind.Action) c.body_size.ensures.value))
    (writes_then (writes_as c.bytes.ensures c.to_le_bytes.ensures)
    (writes_then c.word.ensures
    (writes_as c.both.ensures (λ i. both_bytes (c.list.ensures i) (c.list-2.ensures i)))))
