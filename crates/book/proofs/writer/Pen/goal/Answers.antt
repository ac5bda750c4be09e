use Rattle.std.proofs.Common.{◌≡◌, ◌+◌, ◌*◌, length, ap, arith}
use Rattle.book.specs.declared.records.Kind.TheVariants as kind
use Rattle.book.specs.Records.{goal_part}
use Rattle.book.specs.Print.{head_bytes, body_bytes}
use Rattle.book.proofs.Puts.{writes_then, writes_as, atoms_size}
use Rattle.book.proofs.writer.Pen.goal.Goals as goal

pub returns : goal.returns
returns c =
    let size : 1 + 2 * length c.args.atoms.now ≡ length (body_bytes (goal_part c.args.atoms.now)) = omega (arith, atoms_size c.args.atoms.now) in
    writes_then (writes_as c.head.ensures (ap (head_bytes kind.Goal) size)) (writes_then c.bytes.ensures c.all.ensures)
