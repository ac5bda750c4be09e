use Rattle.std.proofs.Common.{sym, ap, arith}
use Rattle.book.specs.Records.{act_spelled}
use Rattle.book.specs.Format.{or_fault}
use Rattle.book.proofs.Faults.{no_fault, fine_action}
use Rattle.book.proofs.check_action.Goals as goal

pub returns : goal.returns
returns c =
    ap or_fault (sym (fine_action c.args.sizes.now (act_spelled c.args.action) (omega arith) (omega arith) (λ e. omega (arith, e)) (sym (no_fault _ c.in_ok-check_atoms.ensures)) (sym (no_fault _ c.in_ok-check_atoms-2.ensures)) (sym c.if-repeats.ensures)))
