use Rattle.std.proofs.Common.{◌<◌, length, sym, ap, ◌∙◌, subst}
use Rattle.std.proofs.lemmas.Result.{err_from_is_err_and}
use Rattle.std.proofs.ByRecursion.{All-from_get_or}
use Rattle.task.specs.Benches.{Lawful}
use Rattle.book.specs.Print.{print}
use Rattle.book.proofs.Readings.{not_read, too_short, held, is_read, rest_kept}
use Rattle.book.proofs.Laws.{lawful}
use Rattle.book.proofs.Reprinted.{one_book}
use Rattle.book.proofs.read.Goals as goal

pub returns-in_err-task-clause-value : goal.returns-in_err-task-clause-value
returns-in_err-task-clause-value c =
    let p = err_from_is_err_and c.from_residual.result c.from_residual.ensures.1 in
    rw (p.1, p.2) (not_read c.args.actions.now (length c.args.actions.now) c.args.book.now c.in_err-task.field-0.0 c.in_err-task.ensures)

pub returns-then-actions-task-clause-value : goal.returns-then-actions-task-clause-value
returns-then-actions-task-clause-value c =
    rw c.at.ensures (too_short c.args.actions.now (length c.args.actions.now) c.args.book.now c.in_ok-task.task c.in_ok-task.ensures c.if-actions-task.true)

pub returns-clause-value : goal.returns-clause-value
returns-clause-value c = is_read c.args.book.now c.args.actions.now c.fill.new.actions c.in_ok-task.task c.in_ok-task.ensures c.if-actions-task.false c.fill.ensures

pub returns-clause-table : goal.returns-clause-table
returns-clause-table c = rest_kept c.args.book.now c.args.actions.now c.fill.new.actions c.in_ok-task.task c.in_ok-task.ensures c.fill.ensures

pub returns-clause-lawful : goal.returns-clause-lawful
returns-clause-lawful c =
    let h = held c.args.book.now c.args.actions.now c.fill.new.actions c.in_ok-task.task c.in_ok-task.ensures c.fill.ensures in
    subst Lawful (sym h.2.bench) (lawful c.args.book.now h.0 h.1)

pub returns-clause-printed : goal.returns-clause-printed
returns-clause-printed c =
    let h = held c.args.book.now c.args.actions.now c.fill.new.actions c.in_ok-task.task c.in_ok-task.ensures c.fill.ensures in
    ap print h.2.bench ∙ one_book c.args.book.now h.0 (All-from_get_or (λ x. x < 256) c.args.book.now 0 (λ i _. (c.type_inv.book i).fits)) h.1
