use Rattle.std.proofs.Common.{[], Ok, Err, length, sym, refl, ap, subst, ◌∙◌}
use Rattle.std.proofs.lemmas.Result.{err_from_is_err_and}
use Rattle.task.specs.declared.refusal.Fault.TheVariants.{NoGoal}
use Rattle.task.specs.Refusals.{refuse}
use Rattle.book.specs.Format.{reading, parse}
use Rattle.book.specs.Reader.{Agree, Outline}
use Rattle.book.proofs.Runs.{begins, surveys, head_fails, record_fails, closes, is_done, no_goal}
use Rattle.book.proofs.survey.Goals as goal

pub loop-raw-init : goal.loop-raw-init
loop-raw-init c =
    record {
      bench = record { sizes = []; actions = []; goal = [] };
      walk = begins c.args.book.now _ _ _ (ap (λ z. z.left.now) c.into_iter-raw-iterator.ensures.into_iter_gives ∙ c.of-raw-items.ensures.left) (ap (λ z. z.at) c.into_iter-raw-iterator.ensures.into_iter_gives ∙ c.of-raw-items.ensures.place) (ap (λ z. reading z (record { sizes = []; actions = []; goal = [] })) c.default.ensures);
      outline = record { variables = refl; sizes = refl; actions = refl; goal = c.none.ensures };
    }

pub returns-in_err-raw : goal.returns-in_err-raw
returns-in_err-raw c =
    let p = err_from_is_err_and c.from_residual.result c.from_residual.ensures.1 in
    rw (p.1, p.2) (head_fails c.args.book.now c.loop-raw.seen c.loop-raw.raw-iterator c.next.new.self c.in-Some.raw c.in_err-raw.field-0.0 c.loop-raw.invariant c.in-Some.ensures.steps c.in_err-raw.was)

pub returns-in_err-seen : goal.returns-in_err-seen
returns-in_err-seen c =
    let p = err_from_is_err_and c.from_residual-in_err-seen.result c.from_residual-in_err-seen.ensures.1 in
    rw (p.1, p.2) (record_fails c.args.book.now c.loop-raw.seen c.loop-raw.raw-iterator c.next.new.self c.in-Some.raw c.in_ok-raw.field-0 c.in_err-seen.field-0.0 c.loop-raw.invariant c.in-Some.ensures.steps c.in_ok-raw.was (c.in_err-seen.ensures c.loop-raw.invariant.bench c.loop-raw.invariant.outline))

pub loop-raw-preserved : goal.loop-raw-preserved
loop-raw-preserved c =
    surveys c.args.book.now c.loop-raw.seen c.in_ok-seen.seen c.loop-raw.raw-iterator c.next.new.self c.in-Some.raw c.in_ok-raw.field-0 c.loop-raw.invariant c.in-Some.ensures.steps c.in_ok-raw.was (c.in_ok-seen.ensures c.loop-raw.invariant.bench c.loop-raw.invariant.outline)

pub returns-in-Done : goal.returns-in-Done
returns-in-Done c =
    closes c.args.book.now c.loop-raw.raw-iterator.left.now c.loop-raw.raw-iterator.at c.loop-raw.seen c.loop-raw.invariant c.in-None.ensures.steps (Ok c.loop-raw.seen.task) (is_done c.loop-raw.seen.stage c.loop-raw.invariant.bench (length c.args.book.now) c.loop-raw.seen.task c.in-Done.is c.loop-raw.invariant.outline)

pub returns-in_default : goal.returns-in_default
returns-in_default c =
    subst (λ e. Agree Outline (Err e) (parse c.args.book.now)) (sym c.at.ensures)
    (closes c.args.book.now c.loop-raw.raw-iterator.left.now c.loop-raw.raw-iterator.at c.loop-raw.seen c.loop-raw.invariant c.in-None.ensures.steps (refuse NoGoal (length c.args.book.now)) (no_goal c.loop-raw.seen.stage c.loop-raw.invariant.bench (length c.args.book.now) c.in_default.not-Done))
