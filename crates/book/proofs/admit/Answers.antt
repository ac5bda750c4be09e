use Rattle.std.proofs.Common.{◌≡◌, sym, ◌∙◌, rules}
use Rattle.std.proofs.lemmas.Result.{err_from_is_err_and}
use Rattle.book.specs.Records.{shown, offset}
use Rattle.book.proofs.Faults.{placed, map_err_is}
use Rattle.book.proofs.Steps.{refused, accepted}
use Rattle.book.proofs.admit.Goals as goal

pub returns-in_err-map_err : goal.returns-in_err-map_err
returns-in_err-map_err c b o =
    let checked : c.map_err.result ≡ placed c.check.result c.place-place.result = search (rules, map_err_is) in
    let p = err_from_is_err_and c.from_residual.result c.from_residual.ensures.1 in
    rw (p.1, p.2) (refused c.args.task b o (shown c.args.part) (offset c.args.part) c.in_err-map_err.field-0.0 (sym c.in_err-map_err.was ∙ checked ∙ (λ i. placed (c.check.ensures i) (c.place-place.ensures i))))

pub returns : goal.returns
returns c b o =
    let checked : c.map_err.result ≡ placed c.check.result c.place-place.result = search (rules, map_err_is) in
    accepted c.args.task b o (shown c.args.part) (offset c.args.part) (sym c.in_ok-map_err.was ∙ checked ∙ (λ i. placed (c.check.ensures i) (c.place-place.ensures i))) (c.grow.ensures b o)
