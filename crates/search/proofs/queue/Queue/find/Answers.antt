use Rattle.std.proofs.Common.{◌≡◌, ◌<◌, length, get_or, Some, sym, ap, ◌∙◌, arith}
use Rattle.std.proofs.lemmas.List.{get_or_default}
use Rattle.search.specs.Queues.{places, queue}
use Rattle.search.proofs.Notes.{noted_get}
use Rattle.search.proofs.Tells.{queue_long, queue_at}
use Rattle.search.proofs.queue.Queue.find.Goals as goal
use Rattle.search.proofs.queue.Queue.find.Goals.{else-place-self-via-then-place-self+else-waiting_at-row, else-place-self-via-else-place-self}

pub returns-in_err-place-clause-each : goal.returns-in_err-place-clause-each
returns-in_err-place-clause-each g c = λ was k d h row.
    let q = c.args.self.now in
    let in' : k < length (queue q.count q.table.now) = omega (arith, queue_long q.table.now q.count q.fits.0) in
    c.from_residual.ensures ∙ sym c.in_err-place.was ∙ c.place_of.ensures ∙ noted_get (queue q.count q.table.now) (places q.table.now) c.args.row k d was in' row

pub returns-then-waiting_at-row-clause-each : goal.returns-then-waiting_at-row-clause-each
returns-then-waiting_at-row-clause-each g c = λ was k d h row.
    let q = c.args.self.now in
    let in' : k < length (queue q.count q.table.now) = omega (arith, queue_long q.table.now q.count q.fits.0) in
    sym c.in_ok-place.was ∙ c.place_of.ensures ∙ noted_get (queue q.count q.table.now) (places q.table.now) c.args.row k d was in' row

pub returns-clause-each : goal.returns-clause-each
returns-clause-each g c = λ was k d h row.
    let q = c.args.self.now in
    let long = queue_long q.table.now q.count q.fits.0 in
    let in' : k < length (queue q.count q.table.now) = omega arith in
    let there : Some c.in_ok-place.place ≡ Some k = sym c.in_ok-place.was ∙ c.place_of.ensures ∙ noted_get (queue q.count q.table.now) (places q.table.now) c.args.row k d was in' row in
    let same : c.in_ok-place.place ≡ k = cc in
    elim c.else-place-self.branch [
      | else-place-self-via-then-place-self+else-waiting_at-row w ↦
          let x = w.waiting_at.result in
          let is : get_or (queue q.count q.table.now) k d ≡ x = get_or_default (queue q.count q.table.now) k d x in' ∙ ap (λ m. get_or (queue q.count q.table.now) m x) (sym same) ∙ sym (queue_at q.table.now q.count c.in_ok-place.place x w.if-place-self.true w.waiting_at.ensures) in
          absurd (w.if-waiting_at-row.false (ap (λ y. y.row) (sym is) ∙ row))
      | else-place-self-via-else-place-self w ↦ absurd (omega (arith, w.if-place-self.false))
    ]
