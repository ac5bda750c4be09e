use Rattle.std.proofs.Common.{rules, ◌≡◌, ◌+◌, ◌<◌, [], ◌∷◌, ◌++◌, length, take, set, sym, refl, ap, subst, arith}
use Rattle.std.proofs.lemmas.List.{take_more_set, length-take-le, length_push}
use Rattle.search.specs.Queues.{queue}
use Rattle.search.specs.Lined.{Matched, Lined}
use Rattle.search.proofs.Lines.{matched_push, fresh}
use Rattle.search.proofs.open.Open.push_row.Goals as goal

pub returns-clause-lined : goal.returns-clause-lined
returns-clause-lined g c = λ unshut p.
    let o = c.args.self.now in
    let K = g.T.Tariff.charges o.tariff.now in
    let n = o.sizes.used in
    let m = o.sizes.waiting in
    let rows = o.rows.now in
    let new = c.args.new in
    let in' : n < length rows = omega (arith, c.requires, o.roomy.rows) in
    let front : take (n + 1) (set rows n new) ≡ take n rows ++ new ∷ [] = take_more_set rows n new in' in
    let long : length (take n rows) ≡ n = length-take-le n rows (omega (arith, o.roomy.used, o.roomy.rows)) in
    subst (Lined K.le (take (n + 1) (set rows n new)) (m + 1)) (search rules) (
    let there : Lined K.le (take (n + 1) (set rows n new)) (m + 1) c.push.new.self.table.now = record {
      queued = c.push.ensures.queued p.queued;
      placed = c.push.ensures.noted (fresh (take n rows) _ _ p.matched (sym long)) (omega (arith, c.requires, o.roomy.queue)) p.placed;
      matched = subst (λ l. Matched l (queue (m + 1) c.push.new.self.table.now)) (sym front) (matched_push (take n rows) _ _ new _ p.matched unshut (sym long) refl c.push.ensures.held);
      few = omega (arith, p.few, ap length front, length_push (take n rows) new);
    } in there
    )
