use Rattle.std.proofs.Common.{rules, ◌≡◌, ◌-◌, ◌<◌, length, get_or, take, set, Some, sym, ap, ◌∙◌, subst, arith, length-set, get_or-take}
use lib.Seq.{take-set-lt}
use Rattle.std.proofs.lemmas.List.{length-take-le, get_or_default}
use Rattle.search.specs.Rows.{shut}
use Rattle.search.specs.Queues.{queue}
use Rattle.search.specs.Lined.{Matched, Lined}
use Rattle.search.proofs.Lines.{matched_close, popped_least_row}
use Rattle.search.proofs.open.Open.close_first.Goals as goal

pub returns-clause-lined : goal.returns-clause-lined
returns-clause-lined g c = λ p first.
    let o = c.args.self.now in
    let K = g.T.Tariff.charges o.tariff.now in
    let n = o.sizes.used in
    let m = o.sizes.waiting in
    let rows = o.rows.now in
    let i = c.args.row in
    let low = c.requires.1 in
    let r = c.index-self-row.result in
    let held = get_or rows i r in
    let w = c.pop.result in
    let table = c.pop.new.self.table.now in
    let ys = queue (m - 1) table in
    let in' : i < length rows = omega (arith, low, o.roomy.used, o.roomy.rows) in
    let front : take n (set rows i (shut held)) ≡ set (take n rows) i (shut held) = take-set-lt n rows i (shut held) low in
    let f = popped_least_row K (take n rows) (queue m o.table.now) ys w p.matched c.pop.ensures.held (c.pop.ensures.least p.queued) in
    let same : w.row ≡ i = (let s : Some w.row ≡ Some i = sym f.1 ∙ first in cc) in
    let long = length-take-le n rows (omega (arith, o.roomy.used, o.roomy.rows)) in
    let at : held ≡ get_or (take n rows) w.row held = get_or_default rows i r held in' ∙ sym (get_or-take n rows i held low) ∙ ap (λ k. get_or (take n rows) k held) (sym same) in
    subst (Lined K.le (take n (set rows i (shut held))) c.pop.new.self.count) (search rules) (
    subst (λ k. Lined K.le (take n (set rows i (shut held))) k table) (omega (arith, c.pop.ensures.count)) (
    let there : Lined K.le (take n (set rows i (shut held))) (m - 1) table = record {
      queued = c.pop.ensures.queued p.queued;
      placed = c.pop.ensures.noted p.placed;
      matched = subst (λ l. Matched l ys) (ap (λ k. set (take n rows) k (shut held)) same ∙ sym front) (matched_close (take n rows) (queue m o.table.now) ys w held p.matched c.pop.ensures.held at);
      few = omega (arith, p.few, ap length front, length-set (take n rows) i (shut held));
    } in there
    )
    )
