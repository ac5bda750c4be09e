use Rattle.std.proofs.Common.{◌<◌, ◌≤◌, length, take, Some, sym, ap, ◌∙◌, arith}
use Rattle.std.proofs.lemmas.List.{length-take-le, get_or_default}
use Rattle.search.specs.Queues.{queue}
use Rattle.search.proofs.Tells.{queue_long, queue_at}
use Rattle.search.proofs.Heaps.{first_least}
use Rattle.search.proofs.Lines.{first_least_row}
use Rattle.search.proofs.open.Open.first_row.Goals as goal

pub returns-clause-some : goal.returns-clause-some
returns-clause-some g c =
    let o = c.args.self.now in
    let rows = o.rows.now in
    let table = o.table.now in
    let n = o.sizes.used in
    let m = o.sizes.waiting in
    let i = c.within-row.result in
    let r = c.index-self-row.result in
    let w = c.waiting_at-first.result in
    let fits : m ≤ length table = omega (arith, o.roomy) in
    let some : 0 < m = omega (arith, c.if-self-eq0.false) in
    let low : i < n = c.within-row.ensures.low in
    let in' : i < length rows = omega (arith, low, o.roomy) in
    record {
      waits = some;
      low = low;
      read = λ d. (ap (λ x. x.setting) (get_or_default rows i d r in'), ap (λ x. x.charge) (get_or_default rows i d r in'));
      first = λ K p.
          let long = queue_long table m fits in
          let read = c.waiting_at-first.ensures in
          let is = queue_at table m 0 w some read in
          let f = first_least_row K (take n rows) (queue m table) 0 w p.matched (omega arith) is (first_least K (queue m table) w is p.queued) in
          let long_rows = length-take-le n rows (omega (arith, o.roomy)) in
          f.1 ∙ ap Some (sym (c.within-row.ensures.same (let used : w.row < n = omega (arith, f.0, long_rows) in used)));
    }
