use Rattle.std.proofs.Common.{◌≡◌, ◌-◌, ◌≤◌, length, take, set, sym, ap, ◌∙◌, subst, arith}
use Rattle.std.specs.List.Sorted.{IsPermutation}
use Rattle.std.specs.BinaryHeap.Sift.{SiftsDown}
use Rattle.std.proofs.lemmas.List.{length-map}
use Rattle.search.specs.Queues.{waitings, places, queue, turned_order, Noted}
use Rattle.search.proofs.Tells.{queue_at}
use Rattle.search.proofs.Notes.{noted_pop}
use Rattle.search.proofs.Heaps as heaps
use Rattle.search.proofs.queue.Queue.pop.Goals as goal

pub returns : goal.returns
returns g c =
    let q = c.args.self.now in
    let K = g.T.Tariff.charges q.tariff.now in
    let table = q.table.now in
    let n = q.count in
    let x = c.waiting_at-first.result in
    let last = c.waiting_at-last.result in
    let there = c.put.new.self.table.now in
    let sunk = c.sink.new.self.table.now in
    let p = c.put.ensures in
    let s = c.sink.ensures in
    let ys = queue (n - 1) there in
    let zs = queue (n - 1) sunk in
    let fits : n ≤ length (waitings table) = simp length-map q.fits.0 in
    let is : ys ≡ take (n - 1) (set (waitings table) 0 last) = ap (take (n - 1)) p.waits in
    let moved : IsPermutation ys zs = s.shuffled in
    let sinks : SiftsDown (turned_order K.le) ys 0 (n - 1) zs = subst (λ t. SiftsDown (turned_order (g.T.Tariff.charges t.now).le) ys 0 (n - 1) zs) p.kept.1 s.sinks in
    record {
      held = heaps.pop_held K (waitings table) n x last ys zs c.requires fits c.waiting_at-first.ensures c.waiting_at-last.ensures is moved;
      queued = heaps.pop_queued K (waitings table) n x last ys zs c.requires fits c.waiting_at-first.ensures c.waiting_at-last.ensures is moved sinks;
      least = heaps.first_least K (queue n table) x (queue_at table n 0 x c.requires c.waiting_at-first.ensures);
      noted = λ was.
          let before = noted_pop (waitings table) (places table) n last c.requires fits c.waiting_at-last.ensures was in
          s.noted (subst (λ l. Noted l (places there)) (sym is) (subst (Noted (take (n - 1) (set (waitings table) 0 last))) (sym p.places) before));
      kept = ((s.kept.0.0 ∙ p.kept.0.0, s.kept.0.1 ∙ p.kept.0.1), s.kept.1 ∙ p.kept.1);
      count = omega (arith, s.count, c.requires);
    }
