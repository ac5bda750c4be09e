use Rattle.std.proofs.Common.{◌≡◌, ◌+◌, ◌<◌, length, take, set, sym, ap, ◌∙◌, subst, arith, get_or-take}
use Rattle.std.specs.List.Sorted.{IsPermutation}
use Rattle.std.specs.BinaryHeap.Sift.{SiftsUp}
use Rattle.std.proofs.lemmas.List.{length-map}
use Rattle.search.specs.Queues.{waitings, places, queue, turned_order, Placed, Noted}
use Rattle.search.proofs.Tells.{queue_long}
use Rattle.search.proofs.Notes.{noted_push}
use Rattle.search.proofs.Heaps as heaps
use Rattle.search.proofs.queue.Queue.push.Goals as goal

pub returns : goal.returns
returns g c =
    let q = c.args.self.now in
    let K = g.T.Tariff.charges q.tariff.now in
    let table = q.table.now in
    let n = q.count in
    let e = c.args.waiting in
    let there = c.put.new.self.table.now in
    let risen = c.rise.new.self.table.now in
    let tariff = c.put.new.self.tariff in
    let p = c.put.ensures in
    let r = c.rise.ensures in
    let ys = queue (n + 1) there in
    let zs = queue (n + 1) risen in
    let room : n < length (waitings table) = simp length-map c.requires.0 in
    let is : ys ≡ take (n + 1) (set (waitings table) n e) = ap (take (n + 1)) p.waits in
    let moved : IsPermutation ys zs = subst (λ m. IsPermutation (queue m there) (queue m risen)) p.count r.shuffled in
    let rises : SiftsUp (turned_order K.le) ys n zs = subst (λ t. SiftsUp (turned_order (g.T.Tariff.charges t.now).le) ys n zs) p.kept.1 (subst (λ m. SiftsUp (turned_order (g.T.Tariff.charges tariff.now).le) (queue m there) n (queue m risen)) p.count r.rises) in
    record {
      held = heaps.push_held K (waitings table) n e ys zs room is moved;
      queued = heaps.push_queued K (waitings table) n e ys zs room is moved rises;
      noted = λ fresh row was.
          let row' : e.row < length (places table) = simp length-map row in
          let long = queue_long table n (omega (arith, c.requires.0)) in
          let before = noted_push (waitings table) (places table) n e room row' (λ k h same. fresh k (omega arith) (ap (λ x. x.row) (get_or-take n (waitings table) k e h) ∙ same)) was in
          let noted : Placed (n + 1) there → Placed (n + 1) risen = subst (λ m. Placed m there → Placed m risen) p.count r.noted in
          noted (subst (λ l. Noted l (places there)) (sym is) (subst (Noted (take (n + 1) (set (waitings table) n e))) (sym p.places) before));
      kept = ((r.kept.0.0 ∙ p.kept.0.0, r.kept.0.1 ∙ p.kept.0.1), r.kept.1 ∙ p.kept.1);
      count = r.count ∙ p.count;
    }
