use Rattle.std.proofs.Common.{◌≡◌, ◌≤◌, true, length, take, set, sym, ap, ◌∙◌, subst}
use Rattle.std.specs.List.Sorted.{IsPermutation}
use Rattle.std.specs.BinaryHeap.Sift.{SiftsUp}
use Rattle.std.proofs.lemmas.List.{length-map, set-get_or}
use Rattle.std.proofs.lemmas.Option.{get_or_from_slice_get}
use Rattle.search.specs.Queues.{waitings, places, queue, sooner, turned_order, Placed, Noted}
use Rattle.search.proofs.Notes.{noted_lower}
use Rattle.search.proofs.Heaps as heaps
use Rattle.search.proofs.queue.Queue.lower.Goals as goal

pub returns : goal.returns
returns g c =
    let q = c.args.self.now in
    let K = g.T.Tariff.charges q.tariff.now in
    let table = q.table.now in
    let n = q.count in
    let e = c.args.waiting in
    let x = c.waiting_at-held.result in
    let j = c.in-Some.place in
    let found = c.in-Some.ensures.found in
    let there = c.put.new.self.table.now in
    let risen = c.rise.new.self.table.now in
    let tariff = c.put.new.self.tariff in
    let p = c.put.ensures in
    let r = c.rise.ensures in
    let ys = queue n there in
    let zs = queue n risen in
    let fits : n ≤ length (waitings table) = simp length-map q.fits.0 in
    let is : ys ≡ take n (set (waitings table) j e) = ap (take n) p.waits in
    let earlier : sooner K.le e x ≡ true = sym c.if-not-is_sooner.ensures in
    let row : x.row ≡ e.row = ap (λ y. y.row) c.waiting_at-held.ensures ∙ found.1 x in
    let moved : IsPermutation ys zs = subst (λ m. IsPermutation (queue m there) (queue m risen)) p.count r.shuffled in
    let rises : SiftsUp (turned_order K.le) ys j zs = subst (λ t. SiftsUp (turned_order (g.T.Tariff.charges t.now).le) ys j zs) p.kept.1 (subst (λ m. SiftsUp (turned_order (g.T.Tariff.charges tariff.now).le) (queue m there) j (queue m risen)) p.count r.rises) in
    record {
      held = λ was. heaps.lower_held K (waitings table) n j x e ys zs found.0 fits c.waiting_at-held.ensures earlier is moved row;
      queued = heaps.lower_queued K (waitings table) n j x e ys zs found.0 fits c.waiting_at-held.ensures earlier is moved rises;
      noted = λ was.
          let same : places there ≡ places table = p.places ∙ ap (set (places table) e.row) (sym (get_or_from_slice_get (places table) e.row j 0 c.in-Some.ensures.noted)) ∙ set-get_or (places table) e.row 0 in
          let before = noted_lower (waitings table) (places table) n j x e found.0 fits c.waiting_at-held.ensures row was in
          let noted : Placed n there → Placed n risen = subst (λ m. Placed m there → Placed m risen) p.count r.noted in
          noted (subst (λ l. Noted l (places there)) (sym is) (subst (Noted (take n (set (waitings table) j e))) (sym same) before));
      kept = ((r.kept.0.0 ∙ p.kept.0.0, r.kept.0.1 ∙ p.kept.0.1), r.kept.1 ∙ p.kept.1);
      count = r.count ∙ p.count;
    }
