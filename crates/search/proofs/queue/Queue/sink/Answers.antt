use Rattle.std.proofs.Common.{◌≡◌, ◌/◌, ◌<◌, ◌≤◌, true, false, length, refl, ◌∙◌, subst, arith}
use Rattle.std.proofs.lemmas.List.Sorted.{IsPermutation-refl, IsPermutation-trans, IsPermutation-swap}
use Rattle.std.specs.BinaryHeap.Sift.{IsGreaterChild}
use Rattle.std.proofs.HeapSift as sifts
use Rattle.std.specs.List.{swap}
use Rattle.search.specs.Queues.{queue, sooner, turned_order, Placed}
use Rattle.search.proofs.Ranks.{queue_order}
use Rattle.search.proofs.Tells.{tells, queue_long}
use Rattle.search.proofs.queue.Queue.sink.Goals as goal

pub loop-place-init : goal.loop-place-init
loop-place-init g c = record { shuffled = IsPermutation-refl _; sinking = sifts.sink_begins _ _ _ _ _; noted = λ was. was; same = (refl, refl); tariff = refl; count = refl }

pub returns-then-not-is_sooner : goal.returns-then-not-is_sooner
returns-then-not-is_sooner g c =
    let q = c.args.self.now in
    let l = c.loop-place in
    let v = l.invariant in
    let n = q.count in
    let K = g.T.Tariff.charges q.tariff.now in
    let T = l.self.table.now in
    let below = c.sooner_below-below.result in
    let bound = c.sooner_below-below.ensures.bound in
    let here = c.waiting_at-here.result in
    let down = c.waiting_at-down.result in
    let fits : n ≤ length T = omega (arith, v.same.1, q.fits.0) in
    let answer : false ≡ sooner K.le down here = subst (λ t. false ≡ sooner (g.T.Tariff.charges t.now).le down here) v.tariff c.if-not-is_sooner.ensures in
    let best : IsGreaterChild (turned_order K.le) (queue n T) l.place below n = subst (λ t. IsGreaterChild (turned_order (g.T.Tariff.charges t.now).le) (queue n T) l.place below n) v.tariff (subst (λ m. IsGreaterChild (turned_order (g.T.Tariff.charges l.self.tariff.now).le) (queue m T) l.place below m) v.count c.sooner_below-below.ensures.best) in
    let told = tells K.le T n l.place below here down false (omega (arith, bound, v.count)) (omega (arith, bound, v.count)) fits c.waiting_at-here.ensures c.waiting_at-down.ensures answer in
    record {
      shuffled = v.shuffled;
      sinks = sifts.sink_rests (turned_order K.le) (queue_order K) (queue n q.table.now) (queue n T) 0 n l.place below best told v.sinking;
      noted = v.noted;
      kept = (v.same, v.tariff);
      count = v.count;
    }

pub loop-place-preserved : goal.loop-place-preserved
loop-place-preserved g c =
    let q = c.args.self.now in
    let l = c.loop-place in
    let v = l.invariant in
    let n = q.count in
    let K = g.T.Tariff.charges q.tariff.now in
    let T = l.self.table.now in
    let below = c.sooner_below-below.result in
    let bound = c.sooner_below-below.ensures.bound in
    let here = c.waiting_at-here.result in
    let down = c.waiting_at-down.result in
    let e = c.exchange.ensures in
    let old = queue n T in
    let new = queue n c.exchange.new.self.table.now in
    let fits : n ≤ length T = omega (arith, v.same.1, q.fits.0) in
    let long = queue_long T n fits in
    let answer : true ≡ sooner K.le down here = subst (λ t. true ≡ sooner (g.T.Tariff.charges t.now).le down here) v.tariff c.if-not-is_sooner.ensures in
    let best : IsGreaterChild (turned_order K.le) (queue n T) l.place below n = subst (λ t. IsGreaterChild (turned_order (g.T.Tariff.charges t.now).le) (queue n T) l.place below n) v.tariff (subst (λ m. IsGreaterChild (turned_order (g.T.Tariff.charges l.self.tariff.now).le) (queue m T) l.place below m) v.count c.sooner_below-below.ensures.best) in
    let told = tells K.le T n l.place below here down true (omega (arith, bound, v.count)) (omega (arith, bound, v.count)) fits c.waiting_at-here.ensures c.waiting_at-down.ensures answer in
    let in_here : l.place < length old = omega (arith, bound, v.count) in
    let in_down : below < length old = omega (arith, bound, v.count) in
    let swapped : new ≡ swap old l.place below = subst (λ m. queue m c.exchange.new.self.table.now ≡ swap (queue m T) l.place below) v.count e.swapped in
    record {
      shuffled = IsPermutation-trans _ _ _ v.shuffled (IsPermutation-swap old new l.place below in_here in_down swapped);
      sinking = sifts.sink_steps (turned_order K.le) (queue_order K) (queue n q.table.now) old new 0 n l.place below (omega arith) bound.1 bound.2 (omega (arith, bound, v.count)) (omega arith) swapped best told v.sinking;
      noted = λ was. subst (λ m. Placed m T → Placed m c.exchange.new.self.table.now) v.count e.noted (v.noted was);
      same = (e.kept.0.0 ∙ v.same.0, e.kept.0.1 ∙ v.same.1);
      tariff = e.kept.1 ∙ v.tariff;
      count = e.count ∙ v.count;
    }

pub returns : goal.returns
returns g c =
    let q = c.args.self.now in
    let l = c.loop-place in
    let v = l.invariant in
    let K = g.T.Tariff.charges q.tariff.now in
    let end : q.count / 2 ≤ l.place = omega (arith, c.loop-place-test.false, v.count) in
    record {
      shuffled = v.shuffled;
      sinks = sifts.sink_ends (turned_order K.le) (queue_order K) (queue q.count q.table.now) (queue q.count l.self.table.now) 0 q.count l.place end v.sinking;
      noted = v.noted;
      kept = (v.same, v.tariff);
      count = v.count;
    }
