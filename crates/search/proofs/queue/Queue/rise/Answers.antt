use Rattle.std.proofs.Common.{◌≡◌, ◌-◌, ◌/◌, ◌<◌, ◌≤◌, true, false, length, refl, ◌∙◌, subst, arith}
use Rattle.std.proofs.lemmas.List.Sorted.{IsPermutation-refl, IsPermutation-trans, IsPermutation-swap}
use Rattle.std.proofs.HeapSift as sifts
use Rattle.std.specs.List.{swap}
use Rattle.search.specs.Queues.{queue, sooner, turned_order, Placed}
use Rattle.search.proofs.Ranks.{queue_order}
use Rattle.search.proofs.Tells.{tells, queue_long}
use Rattle.search.proofs.queue.Queue.rise.Goals as goal

pub loop-place-init : goal.loop-place-init
loop-place-init g c = record { within = c.requires; higher = omega arith; shuffled = IsPermutation-refl _; rising = sifts.rise_begins _ _ _ _; noted = λ was. was; same = (refl, refl); tariff = refl; count = refl }

pub returns-then-not-is_sooner : goal.returns-then-not-is_sooner
returns-then-not-is_sooner g c =
    let q = c.args.self.now in
    let l = c.loop-place in
    let v = l.invariant in
    let n = q.count in
    let K = g.T.Tariff.charges q.tariff.now in
    let up = c.waiting_at-up.result in
    let here = c.waiting_at-here.result in
    let fits : n ≤ length l.self.table.now = omega (arith, v.same.1, q.fits.0) in
    let answer : false ≡ sooner K.le here up = subst (λ t. false ≡ sooner (g.T.Tariff.charges t.now).le here up) v.tariff c.if-not-is_sooner.ensures in
    let told = tells K.le l.self.table.now n ((l.place - 1) / 2) l.place up here false (omega (arith, v.within)) v.within fits c.waiting_at-up.ensures c.waiting_at-here.ensures answer in
    record {
      shuffled = v.shuffled;
      rises = sifts.rise_rests (turned_order K.le) (queue_order K) (queue n q.table.now) (queue n l.self.table.now) c.args.start l.place told v.rising;
      noted = v.noted;
      kept = (v.same, v.tariff);
      count = v.count;
    }

pub loop-place-preserved : goal.loop-place-preserved
loop-place-preserved g c =
    let q = c.args.self.now in
    let l = c.loop-place in
    let v = l.invariant in
    let n = q.count in
    let K = g.T.Tariff.charges q.tariff.now in
    let up = c.waiting_at-up.result in
    let here = c.waiting_at-here.result in
    let e = c.exchange.ensures in
    let above = (l.place - 1) / 2 in
    let old = queue n l.self.table.now in
    let new = queue n c.exchange.new.self.table.now in
    let fits : n ≤ length l.self.table.now = omega (arith, v.same.1, q.fits.0) in
    let long = queue_long l.self.table.now n fits in
    let answer : true ≡ sooner K.le here up = subst (λ t. true ≡ sooner (g.T.Tariff.charges t.now).le here up) v.tariff c.if-not-is_sooner.ensures in
    let told = tells K.le l.self.table.now n above l.place up here true (omega (arith, v.within)) v.within fits c.waiting_at-up.ensures c.waiting_at-here.ensures answer in
    let in_here : l.place < length old = omega (arith, v.within) in
    let in_up : above < length old = omega (arith, v.within) in
    let swapped : new ≡ swap old above l.place = subst (λ m. queue m c.exchange.new.self.table.now ≡ swap (queue m l.self.table.now) above l.place) v.count e.swapped in
    record {
      within = omega (arith, v.within);
      higher = omega (arith, v.higher);
      shuffled = IsPermutation-trans _ _ _ v.shuffled (IsPermutation-swap old new above l.place in_up in_here swapped);
      rising = sifts.rise_steps (turned_order K.le) (queue_order K) (queue n q.table.now) old new c.args.start l.place c.loop-place-test.true v.higher in_here swapped told v.rising;
      noted = λ was. subst (λ m. Placed m l.self.table.now → Placed m c.exchange.new.self.table.now) v.count e.noted (v.noted was);
      same = (e.kept.0.0 ∙ v.same.0, e.kept.0.1 ∙ v.same.1);
      tariff = e.kept.1 ∙ v.tariff;
      count = e.count ∙ v.count;
    }

pub returns : goal.returns
returns g c =
    let q = c.args.self.now in
    let l = c.loop-place in
    let v = l.invariant in
    let K = g.T.Tariff.charges q.tariff.now in
    record {
      shuffled = v.shuffled;
      rises = sifts.rise_tops (turned_order K.le) (queue_order K) (queue q.count q.table.now) (queue q.count l.self.table.now) c.args.start l.place (omega arith) v.rising;
      noted = v.noted;
      kept = (v.same, v.tariff);
      count = v.count;
    }
