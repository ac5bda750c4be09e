-- A tariff's laws make the order of a queue total.
use Rattle.std.proofs.Common.{◌≡◌, ℕ, Bool, true, false, cond, ◌||◌, Less, Equal, Greater, refl, ap, arith}
use Rattle.std.specs.Ordering.{ordering_reverse}
use Rattle.std.specs.Cmp.{IsTotalOrder, then_total, on_total, back_total, nat_cmp_total}
use Rattle.tariff.specs.Charges.{Charges}
use Rattle.tariff.specs.Totals.{ordered}
use Rattle.search.specs.declared.entry.Waiting.{Waiting}
use Rattle.search.specs.Queues.{turned_order}
use Rattle.search.proofs.Sums.{never}

-- what an answer by two comparisons tells of them
flips : (p q : Bool) → (p || q) ≡ true → cond p (cond q Equal Less) Greater ≡ ordering_reverse (cond q (cond p Equal Less) Greater)
flips true true h = refl
flips true false h = refl
flips false true h = refl
flips false false h = absurd (never h refl)

less_by : (p q : Bool) → cond p (cond q Equal Less) Greater ≡ Less → (p ≡ true) × (q ≡ false)
less_by true true h = absurd (let z : ◌≡◌ {A = ℕ} 0 1 = cc in omega arith)
less_by true false h = (refl, refl)
less_by false q h = absurd (let z : ◌≡◌ {A = ℕ} 0 1 = cc in omega arith)

equal_by : (p q : Bool) → cond p (cond q Equal Less) Greater ≡ Equal → (p ≡ true) × (q ≡ true)
equal_by true true h = (refl, refl)
equal_by true false h = absurd (let z : ◌≡◌ {A = ℕ} 0 1 = cc in omega arith)
equal_by false q h = absurd (let z : ◌≡◌ {A = ℕ} 0 1 = cc in omega arith)

module _ {C : Type 0} (K : Charges C) where
  less_is : (a b : C) → K.le a b ≡ true → K.le b a ≡ false → ordered K.le a b ≡ Less
  less_is a b h k = simp (h, k)

  pub charges_order : IsTotalOrder (ordered K.le)
  charges_order = record {
    antisymm = λ x y. flips (K.le x y) (K.le y x) (K.le_total x y);
    trans = λ x y z p q.
        let p' = less_by (K.le x y) (K.le y x) p in
        let q' = less_by (K.le y z) (K.le z y) q in
        less_is x z (K.le_trans x y z p'.0 q'.0) (at x y z p'.0 q'.1);
    congr = λ x y z h. let e = equal_by (K.le x y) (K.le y x) h in ap (λ w. ordered K.le w z) (K.le_antisym x y e.0 e.1);
  }
    where
      at : (x y z : C) → K.le x y ≡ true → K.le z y ≡ false → K.le z x ≡ false
      at x y z p q = by (K.le z x) refl
        where
          by : (b : Bool) → K.le z x ≡ b → b ≡ false
          by true e = absurd (never (K.le_trans z x y e p) q)
          by false e = refl

  unfoldable pub queue_order : IsTotalOrder (turned_order K.le)
  queue_order = back_total (then_total (on_total (λ (w : Waiting C). w.charge) charges_order) (on_total (λ (w : Waiting C). w.row) nat_cmp_total))
