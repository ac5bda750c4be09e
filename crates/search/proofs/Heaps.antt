-- What `rise` and `sink` make of a queue.
use Rattle.std.proofs.Common.{◌≡◌, ℕ, ◌+◌, ◌-◌, ◌<◌, ◌≤◌, Bool, true, false, List, [], ◌∷◌, ◌++◌, length, get_or, take, set, sym, ap, ◌∙◌, subst, add-one, arith, length-set, length-take, get_or-set_other, get_or-take, get_or-set_same, take-take, take-suc-set}
use lib.Seq.{take-set-lt}
use Rattle.std.specs.List.Sorted.{IsPermutation}
use Rattle.std.specs.Slice.Heapsort.{IsHeapWithin, IsNotBelowChildren}
use Rattle.std.specs.Cmp.{IsStrictWeakOrder}
use Rattle.std.specs.List.{swap_remove}
use Rattle.std.specs.BinaryHeap.{lt_by_cmp, IsHeap}
use Rattle.std.specs.BinaryHeap.Sift.{IsHeapWithHole, SiftsUp, SiftsDown, RestoresHeap}
use Rattle.std.proofs.lemmas.List.{get_or_default}
use Rattle.std.proofs.lemmas.List.Sorted.{IsPermutation-trans, IsPermutation-sym, IsPermutation-cons, IsPermutation-to_front, length_permutation}
use Rattle.std.proofs.Permutation.{taken_at, every_at}
use Rattle.std.proofs.HeapSift as sifts
use Rattle.tariff.specs.Charges.{Charges}
use Rattle.search.specs.declared.entry.Waiting.{Waiting}
use Rattle.search.specs.Queues.{sooner, Queued, Least, Lowered, turned_order}
use Rattle.search.proofs.Ranks.{queue_order}

module _ {X : Type 0} where
  -- the first n+1 places after a store at n
  stored : (heap : List X) (n : ℕ) (e : X) → n < length heap → take (n + 1) (set heap n e) ≡ take n heap ++ (e ∷ [])
  stored heap n e h = rw add-one (take-suc-set heap n e h)

  length_front : (heap : List X) (n : ℕ) → n ≤ length heap → length (take n heap) ≡ n
  length_front heap n h = simp length-take (omega arith)

  -- the last of the first n goes to the front
  fronted : (heap : List X) (n : ℕ) (x last : X) → 0 < n → n ≤ length heap → last ≡ get_or heap (n - 1) last → take (n - 1) (set heap 0 last) ≡ swap_remove (take n heap) 0 x
  fronted heap n x last z h is =
      let long = length_front heap n h in
      let at_last : last ≡ get_or (take n heap) (length (take n heap) - 1) x = is ∙ get_or_default heap (n - 1) last x (omega arith) ∙ sym (get_or-take n heap (n - 1) x (omega arith)) ∙ ap (λ m. get_or (take n heap) (m - 1) x) (sym long) in
      sym (take-take (n - 1) n (set heap 0 last) (omega arith)) ∙ ap (take (n - 1)) (take-set-lt n heap 0 last z) ∙ (λ k. take (sym long k - 1) (set (take n heap) 0 (at_last k)))

-- an element that is put in the place of a lesser one may have to rise
module _ {X : Type 0} (lt : X → X → Bool) (o : IsStrictWeakOrder lt) (xs : List X) (j n : ℕ) (e : X) (within : j < length xs) (h : IsHeapWithin lt xs 0 n) (more : (d : X) → lt (get_or xs j d) e ≡ true) where
  other : (k : ℕ) (d : X) → (k ≡ j → ⊥) → get_or (set xs j e) k d ≡ get_or xs k d
  other k d u = get_or-set_other xs j k e d u

  by : (a b x y : X) → a ≡ x → b ≡ y → lt x y ≡ false → lt a b ≡ false
  by a b x y p q f = (λ k. lt (p k) (q k)) ∙ f

  raised : IsHeapWithHole lt (set xs j e) j n × IsNotBelowChildren lt (set xs j e) j j n
  raised = (
    (
      λ p k d a b f u v. by _ _ _ _ (other p d u) (other k d v) (h p k d (omega arith) a b f),
      λ p k d a b f g i. by _ _ _ _ (other p d (omega arith)) (other k d (omega arith)) (o.chain _ (get_or xs j d) _ (h p j d (omega arith) a b (omega arith)) (h j k d (omega arith) f g i)),
    ),
    λ k d a b f. by _ _ _ _ (get_or-set_same xs j e d within) (other k d (omega arith)) (o.chain _ (get_or xs j d) _ (o.one_way _ _ (more d)) (h j k d (omega arith) a b f)),
  )

module _ {C : Type 0} (K : Charges C) where
  heaped : (xs : List (Waiting C)) → Queued K.le xs → IsHeap (turned_order K.le) xs
  unfolding Queued IsHeap
  heaped xs h = h

  queued : (xs : List (Waiting C)) → IsHeap (turned_order K.le) xs → Queued K.le xs
  unfolding Queued IsHeap
  queued xs h = h

  module _ (heap : List (Waiting C)) (n : ℕ) (e : Waiting C) (ys zs : List (Waiting C)) (room : n < length heap) (is : ys ≡ take (n + 1) (set heap n e)) (moved : IsPermutation ys zs) where
    appended : ys ≡ take n heap ++ (e ∷ [])
    appended = is ∙ stored heap n e room

    pub push_length : length zs ≡ n + 1
    push_length = length_permutation ys zs moved ∙ ap length is ∙ length_front (set heap n e) (n + 1) (simp length-set (omega arith))

    pub push_queued : SiftsUp (turned_order K.le) ys n zs → Queued K.le (take n heap) → Queued K.le zs
    push_queued rises was = queued zs (sifts.pushed (turned_order K.le) (queue_order K) (take n heap) (e ∷ []) ys zs n (sym (length_front heap n (omega arith))) appended push_length rises (heaped (take n heap) was))

    pub push_held : IsPermutation (e ∷ take n heap) zs
    push_held = IsPermutation-trans _ _ _ (subst (IsPermutation (e ∷ take n heap)) (sym appended) (IsPermutation-sym _ _ (IsPermutation-to_front (take n heap) e))) moved

  pub first_least : (xs : List (Waiting C)) (x : Waiting C) → x ≡ get_or xs 0 x → Queued K.le xs → Least K.le x xs
  first_least xs x is was = λ k h. every_at _ xs k x h (sifts.greatest (queue_order K) xs x is (heaped xs was))

  module _ (heap : List (Waiting C)) (n : ℕ) (x last : Waiting C) (ys zs : List (Waiting C)) (some : 0 < n) (fits : n ≤ length heap) (first : x ≡ get_or heap 0 x) (end : last ≡ get_or heap (n - 1) last) (is : ys ≡ take (n - 1) (set heap 0 last)) (moved : IsPermutation ys zs) where
    first_front : x ≡ get_or (take n heap) 0 x
    first_front = first ∙ sym (get_or-take n heap 0 x some)

    pub pop_length : length zs ≡ n - 1
    pop_length = length_permutation ys zs moved ∙ ap length is ∙ length_front (set heap 0 last) (n - 1) (simp length-set (omega arith))

    mends : SiftsDown (turned_order K.le) ys 0 (n - 1) zs → RestoresHeap (turned_order K.le) ys 1 (n - 1) zs
    unfolding SiftsDown RestoresHeap IsHeap
    mends sinks = λ h. subst (IsHeapWithin (lt_by_cmp (turned_order K.le)) zs 0) (sym pop_length) (sinks.1 h)

    pub pop_queued : SiftsDown (turned_order K.le) ys 0 (n - 1) zs → Queued K.le (take n heap) → Queued K.le zs
    pop_queued sinks was =
        let long = length_front heap n fits in
        queued zs (sifts.popped (turned_order K.le) (queue_order K) (take n heap) ys zs x (n - 1) (omega arith) first_front (is ∙ fronted heap n x last some fits end) (mends sinks) (heaped (take n heap) was)).0

    pub pop_held : IsPermutation (take n heap) (x ∷ zs)
    pop_held =
        let long = length_front heap n fits in
        IsPermutation-trans _ (x ∷ ys) _ (subst (λ l. IsPermutation (take n heap) (x ∷ l)) (sym (is ∙ fronted heap n x last some fits end)) (taken_at (take n heap) 0 x (omega arith) first_front)) (IsPermutation-cons x ys zs moved)

  module _ (heap : List (Waiting C)) (n j : ℕ) (x e : Waiting C) (ys zs : List (Waiting C)) (within : j < n) (fits : n ≤ length heap) (was_at : x ≡ get_or heap j x) (lower : sooner K.le e x ≡ true) (is : ys ≡ take n (set heap j e)) (moved : IsPermutation ys zs) where
    set_front : ys ≡ set (take n heap) j e
    set_front = is ∙ take-set-lt n heap j e within

    at_front : (d : Waiting C) → get_or (take n heap) j d ≡ x
    at_front d = get_or-take n heap j d within ∙ get_or_default heap j d x (omega arith) ∙ sym was_at

    pub lower_length : length zs ≡ n
    lower_length = length_permutation ys zs moved ∙ ap length is ∙ length_front (set heap j e) n (simp length-set (omega arith))

    pub lower_queued : SiftsUp (turned_order K.le) ys j zs → Queued K.le (take n heap) → Queued K.le zs
    unfolding Queued SiftsUp
    lower_queued rises was =
        let long = length_front heap n fits in
        let lt = lt_by_cmp (turned_order K.le) in
        let gap = raised lt (sifts.ranks (queue_order K)) (take n heap) j (length (take n heap)) e (omega arith) was (λ d. ap (λ y. sooner K.le e y) (at_front d) ∙ lower) in
        subst (IsHeapWithin lt zs 0) (long ∙ sym lower_length) (rises (length (take n heap)) (omega arith) (subst (λ l. IsHeapWithHole lt l j (length (take n heap)) × IsNotBelowChildren lt l j j (length (take n heap))) (sym set_front) gap))

    pub lower_held : x.row ≡ e.row → Lowered K.le e (take n heap) zs true
    lower_held same =
        let long = length_front heap n fits in
        (j, omega arith, ap (λ (y : Waiting C). y.row) (at_front e) ∙ same, ap (λ y. sooner K.le e y) (at_front e) ∙ lower, subst (λ l. IsPermutation l zs) set_front moved)
