-- The places that are noted of a queue's rows.
use Rattle.std.proofs.Common.{◌≡◌, ℕ, ◌+◌, ◌-◌, ◌<◌, ◌≤◌, List, length, get_or, take, set, Some, sym, ap, ◌∙◌, subst, ⊎_elim, arith, length-set, length-take, get_or-set_other, get_or-take, get_or-set_same}
use Rattle.std.specs.List.{slice_get}
use Rattle.std.proofs.lemmas.List.{get_or_default}
use Rattle.std.proofs.lemmas.Option.{slice_get-get_or}
use Rattle.std.proofs.Permutation.{which}
use Rattle.search.specs.declared.entry.Waiting.{Waiting}
use Rattle.search.specs.Queues.{Noted}

module _ {C : Type 0} where
  pub noted_row : (heap : List (Waiting C)) (places : List ℕ) (k : ℕ) (x : Waiting C) → Noted heap places → k < length heap → x ≡ get_or heap k x → (x.row < length places) × (get_or places x.row 0 ≡ k)
  unfolding Noted
  noted_row heap places k x h in' is = subst (λ (y : Waiting C). (y.row < length places) × (get_or places y.row 0 ≡ k)) (sym is) (h k x in')

  -- one of each row
  pub noted_apart : (heap : List (Waiting C)) (places : List ℕ) (j k : ℕ) (x y : Waiting C) → Noted heap places → j < length heap → k < length heap → x ≡ get_or heap j x → y ≡ get_or heap k y → x.row ≡ y.row → j ≡ k
  noted_apart heap places j k x y h a b u v e = sym (noted_row heap places j x h a u).1 ∙ ap (λ r. get_or places r 0) e ∙ (noted_row heap places k y h b v).1

  -- a row noted anew
  module _ (heap zs : List (Waiting C)) (places : List ℕ) (a b : ℕ) (x y : Waiting C) (h : Noted heap places) (in_a : a < length heap) (in_b : b < length heap) (long : length zs ≡ length heap)
      (at_b : x ≡ get_or heap b x) (at_a : y ≡ get_or heap a y)
      (to_a : (d : Waiting C) → get_or zs a d ≡ get_or heap b d) (to_b : (d : Waiting C) → get_or zs b d ≡ get_or heap a d) (other : (k : ℕ) (d : Waiting C) → (k ≡ a → ⊥) → (k ≡ b → ⊥) → get_or zs k d ≡ get_or heap k d) where
    after : List ℕ
    after = set (set places x.row a) y.row b

    after_long : length after ≡ length places
    unfolding after
    after_long = simp length-set

    Right : ℕ → Waiting C → Type 0
    Right k z = (z.row < length after) × (get_or after z.row 0 ≡ k)

    pub noted_exchange : Noted zs (set (set places x.row a) y.row b)
    unfolding Noted after Right
    noted_exchange k d in' =
        let row_x = noted_row heap places b x h in_b at_b in
        let row_y = noted_row heap places a y h in_a at_a in
        let long_x : length (set places x.row a) ≡ length places = simp length-set in
        ⊎_elim
        (λ (e : k ≡ b).
        let is : get_or zs k d ≡ y = ap (λ m. get_or zs m d) e ∙ to_b d ∙ get_or_default heap a d y in_a ∙ sym at_a in
        subst (Right k) (sym is) (omega (arith, after_long, row_y.0), get_or-set_same (set places x.row a) y.row b 0 (omega (arith, row_y.0)) ∙ sym e))
        (λ (not_b : k ≡ b → ⊥). ⊎_elim
        (λ (e : k ≡ a).
        let is : get_or zs k d ≡ x = ap (λ m. get_or zs m d) e ∙ to_a d ∙ get_or_default heap b d x in_b ∙ sym at_b in
        let apart : x.row ≡ y.row → ⊥ = λ same. not_b (e ∙ sym (noted_apart heap places b a x y h in_b in_a at_b at_a same)) in
        subst (Right k) (sym is) (omega (arith, after_long, row_x.0), get_or-set_other (set places x.row a) y.row x.row b 0 apart ∙ get_or-set_same places x.row a 0 row_x.0 ∙ sym e))
        (λ (not_a : k ≡ a → ⊥).
        let z = get_or heap k d in
        let in_k : k < length heap = omega (arith, long) in
        let at_k : z ≡ get_or heap k z = get_or_default heap k d z in_k in
        let row_z = noted_row heap places k z h in_k at_k in
        let not_y : z.row ≡ y.row → ⊥ = λ same. not_a (noted_apart heap places k a z y h in_k in_a at_k at_a same) in
        let not_x : z.row ≡ x.row → ⊥ = λ same. not_b (noted_apart heap places k b z x h in_k in_b at_k at_b same) in
        subst (Right k) (sym (other k d not_a not_b)) (omega (arith, after_long, row_z.0), get_or-set_other (set places x.row a) y.row z.row b 0 not_y ∙ get_or-set_other places x.row z.row a 0 not_x ∙ row_z.1))
        (which k a))
        (which k b)

  -- an entry of a new row, put behind the queue
  pub noted_push : (heap : List (Waiting C)) (places : List ℕ) (n : ℕ) (e : Waiting C) → n < length heap → e.row < length places → ((k : ℕ) → k < n → (get_or heap k e).row ≡ e.row → ⊥) → Noted (take n heap) places → Noted (take (n + 1) (set heap n e)) (set places e.row n)
  unfolding Noted
  noted_push heap places n e room row fresh was k d in' =
      let in_k : k < n + 1 = omega (arith, length-take (n + 1) (set heap n e)) in
      let long : length (set places e.row n) ≡ length places = simp length-set in
      let Fine : Waiting C → Type 0 = λ z. (z.row < length (set places e.row n)) × (get_or (set places e.row n) z.row 0 ≡ k) in
      ⊎_elim
      (λ (same : k ≡ n).
      let is : get_or (take (n + 1) (set heap n e)) k d ≡ e = get_or-take (n + 1) (set heap n e) k d in_k ∙ ap (λ m. get_or (set heap n e) m d) same ∙ get_or-set_same heap n e d room in
      subst Fine (sym is) (omega (arith, long), get_or-set_same places e.row n 0 row ∙ sym same))
      (λ (other : k ≡ n → ⊥).
      let lower : k < n = omega arith in
      let is : get_or (take (n + 1) (set heap n e)) k d ≡ get_or (take n heap) k d = get_or-take (n + 1) (set heap n e) k d in_k ∙ get_or-set_other heap n k e d other ∙ sym (get_or-take n heap k d lower) in
      let in_front : k < length (take n heap) = omega (arith, length-take n heap) in
      let told = was k d in_front in
      let apart : (get_or (take n heap) k d).row ≡ e.row → ⊥ = λ same. fresh k lower (ap (λ (z : Waiting C). z.row) (get_or_default heap k e d (omega arith) ∙ sym (get_or-take n heap k d lower)) ∙ same) in
      subst Fine (sym is) (omega (arith, long, told.0), get_or-set_other places e.row (get_or (take n heap) k d).row n 0 apart ∙ told.1))
      (which k n)

  -- the last entry, put in the place of the first
  pub noted_pop : (heap : List (Waiting C)) (places : List ℕ) (n : ℕ) (last : Waiting C) → 0 < n → n ≤ length heap → last ≡ get_or heap (n - 1) last → Noted (take n heap) places → Noted (take (n - 1) (set heap 0 last)) (set places last.row 0)
  unfolding Noted
  noted_pop heap places n last some fits end was k d in' =
      let in_k : k < n - 1 = omega (arith, length-take (n - 1) (set heap 0 last)) in
      let long : length (set places last.row 0) ≡ length places = simp length-set in
      let front_long : length (take n heap) ≡ n = simp length-take (omega arith) in
      let end' : last ≡ get_or (take n heap) (n - 1) last = end ∙ sym (get_or-take n heap (n - 1) last (omega arith)) in
      let row = noted_row (take n heap) places (n - 1) last was (omega arith) end' in
      let Fine : Waiting C → Type 0 = λ z. (z.row < length (set places last.row 0)) × (get_or (set places last.row 0) z.row 0 ≡ k) in
      ⊎_elim
      (λ (same : k ≡ 0).
      let is : get_or (take (n - 1) (set heap 0 last)) k d ≡ last = get_or-take (n - 1) (set heap 0 last) k d in_k ∙ ap (λ m. get_or (set heap 0 last) m d) same ∙ get_or-set_same heap 0 last d (omega arith) in
      subst Fine (sym is) (omega (arith, long, row.0), get_or-set_same places last.row 0 0 row.0 ∙ sym same))
      (λ (other : k ≡ 0 → ⊥).
      let lower : k < n = omega arith in
      let z = get_or (take n heap) k d in
      let is : get_or (take (n - 1) (set heap 0 last)) k d ≡ z = get_or-take (n - 1) (set heap 0 last) k d in_k ∙ get_or-set_other heap 0 k last d other ∙ sym (get_or-take n heap k d lower) in
      let in_front : k < length (take n heap) = omega arith in
      let told = was k d in_front in
      let apart : z.row ≡ last.row → ⊥ = λ same.
      let e = noted_apart (take n heap) places k (n - 1) z last was in_front (omega arith) (get_or_default (take n heap) k d z in_front) end' same in omega arith in
      subst Fine (sym is) (omega (arith, long, told.0), get_or-set_other places last.row z.row 0 0 apart ∙ told.1))
      (which k 0)

  -- an entry of the same row in its place
  pub noted_lower : (heap : List (Waiting C)) (places : List ℕ) (n j : ℕ) (x e : Waiting C) → j < n → n ≤ length heap → x ≡ get_or heap j x → x.row ≡ e.row → Noted (take n heap) places → Noted (take n (set heap j e)) places
  unfolding Noted
  noted_lower heap places n j x e within fits at_j same_row was k d in' =
      let in_k : k < n = omega (arith, length-take n (set heap j e)) in
      let front_long : length (take n heap) ≡ n = simp length-take (omega arith) in
      let told = was k d (omega arith) in
      let Fine : ℕ → Type 0 = λ r. (r < length places) × (get_or places r 0 ≡ k) in
      let rows : (get_or (take n heap) k d).row ≡ (get_or (take n (set heap j e)) k d).row = ⊎_elim
      (λ (same : k ≡ j). ap (λ (z : Waiting C). z.row) (get_or-take n heap k d in_k ∙ ap (λ m. get_or heap m d) same ∙ get_or_default heap j d x (omega arith) ∙ sym at_j) ∙ same_row ∙ ap (λ (z : Waiting C). z.row) (sym (get_or-take n (set heap j e) k d in_k ∙ ap (λ m. get_or (set heap j e) m d) same ∙ get_or-set_same heap j e d (omega arith))))
      (λ (other : k ≡ j → ⊥). ap (λ (z : Waiting C). z.row) (get_or-take n heap k d in_k ∙ sym (get_or-set_other heap j k e d other) ∙ sym (get_or-take n (set heap j e) k d in_k)))
      (which k j) in
      subst Fine rows told

  -- the note of a row that waits names its place
  pub noted_get : (xs : List (Waiting C)) (places : List ℕ) (row k : ℕ) (d : Waiting C) → Noted xs places → k < length xs → (get_or xs k d).row ≡ row → slice_get places row ≡ Some k
  unfolding Noted
  noted_get xs places row k d was in' is =
      let told = was k d in' in
      ap (slice_get places) (sym is) ∙ slice_get-get_or places (get_or xs k d).row 0 told.0 ∙ ap Some told.1
