-- A queue in which each open row waits once, when a row is added, lowered or closed.
use Rattle.std.proofs.Common.{◌≡◌, ℕ, zero, suc, ◌+◌, ◌<◌, ◌≤◌, Bool, true, false, cond, eqb, ltb, ◌≢◌, List, [], ◌∷◌, ◌++◌, length, get_or, set, Some, None, Less, Equal, Greater, sym, refl, ap, ◌∙◌, subst, inl, inr, arith, length-set, get_or-set_other, get_or-set_same}
use Rattle.std.specs.Ordering.{is_lt, nat_cmp, ordering_then}
use Rattle.std.specs.List.Sorted.{IsPermutation}
use Rattle.std.proofs.lemmas.Bool.{cases_eq, cond-true, cond-false, eq-eqb, ne_eqb, ltb-false}
use Rattle.std.proofs.lemmas.List.{get_or_default, get_or_append_left, get_or_push}
use Rattle.std.proofs.lemmas.List.Sums.{sum_by-cons, sum_by-set, get_or-le-sum_by}
use Rattle.std.proofs.ByRecursion.{All-get_or, All-from_get_or, All-weaker, all_shuffled, has_shuffled}
use Rattle.std.proofs.lemmas.List.Sorted.{sum_by-IsPermutation, IsPermutation-sym}
use Rattle.tariff.specs.Charges.{Charges}
use Rattle.search.specs.declared.data.Row.{Row}
use Rattle.search.specs.declared.entry.Waiting.{Waiting}
use Rattle.search.specs.declared.entry.Entry.{Entry}
use Rattle.search.specs.Queues.{sooner, Queued, Noted, Least, Lowered, Fresh}
use Rattle.search.specs.Rows.{shut, lowered, least, row, blank}
use Rattle.search.specs.Lined.{times, due, AtCharge, Matched, Lined}
use Rattle.search.proofs.Sums.{never, not_le}
use Rattle.search.proofs.Runs.{least_first, least_none}

eqb_suc : (m j : ℕ) → eqb (suc m) (suc j) ≡ eqb m j
eqb_suc m j = elim (cases_eq m j) [ inl e ↦ eq-eqb (suc m) (suc j) (ap suc e) ∙ sym (eq-eqb m j e) | inr n ↦ ne_eqb (suc m) (suc j) (λ e. n (omega arith)) ∙ sym (ne_eqb m j n) ]

bit : (b : Bool) → cond {A = ℕ} b 0 1 ≤ 1
bit true = omega arith
bit false = omega arith

-- one that is cheaper comes before
sooner_less : {C : Type 0} (le : C → C → Bool) (a b : Waiting C) → le a.charge b.charge ≡ true → le b.charge a.charge ≡ false → sooner le a b ≡ true
sooner_less le a b h k = simp (h, k)

-- one that does not come before costs as much, and has no lower number at the same charge
sooner_not : {C : Type 0} (K : Charges C) (x e : Waiting C) → sooner K.le x e ≡ false → (K.le e.charge x.charge ≡ true) × (K.le x.charge e.charge ≡ true → e.row ≤ x.row)
sooner_not K x e h = at (K.le x.charge e.charge) (K.le e.charge x.charge) refl refl h
  where
    at : (s t : Bool) → K.le x.charge e.charge ≡ s → K.le e.charge x.charge ≡ t → is_lt (ordering_then (cond s (cond t Equal Less) Greater) (nat_cmp x.row e.row)) ≡ false → (t ≡ true) × (s ≡ true → e.row ≤ x.row)
    at true true u v w = (refl, λ _. by (ltb x.row e.row) refl w)
      where
        by : (p : Bool) → ltb x.row e.row ≡ p → is_lt (cond p Less (cond (eqb x.row e.row) Equal Greater)) ≡ false → e.row ≤ x.row
        by true l z = absurd (never refl z)
        by false l z = ltb-false x.row e.row l
    at true false u v w = absurd (never refl w)
    at false t u v w = (sym v ∙ not_le K x.charge e.charge u, λ z. absurd (never z refl))

module _ {C : Type 0} where
  due_push : (rows : List (Row C)) (new : Row C) (j : ℕ) → new.closed ≡ false → due (rows ++ new ∷ []) j ≡ cond (eqb (length rows) j) 1 0 + due rows j
  due_push [] new zero o = ap (λ b. cond {A = ℕ} b 0 1) o
  due_push [] new (suc j) o = ap (λ b. cond {A = ℕ} b 1 0 + 0) (sym (ne_eqb 0 (suc j) (λ e. omega arith)))
  due_push (r ∷ rs) new zero o = let z : eqb (suc (length rs)) 0 ≡ false = ne_eqb (suc (length rs)) 0 (λ e. omega arith) in let y : cond {A = ℕ} (eqb (suc (length rs)) 0) 1 0 ≡ 0 = ap (λ b. cond {A = ℕ} b 1 0) z in omega arith
  due_push (r ∷ rs) new (suc j) o = due_push rs new j o ∙ ap (λ b. cond {A = ℕ} b 1 0 + due rs j) (sym (eqb_suc (length rs) j))

  due_at : (rows : List (Row C)) (j : ℕ) (d : Row C) → j < length rows → due rows j ≡ cond (get_or rows j d).closed 0 1
  due_at [] j d h = absurd (omega arith)
  due_at (r ∷ rs) zero d h = refl
  due_at (r ∷ rs) (suc j) d h = due_at rs j d (omega arith)

  due_other : (rows : List (Row C)) (i : ℕ) (r : Row C) (j : ℕ) → j ≢ i → due (set rows i r) j ≡ due rows j
  due_other [] i r j n = refl
  due_other (x ∷ xs) zero r zero n = absurd (n refl)
  due_other (x ∷ xs) zero r (suc j) n = refl
  due_other (x ∷ xs) (suc i) r zero n = refl
  due_other (x ∷ xs) (suc i) r (suc j) n = due_other xs i r j (λ e. n (ap suc e))

  due_same : (rows : List (Row C)) (i : ℕ) (r d : Row C) → i < length rows → r.closed ≡ (get_or rows i d).closed → (j : ℕ) → due rows j ≡ due (set rows i r) j
  due_same rows i r d h e j = elim (cases_eq j i) [
    | inl k ↦ ap (due rows) k ∙ due_at rows i d h ∙ ap (λ b. cond {A = ℕ} b 0 1) (sym e ∙ sym (ap (λ x. x.closed) (get_or-set_same rows i r d h))) ∙ sym (due_at (set rows i r) i d (simp length-set h)) ∙ ap (due (set rows i r)) (sym k)
    | inr n ↦ sym (due_other rows i r j n)
  ]

  due_one : (rows : List (Row C)) (j : ℕ) → due rows j ≤ 1
  due_one [] j = omega arith
  due_one (r ∷ rs) zero = bit r.closed
  due_one (r ∷ rs) (suc j) = due_one rs j

  -- a row that should wait is there, and open
  due_open : (rows : List (Row C)) (j : ℕ) (d : Row C) → 0 < due rows j → (j < length rows) × ((get_or rows j d).closed ≡ false)
  due_open [] j d h = absurd (omega arith)
  due_open (r ∷ rs) zero d h = (omega arith, at r.closed refl h)
    where
      at : (b : Bool) → r.closed ≡ b → 0 < cond {A = ℕ} b 0 1 → b ≡ false
      at true e z = absurd (omega arith)
      at false e z = refl
  due_open (r ∷ rs) (suc j) d h = let w = due_open rs j d h in (omega (arith, w.0), w.1)

  abbrev here : ℕ → Waiting C → ℕ
  here j w = cond (eqb w.row j) 1 0

  here_yes : (w : Waiting C) (j : ℕ) → w.row ≡ j → here j w ≡ 1
  here_yes w j h = cond-true (eqb w.row j) 1 0 (eq-eqb w.row j h)

  here_no : (w : Waiting C) (j : ℕ) → w.row ≢ j → here j w ≡ 0
  here_no w j h = cond-false (eqb w.row j) 1 0 (ne_eqb w.row j h)

  -- a row that waits is there, and open
  waiting_open : (rows : List (Row C)) (xs : List (Waiting C)) → Matched rows xs → (k : ℕ) (w : Waiting C) (r : Row C) → k < length xs → ((get_or xs k w).row < length rows) × ((get_or rows (get_or xs k w).row r).closed ≡ false)
  waiting_open rows xs m k w r h =
      let j = (get_or xs k w).row in
      let one : here j (get_or xs k w) ≡ 1 = here_yes (get_or xs k w) j refl in
      let some : here j (get_or xs k w) ≤ times j xs = get_or-le-sum_by (here j) xs k w h in
      due_open rows j r (omega (arith, m.once j))

  pub waiting_low : (rows : List (Row C)) (xs : List (Waiting C)) → Matched rows xs → (k : ℕ) (w : Waiting C) → k < length xs → (get_or xs k w).row < length rows
  waiting_low rows xs m k w h = (waiting_open rows xs m k w (record { setting = []; charge = w.charge; closed = true; origin = 0; action = 0 }) h).0

  -- a new row does not wait
  pub fresh : (rows : List (Row C)) (xs : List (Waiting C)) (w : Waiting C) → Matched rows xs → w.row ≡ length rows → Fresh w xs
  fresh rows xs w m is k h same = let low = waiting_low rows xs m k w h in omega arith

  -- one row more at the end
  pub matched_push : (rows : List (Row C)) (xs ys : List (Waiting C)) (new : Row C) (w : Waiting C) → Matched rows xs → new.closed ≡ false → w.row ≡ length rows → w.charge ≡ new.charge → IsPermutation (w ∷ xs) ys → Matched (rows ++ new ∷ []) ys
  matched_push rows xs ys new w m o at charge s = record {
    once = λ j. sum_by-IsPermutation (here j) (w ∷ xs) ys s ∙ sum_by-cons (here j) w xs ∙ (λ k. cond (eqb (at k) j) 1 0 + m.once j k) ∙ sym (due_push rows new j o);
    charged = all_shuffled (AtCharge (rows ++ new ∷ [])) (w ∷ xs) ys s (
      (λ d. ap (λ n. (get_or (rows ++ new ∷ []) n d).charge) at ∙ ap (λ r. r.charge) (get_or_push rows new d (length rows) refl) ∙ sym charge),
      All-from_get_or (AtCharge (rows ++ new ∷ [])) xs w (λ k h d. let low = (waiting_open rows xs m k w d h).0 in ap (λ r. r.charge) (get_or_append_left rows (new ∷ []) d (get_or xs k w).row low) ∙ All-get_or (AtCharge rows) xs k w h m.charged d),
    );
  }

  same_place : (rows : List (Row C)) (i : ℕ) (r : Row C) (n : ℕ) (d : Row C) → n ≢ i → (get_or (set rows i r) n d).charge ≡ (get_or rows n d).charge
  same_place rows i r n d h = ap (λ x. x.charge) (get_or-set_other rows i n r d h)

  -- no row waits twice
  single : (rows : List (Row C)) (xs : List (Waiting C)) → Matched rows xs → (k i : ℕ) (w : Waiting C) → k < length xs → i < length xs → i ≢ k → (get_or xs i w).row ≡ (get_or xs k w).row → ⊥
  single rows xs m k i w h g n s =
      let j = (get_or xs k w).row in
      let y : Waiting C = record { charge = w.charge; row = suc j } in
      let off : here j y ≡ 0 = here_no y j (λ z. omega arith) in
      let gone : times j (set xs k y) + here j (get_or xs k w) ≡ times j xs + here j y = sum_by-set (here j) xs k y w h in
      let one : here j (get_or xs k w) ≡ 1 = here_yes (get_or xs k w) j refl in
      let g' : i < length (set xs k y) = simp length-set g in
      let less : here j (get_or (set xs k y) i w) ≤ times j (set xs k y) = get_or-le-sum_by (here j) (set xs k y) i w g' in
      let same : here j (get_or (set xs k y) i w) ≡ 1 = ap (here j) (get_or-set_other xs k i y w n) ∙ here_yes (get_or xs i w) j s in
      omega (arith, m.once j, due_one rows j)

  -- a row is lowered, and where it waits too
  pub matched_lower : (K : Charges C) (rows : List (Row C)) (xs ys : List (Waiting C)) (at : ℕ) (r new : Row C) (w : Waiting C) (b : Bool) → Matched rows xs → at < length rows → r ≡ get_or rows at r → K.le r.charge new.charge ≡ false
      → w.row ≡ at → w.charge ≡ new.charge → Lowered K.le w xs ys b → Matched (set rows at (lowered r new)) ys
  matched_lower K rows xs ys at r new w true m h is less row charge (k, low, same_row, soon, s) =
      let r' = lowered r new in
      let there : (get_or xs k w).row ≡ at = same_row ∙ row in
      let count : (j : ℕ) → times j (set xs k w) ≡ times j xs = λ j. (let z = sum_by-set (here j) xs k w w low in let y : here j (get_or xs k w) ≡ here j w = ap (λ n. cond {A = ℕ} (eqb n j) 1 0) same_row in omega arith) in
      record {
        once = λ j. sum_by-IsPermutation (here j) (set xs k w) ys s ∙ count j ∙ m.once j ∙ due_same rows at r' r h (ap (λ x. x.closed) is) j;
        charged = all_shuffled (AtCharge (set rows at r')) (set xs k w) ys s
            (All-from_get_or (AtCharge (set rows at r')) (set xs k w) w (λ i g d. elim (cases_eq i k) [
              | inl u ↦ subst (AtCharge (set rows at r')) (sym (ap (λ n. get_or (set xs k w) n w) u ∙ get_or-set_same xs k w w low)) (λ d'. ap (λ n. (get_or (set rows at r') n d').charge) row ∙ ap (λ x. x.charge) (get_or-set_same rows at r' d' h) ∙ sym charge) d
              | inr n ↦ (let g' : i < length xs = simp length-set at g in
                  subst (AtCharge (set rows at r')) (sym (get_or-set_other xs k i w w n)) (λ d'. same_place rows at r' (get_or xs i w).row d' (λ z. single rows xs m k i w low g' n (z ∙ sym there)) ∙ All-get_or (AtCharge rows) xs i w g' m.charged d') d)
            ]));
      }
  matched_lower K rows xs ys at r new w false m h is less row charge (same, none) =
      let r' = lowered r new in
      let soon : (k : ℕ) → k < length xs → (get_or xs k w).row ≡ at → ⊥ = λ k g s.
      (let held : (get_or xs k w).charge ≡ r.charge = sym (All-get_or (AtCharge rows) xs k w g m.charged r) ∙ ap (λ n. (get_or rows n r).charge) s ∙ ap (λ x. x.charge) (sym is) in
      let down : K.le (get_or xs k w).charge w.charge ≡ false = (λ z. K.le (held z) (charge z)) ∙ less in
      never (sooner_less K.le w (get_or xs k w) (not_le K (get_or xs k w).charge w.charge down) down) (none k g (s ∙ sym row))) in
      subst (Matched (set rows at r')) (sym same) record {
        once = λ j. m.once j ∙ due_same rows at r' r h (ap (λ x. x.closed) is) j;
        charged = All-from_get_or (AtCharge (set rows at r')) xs w (λ k g d. same_place rows at r' (get_or xs k w).row d (soon k g) ∙ All-get_or (AtCharge rows) xs k w g m.charged d);
      }

  -- one that waits is taken, and its row closed
  pub matched_close : (rows : List (Row C)) (xs ys : List (Waiting C)) (w : Waiting C) (r : Row C) → Matched rows xs → IsPermutation xs (w ∷ ys) → r ≡ get_or rows w.row r → Matched (set rows w.row (shut r)) ys
  matched_close rows xs ys w r m s is =
      let i = w.row in
      let rows' = set rows i (shut r) in
      let all : (j : ℕ) → here j w + times j ys ≡ due rows j = λ j. sym (sum_by-cons (here j) w ys) ∙ sum_by-IsPermutation (here j) xs (w ∷ ys) s ∙ m.once j in
      let there : (i < length rows) × ((get_or rows i r).closed ≡ false) = due_open rows i r (let o = here_yes w i refl in omega (arith, all i)) in
      let fit = all_shuffled (AtCharge rows) xs (w ∷ ys) s m.charged in
      record {
        once = λ j. elim (cases_eq j i) [
          | inl k ↦ (let o : here j w ≡ 1 = here_yes w j (sym k) in
              let now : due rows' j ≡ 0 = ap (due rows') k ∙ due_at rows' i r (simp length-set there.0) ∙ ap (λ x. cond {A = ℕ} x.closed 0 1) (get_or-set_same rows i (shut r) r there.0) in
              omega (arith, all j, due_one rows j))
          | inr n ↦ (let o : here j w ≡ 0 = here_no w j (λ z. n (sym z)) in
              let z = all j in
              let y : due rows' j ≡ due rows j = due_other rows i (shut r) j n in
              omega arith)
        ];
        charged = All-weaker (AtCharge rows) (AtCharge rows') (λ x f d. elim (cases_eq x.row i) [
          | inl k ↦ ap (λ n. (get_or rows' n d).charge) k ∙ ap (λ y. y.charge) (get_or-set_same rows i (shut r) d there.0) ∙ ap (λ y. y.charge) (is ∙ get_or_default rows i r d there.0) ∙ ap (λ n. (get_or rows n d).charge) (sym k) ∙ f d
          | inr n ↦ same_place rows i (shut r) x.row d n ∙ f d
        ]) ys fit.1;
      }

  -- a row that should wait is in the queue
  found : (xs : List (Waiting C)) (j : ℕ) (d : Waiting C) → 0 < times j xs → (m : ℕ) × (m < length xs) × ((get_or xs m d).row ≡ j)
  found [] j d h = absurd (omega arith)
  found (w ∷ xs) j d h = elim (cases_eq w.row j) [
    | inl k ↦ (0, omega arith, k)
    | inr n ↦ (let z = sum_by-cons (here j) w xs in let o : here j w ≡ 0 = here_no w j n in let r = found xs j d (omega arith) in (suc r.0, omega (arith, r.1), r.2))
  ]

  -- of the waiting ones, the one that none comes before is the least open row
  pub first_least_row : (K : Charges C) (rows : List (Row C)) (xs : List (Waiting C)) (k : ℕ) (w : Waiting C) → Matched rows xs → k < length xs → w ≡ get_or xs k w → Least K.le w xs → (w.row < length rows) × (least K.zero K.le rows ≡ Some w.row)
  first_least_row K rows xs k w m h is none_before =
      let d : Row C = blank K.zero K.le in
      let fit : AtCharge rows w = subst (AtCharge rows) (sym is) (All-get_or (AtCharge rows) xs k w h m.charged) in
      let there : (w.row < length rows) × ((get_or rows w.row d).closed ≡ false) = subst (λ (x : Waiting C). (x.row < length rows) × ((get_or rows x.row d).closed ≡ false)) (sym is) (waiting_open rows xs m k w d h) in (
        there.0,
        least_first K rows w.row there.0 there.1 (λ n low o.
            let due_n : due rows n ≡ 1 = due_at rows n d low ∙ ap (λ b. cond {A = ℕ} b 0 1) o in
            let f = found xs n w (omega (arith, m.once n)) in
            let x = get_or xs f.0 w in
            let c : x.charge ≡ (get_or rows n d).charge = sym (All-get_or (AtCharge rows) xs f.0 w f.1 m.charged d) ∙ ap (λ n. (get_or rows n d).charge) f.2 in
            let s = sooner_not K x w (none_before f.0 f.1) in
            ((λ z. K.le (fit d z) (sym c z)) ∙ s.0, λ e. (let low_w = s.1 ((λ z. K.le (c z) (sym (fit d) z)) ∙ e) in omega (arith, f.2)))),
      )

  -- the same of one that was taken
  pub popped_least_row : (K : Charges C) (rows : List (Row C)) (xs ys : List (Waiting C)) (w : Waiting C) → Matched rows xs → IsPermutation xs (w ∷ ys) → Least K.le w xs → (w.row < length rows) × (least K.zero K.le rows ≡ Some w.row)
  popped_least_row K rows xs ys w m s h =
      let in_xs = has_shuffled (w ∷ ys) xs w (IsPermutation-sym xs (w ∷ ys) s) (0, omega arith, λ d. refl) in
      first_least_row K rows xs in_xs.0 w m in_xs.1 (sym (in_xs.2 w)) h

  -- where none waits, no row is open
  pub none_open : (K : Charges C) (rows : List (Row C)) (xs : List (Waiting C)) → Matched rows xs → length xs ≡ 0 → least K.zero K.le rows ≡ None
  none_open K rows [] m z = least_none K rows (λ k l. at k l (row K.zero K.le rows k).closed refl)
    where
      at : (k : ℕ) → k < length rows → (b : Bool) → (row K.zero K.le rows k).closed ≡ b → b ≡ true
      at k l true e = refl
      at k l false e = absurd (let due_k : due rows k ≡ 1 = due_at rows k _ l ∙ ap (λ b. cond {A = ℕ} b 0 1) e in omega (arith, m.once k))
  none_open K rows (w ∷ xs) m z = absurd (omega arith)

  -- no rows, none of which waits
  pub lined_none : (le : C → C → Bool) (table : List (Entry C)) → Lined le [] 0 table
  unfolding Queued Noted
  lined_none le table = record { queued = λ p k d a b h f. absurd (omega arith); placed = λ k d h. absurd (omega arith); matched = record { once = λ j. refl; charged = tt }; few = omega arith }
