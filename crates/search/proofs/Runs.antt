-- Steps of a search one after the other, and what the functions on rows do to their number.
use Rattle.std.proofs.Common.{◌≡◌, ℕ, zero, suc, ◌+◌, ◌<◌, ◌≤◌, Bool, true, false, cond, ◌&&◌, eqb, ltb, List, [], ◌∷◌, ◌++◌, length, set, Some, None, Option, sym, refl, ap, ◌∙◌, inl, inr, suc-add, zero-add, arith, length-set}
use Rattle.std.specs.Str.{bytes_eq}
use Rattle.std.proofs.lemmas.List.{length_push}
use Rattle.std.proofs.lemmas.Bool.{cases_Bool, cases_order, cond-true, cond-false, ltb-true}
use Rattle.tariff.specs.Charges.{Charges}
use Rattle.search.specs.declared.data.Row.{Row}
use Rattle.search.specs.Rows.{Swept, on, over, seek, least, settled, place, lowered, row, follow}
use Rattle.search.specs.Steps.{Problem, row_at, least_open, reach, relaxed, onward, sweep, expand, Outcome, going, at_goal, exhausted, crowded, State, look, carry, decide, advance}
use Rattle.search.proofs.Sums.{never}
use Rattle.search.proofs.RowFacts.{IsLeast, Least, least_is}

module _ {C : Type 0} (K : Charges C) (rows : List (Row C)) where
  same_least : (i j : ℕ) → IsLeast K rows i → IsLeast K rows j → i ≡ j
  same_least i j h g = elim (cases_order i j) [
    | inl e ↦ e
    | inr (inl l) ↦ absurd (never (h.least' j g.low g.waits) (g.first' i l h.waits))
    | inr (inr l) ↦ absurd (never (g.least' i h.low h.waits) (h.first' j l g.waits))
  ]

  -- a row that is open, with none cheaper and none as cheap before it, is the least
  pub least_some : (i : ℕ) → IsLeast K rows i → least K.zero K.le rows ≡ Some i
  least_some i h = at (least K.zero K.le rows) (least_is K rows)
    where
      at : (o : Option ℕ) → Least K rows o → o ≡ Some i
      at None all = absurd (never (all i h.low) h.waits)
      at (Some j) g = ap Some (same_least j i g h)

  pub least_none : ((k : ℕ) → k < length rows → (row K.zero K.le rows k).closed ≡ true) → least K.zero K.le rows ≡ None
  least_none all = at (least K.zero K.le rows) (least_is K rows)
    where
      at : (o : Option ℕ) → Least K rows o → o ≡ None
      at None h = refl
      at (Some j) h = absurd (never (all j h.low) h.waits)

  -- an open row that no open row comes before, by charge and then by number, is the least
  pub least_first : (i : ℕ) → i < length rows → (row K.zero K.le rows i).closed ≡ false
      → ((k : ℕ) → k < length rows → (row K.zero K.le rows k).closed ≡ false
      → (K.le (row K.zero K.le rows i).charge (row K.zero K.le rows k).charge ≡ true) × (K.le (row K.zero K.le rows k).charge (row K.zero K.le rows i).charge ≡ true → i ≤ k))
      → least K.zero K.le rows ≡ Some i
  least_first i low waits first = least_some i (record {
    low = low;
    waits = waits;
    least' = λ k l w. (first k l w).0;
    first' = λ k l w. elim (cases_Bool (K.le (row K.zero K.le rows k).charge (row K.zero K.le rows i).charge)) [ inl e ↦ absurd (let n = (first k (omega arith) w).1 e in omega arith) | inr e ↦ e ];
  })

pub seek_within : {C : Type 0} (s : List ℕ) (rows : List (Row C)) → seek s rows ≤ length rows
seek_within s [] = omega arith
seek_within s (r ∷ more) = at (bytes_eq r.setting s) (seek_within s more)
  where
    at : (b : Bool) → seek s more ≤ length more → cond b 0 (suc (seek s more)) ≤ suc (length more)
    at true h = omega arith
    at false h = omega arith

-- the rows, whether one was left or not
abbrev pub rows_of : {C : Type 0} → Swept C → List (Row C)
rows_of (on rows) = rows
rows_of (over rows) = rows

-- no fewer rows than before, and no more than there is room for
pub record Sized {C : Type 0} (capacity : ℕ) (rows rows' : List (Row C)) : Type 0 where
  pub grown : length rows ≤ length rows'
  pub within : length rows ≤ capacity → length rows' ≤ capacity

sized_same : {C : Type 0} (capacity : ℕ) (rows : List (Row C)) → Sized capacity rows rows
sized_same capacity rows = record { grown = omega arith; within = λ h. h }

sized_then : {C : Type 0} {capacity : ℕ} {rows rows' rows'' : List (Row C)} → Sized capacity rows rows' → Sized capacity rows' rows'' → Sized capacity rows rows''
sized_then a z = record { grown = omega (arith, a.grown, z.grown); within = λ h. z.within (a.within h) }

module _ {C : Type 0} (P : Problem C) where
  pub place_sized : (rows : List (Row C)) (new : Row C) → Sized P.quest.capacity rows (rows_of (place P.charges.zero P.charges.le P.quest.capacity rows new))
  place_sized rows new = at (ltb j (length rows))
    where
      j : ℕ
      j = seek new.setting rows

      have : (b : Bool) → Sized P.quest.capacity rows (cond b rows (set rows j (lowered (row_at P rows j) new)))
      have true = sized_same P.quest.capacity rows
      have false = let e = length-set rows j (lowered (row_at P rows j) new) in record { grown = omega arith; within = λ h. omega arith }

      lack : (b : Bool) → ltb (length rows) P.quest.capacity ≡ b → Sized P.quest.capacity rows (rows_of (cond b (on (rows ++ new ∷ [])) (over rows)))
      lack true e = let n = length_push rows new in let l = ltb-true (length rows) P.quest.capacity e in record { grown = omega arith; within = λ h. omega arith }
      lack false e = sized_same P.quest.capacity rows

      at : (b : Bool) → Sized P.quest.capacity rows (rows_of (cond b (on (settled P.charges.zero P.charges.le rows new j)) (cond (ltb (length rows) P.quest.capacity) (on (rows ++ new ∷ [])) (over rows))))
      at true = have (P.charges.le (row_at P rows j).charge new.charge)
      at false = lack (ltb (length rows) P.quest.capacity) refl

  relaxed_sized : (i : ℕ) (s : List ℕ) (c : C) (rows : List (Row C)) (a : ℕ) → Sized P.quest.capacity rows (rows_of (relaxed P i s c rows a))
  relaxed_sized i s c rows a = at (P.charges.le (P.charges.plus c (P.charges.charge (P.act a))) P.quest.bound)
    where
      at : (b : Bool) → Sized P.quest.capacity rows (rows_of (cond b (place P.charges.zero P.charges.le P.quest.capacity rows (reach P i s c a)) (on rows)))
      at true = place_sized rows (reach P i s c a)
      at false = sized_same P.quest.capacity rows

  pub onward_sized : (marks : ℕ → Bool) (i : ℕ) (s : List ℕ) (c : C) (w : Swept C) (a : ℕ) → Sized P.quest.capacity (rows_of w) (rows_of (onward P marks i s c w a))
  onward_sized marks i s c (over rows) a = sized_same P.quest.capacity rows
  onward_sized marks i s c (on rows) a = at (marks a && P.world.can s a)
    where
      at : (b : Bool) → Sized P.quest.capacity rows (rows_of (cond b (relaxed P i s c rows a) (on rows)))
      at true = relaxed_sized i s c rows a
      at false = sized_same P.quest.capacity rows

  pub sweep_sized : (marks : ℕ → Bool) (i : ℕ) (s : List ℕ) (c : C) (rows : List (Row C)) (a : ℕ) → Sized P.quest.capacity rows (rows_of (sweep P marks i s c rows a))
  sweep_sized marks i s c rows zero = sized_same P.quest.capacity rows
  sweep_sized marks i s c rows (suc a) = sized_then (sweep_sized marks i s c rows a) (onward_sized marks i s c (sweep P marks i s c rows a) a)

  -- the marks of the actions below a number decide
  pub sweep_marks : (marks marks' : ℕ → Bool) (i : ℕ) (s : List ℕ) (c : C) (rows : List (Row C)) (a : ℕ) → ((k : ℕ) → k < a → marks k ≡ marks' k) → sweep P marks i s c rows a ≡ sweep P marks' i s c rows a
  sweep_marks marks marks' i s c rows zero h = refl
  sweep_marks marks marks' i s c rows (suc a) h =
      ap (λ w. onward P marks i s c w a) (sweep_marks marks marks' i s c rows a (λ k l. h k (omega arith))) ∙ onward_marks (sweep P marks' i s c rows a)
    where
      onward_marks : (w : Swept C) → onward P marks i s c w a ≡ onward P marks' i s c w a
      onward_marks (over rows) = refl
      onward_marks (on rows) = ap (λ m. cond (m && P.world.can s a) (relaxed P i s c rows a) (on rows)) (h a (omega arith))

  -- once no row was left, the rest of the expansion is dropped
  pub sweep_over : (marks : ℕ → Bool) (i : ℕ) (s : List ℕ) (c : C) (rows rows' : List (Row C)) (a more : ℕ) → sweep P marks i s c rows a ≡ over rows' → sweep P marks i s c rows (more + a) ≡ over rows'
  sweep_over marks i s c rows rows' a zero e = ap (sweep P marks i s c rows) (zero-add a) ∙ e
  sweep_over marks i s c rows rows' a (suc more) e = ap (sweep P marks i s c rows) (suc-add more a) ∙ ap (λ w. onward P marks i s c w (more + a)) (sweep_over marks i s c rows rows' a more e)

  -- what one step does, by the least open row
  module _ (marks : List ℕ → ℕ → Bool) (rows : List (Row C)) (n : ℕ) where
    abbrev stands : Outcome → State C
    stands o = record { rows = rows; count = n; outcome = o }

    pub step_none : (k : ℕ) → least_open P rows ≡ None → advance P marks k rows n ≡ stands exhausted
    step_none zero e = ap (λ o. stands (look P rows o)) e
    step_none (suc k) e = ap (decide P marks (advance P marks k) rows n) e

    module _ (i : ℕ) (first : least_open P rows ≡ Some i) where
      pub step_found : (k : ℕ) → P.world.goal (row_at P rows i).setting ≡ true → advance P marks k rows n ≡ stands (at_goal i)
      step_found zero h = ap (λ o. stands (look P rows o)) first ∙ ap (λ t. stands (cond t (at_goal i) going)) h
      step_found (suc k) h = ap (decide P marks (advance P marks k) rows n) first ∙ cond-true (P.world.goal (row_at P rows i).setting) (stands (at_goal i)) _ h

      pub step_going : P.world.goal (row_at P rows i).setting ≡ false → advance P marks 0 rows n ≡ stands going
      step_going h = ap (λ o. stands (look P rows o)) first ∙ ap (λ t. stands (cond t (at_goal i) going)) h

      pub step_on : (k : ℕ) (w : Swept C) → P.world.goal (row_at P rows i).setting ≡ false → expand P marks rows i ≡ w → advance P marks (suc k) rows n ≡ carry P (advance P marks k) n w
      step_on k w h e =
          ap (decide P marks (advance P marks k) rows n) first ∙ cond-false (P.world.goal (row_at P rows i).setting) (stands (at_goal i)) _ h ∙ ap (carry P (advance P marks k) n) e

  -- k steps more, unless the search has ended
  abbrev pub go_on : (List ℕ → ℕ → Bool) → ℕ → List (Row C) → ℕ → Outcome → State C
  go_on marks k rows n going = advance P marks k rows n
  go_on marks k rows n (at_goal i) = record { rows = rows; count = n; outcome = at_goal i }
  go_on marks k rows n exhausted = record { rows = rows; count = n; outcome = exhausted }
  go_on marks k rows n crowded = record { rows = rows; count = n; outcome = crowded }

  abbrev pub continue : (List ℕ → ℕ → Bool) → ℕ → State C → State C
  continue marks k st = go_on marks k st.rows st.count st.outcome

  module _ (marks : List ℕ → ℕ → Bool) where
    look_add : (k : ℕ) (rows : List (Row C)) (n : ℕ) (o : Option ℕ) → least_open P rows ≡ o → go_on marks k rows n (look P rows o) ≡ advance P marks k rows n
    look_add k rows n None e = sym (step_none marks rows n k e)
    look_add k rows n (Some i) e = by (P.world.goal (row_at P rows i).setting) refl
      where
        by : (b : Bool) → P.world.goal (row_at P rows i).setting ≡ b → go_on marks k rows n (cond b (at_goal i) going) ≡ advance P marks k rows n
        by false q = refl
        by true q = sym (step_found marks rows n i e k q)

    carry_add : (k : ℕ) (f g : List (Row C) → ℕ → State C) → ((rows : List (Row C)) (n : ℕ) → continue marks k (f rows n) ≡ g rows n) → (n : ℕ) (w : Swept C) → continue marks k (carry P f n w) ≡ carry P g n w
    carry_add k f g h n (on rows) = h rows (suc n)
    carry_add k f g h n (over rows) = refl

    decide_add : (k : ℕ) (f g : List (Row C) → ℕ → State C) → ((rows : List (Row C)) (n : ℕ) → continue marks k (f rows n) ≡ g rows n) → (rows : List (Row C)) (n : ℕ) (o : Option ℕ)
        → continue marks k (decide P marks f rows n o) ≡ decide P marks g rows n o
    decide_add k f g h rows n None = refl
    decide_add k f g h rows n (Some i) = by (P.world.goal (row_at P rows i).setting)
      where
        by : (b : Bool) → continue marks k (cond b (record { rows = rows; count = n; outcome = at_goal i }) (carry P f n (expand P marks rows i)))
            ≡ cond b (record { rows = rows; count = n; outcome = at_goal i }) (carry P g n (expand P marks rows i))
        by true = refl
        by false = carry_add k f g h n (expand P marks rows i)

    -- steps in two parts are the steps together
    pub advance_add : (j k : ℕ) (rows : List (Row C)) (n : ℕ) → continue marks k (advance P marks j rows n) ≡ advance P marks (j + k) rows n
    advance_add zero k rows n = look_add k rows n (least_open P rows) refl ∙ ap (λ m. advance P marks m rows n) (sym (zero-add k))
    advance_add (suc j) k rows n =
        decide_add k (advance P marks j) (advance P marks (j + k)) (λ r m. advance_add j k r m) rows n (least_open P rows) ∙ ap (λ m. advance P marks m rows n) (sym (suc-add j k))

-- one origin more
module _ {C : Type 0} (zero_charge : C) (le : C → C → Bool) (fuel : ℕ) (rows : List (Row C)) (k : ℕ) (behind : List ℕ) where
  pub follow_root : k ≡ 0 → follow zero_charge le fuel rows k behind ≡ behind
  follow_root e = ap (λ j. follow zero_charge le fuel rows j behind) e ∙ at fuel
    where
      at : (f : ℕ) → follow zero_charge le f rows 0 behind ≡ behind
      at zero = refl
      at (suc f) = refl

  pub follow_on : eqb k 0 ≡ false → follow zero_charge le (suc fuel) rows k behind ≡ follow zero_charge le fuel rows (row zero_charge le rows k).origin ((row zero_charge le rows k).action ∷ behind)
  follow_on e = cond-false (eqb k 0) behind _ e
