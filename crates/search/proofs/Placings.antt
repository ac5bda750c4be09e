-- A row that is kept, lowered, added or closed in the table, and what that does to the used rows.
use Rattle.std.proofs.Common.{◌≡◌, ℕ, suc, ◌+◌, ◌-◌, ◌<◌, ◌≤◌, Bool, true, false, cond, not, ltb, List, [], ◌∷◌, ◌++◌, length, get_or, take, drop, set, Some, None, Less, Equal, Greater, sym, refl, ap, ◌∙◌, arith, get_or-take}
use lib.Seq.{take-set-lt}
use Rattle.std.specs.List.{position, position_or_len}
use Rattle.std.specs.Ordering.{is_lt}
use Rattle.std.specs.Str.{bytes_eq}
use Rattle.std.proofs.lemmas.List.Recursion.{is_position_or_len}
use Rattle.std.proofs.lemmas.Bool.{cond-true, cond-false, lt-ltb, le-ltb, ltb-false}
use Rattle.std.proofs.lemmas.List.{get_or_default, length-take-le, drop-drop}
use Rattle.tariff.specs.Charges.{Charges}
use Rattle.tariff.specs.Totals.{ordered}
use Rattle.search.specs.declared.data.Row.{Row}
use Rattle.search.specs.Rows.{on, over, seek, lowered, settled, place, row, blank}
use Rattle.search.proofs.Sums.{never, not_le}

-- what a comparison tells
pub less_says : {C : Type 0} (K : Charges C) (a b : C) → is_lt (ordered K.le a b) ≡ not (K.le b a)
less_says K a b = at (K.le a b) (K.le b a) refl refl
  where
    at : (s t : Bool) → K.le a b ≡ s → K.le b a ≡ t → is_lt (cond s (cond t Equal Less) Greater) ≡ not t
    at true true u v = refl
    at true false u v = refl
    at false true u v = refl
    at false false u v = absurd (never (not_le K a b u) v)

-- where a setting is sought, in the library's words
module _ {C : Type 0} (s : List ℕ) (rows : List (Row C)) where
  at : ℕ
  at = position_or_len (λ (r : Row C). bytes_eq r.setting s) rows

  sought : at ≡ seek s rows
  unfolding at
  sought = sym (is_position_or_len (seek s) (λ (r : Row C). bytes_eq r.setting s) refl (λ x xs. let w : suc (seek s xs) ≡ 1 + seek s xs = omega arith in ap (cond (bytes_eq x.setting s) 0) w) rows)

  pub sought_there : (j : ℕ) → position (λ (r : Row C). bytes_eq r.setting s) rows ≡ Some j → j ≡ seek s rows
  unfolding at
  sought_there j e = by (ltb at (length rows)) e ∙ sought
    where
      by : (t : Bool) → cond t (Some at) None ≡ Some j → j ≡ at
      by true w = cc
      by false w = absurd (let z : ◌≡◌ {A = ℕ} 0 1 = cc in omega arith)

  pub sought_past : position (λ (r : Row C). bytes_eq r.setting s) rows ≡ None → length rows ≤ seek s rows
  unfolding at
  sought_past e = by (ltb at (length rows)) refl e
    where
      by : (t : Bool) → ltb at (length rows) ≡ t → cond t (Some at) None ≡ None → length rows ≤ seek s rows
      by true u w = absurd (let z : ◌≡◌ {A = ℕ} 0 1 = cc in omega arith)
      by false u w = omega (arith, ltb-false at (length rows) u, sought)

module _ {C : Type 0} (K : Charges C) (rows : List (Row C)) (n : ℕ) where
  -- a used row, read in the table
  pub used_row : (r : Row C) (j : ℕ) → j < n → j < length rows → r ≡ get_or rows j r → r ≡ row K.zero K.le (take n rows) j
  used_row r j low in' is = is ∙ get_or_default rows j r (blank K.zero K.le) in' ∙ sym (get_or-take n rows j (blank K.zero K.le) low)

  module _ (r new : Row C) (j : ℕ) (low : j < n) (in' : j < length rows) (is : r ≡ get_or rows j r) where
    pub settled_less : K.le r.charge new.charge ≡ false → take n (set rows j (lowered r new)) ≡ settled K.zero K.le (take n rows) new j
    settled_less e =
        let at = used_row r j low in' is in
        take-set-lt n rows j (lowered r new) low ∙ ap (λ x. set (take n rows) j (lowered x new)) at
        ∙ sym (cond-false (K.le (row K.zero K.le (take n rows) j).charge new.charge) (take n rows) (set (take n rows) j (lowered (row K.zero K.le (take n rows) j) new)) (ap (λ x. K.le x.charge new.charge) (sym at) ∙ e))

    pub settled_kept : K.le r.charge new.charge ≡ true → take n rows ≡ settled K.zero K.le (take n rows) new j
    settled_kept e =
        let at = used_row r j low in' is in
        sym (cond-true (K.le (row K.zero K.le (take n rows) j).charge new.charge) (take n rows) (set (take n rows) j (lowered (row K.zero K.le (take n rows) j) new)) (ap (λ x. K.le x.charge new.charge) (sym at) ∙ e))

  module _ (capacity : ℕ) (new : Row C) (j : ℕ) (fits : n ≤ length rows) (is : j ≡ seek new.setting (take n rows)) where
    pub place_there : j < n → on (settled K.zero K.le (take n rows) new j) ≡ place K.zero K.le capacity (take n rows) new
    place_there h =
        let m = length-take-le n rows fits in
        ap (λ k. on (settled K.zero K.le (take n rows) new k)) is
        ∙ sym (cond-true (ltb (seek new.setting (take n rows)) (length (take n rows))) (on (settled K.zero K.le (take n rows) new (seek new.setting (take n rows)))) _ (lt-ltb _ _ (omega arith)))

    pub place_push : n ≤ j → n < capacity → on (take n rows ++ new ∷ []) ≡ place K.zero K.le capacity (take n rows) new
    place_push h room =
        let m = length-take-le n rows fits in
        sym
        (cond-false (ltb (seek new.setting (take n rows)) (length (take n rows))) (on (settled K.zero K.le (take n rows) new (seek new.setting (take n rows)))) _ (le-ltb _ _ (omega arith))
        ∙ cond-true (ltb (length (take n rows)) capacity) (on (take n rows ++ new ∷ [])) (over (take n rows)) (lt-ltb _ _ (omega arith)))

    pub place_full : n ≤ j → capacity ≤ n → over (take n rows) ≡ place K.zero K.le capacity (take n rows) new
    place_full h none =
        let m = length-take-le n rows fits in
        sym
        (cond-false (ltb (seek new.setting (take n rows)) (length (take n rows))) (on (settled K.zero K.le (take n rows) new (seek new.setting (take n rows)))) _ (le-ltb _ _ (omega arith))
        ∙ cond-false (ltb (length (take n rows)) capacity) (on (take n rows ++ new ∷ [])) (over (take n rows)) (le-ltb _ _ (omega arith)))

-- what stays past the used rows stays past more of them
pub rest_more : {X : Type 0} (m n : ℕ) (xs ys : List X) → m ≤ n → drop m xs ≡ drop m ys → drop n xs ≡ drop n ys
rest_more m n xs ys h e =
    let w : m + (n - m) ≡ n = omega arith in
    ap (λ k. drop k xs) (sym w) ∙ sym (drop-drop (n - m) m xs) ∙ ap (drop (n - m)) e ∙ drop-drop (n - m) m ys ∙ ap (λ k. drop k ys) w
