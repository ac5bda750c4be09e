-- What the functions on rows answer.
use Rattle.std.proofs.Common.{◌≡◌, ℕ, zero, suc, ◌+◌, ◌<◌, ◌≤◌, Bool, true, false, cond, not, ◌&&◌, List, [], ◌∷◌, ◌++◌, map, length, get_or, set, Some, None, filter, Option, sym, refl, ap, subst, inl, inr, arith}
use Rattle.std.specs.Str.{bytes_eq}
use Rattle.std.proofs.lemmas.Slice.Eq.{bytes_eq-Decides}
use Rattle.std.proofs.lemmas.Bool.{and_parts, and_cases}
use Rattle.tariff.specs.Charges.{Charges}
use Rattle.search.specs.declared.data.Row.{Row}
use Rattle.search.specs.Rows.{shuts, seek, row, least, front}
use Rattle.search.proofs.Sums.{never, le_refl, not_le}

bit : (b : Bool) → cond {A = ℕ} b 1 0 ≤ 1
bit true = omega arith
bit false = omega arith

opened : (b : Bool) → not b ≡ true → b ≡ false
opened true e = sym e
opened false e = refl

same_eq : (s t : List ℕ) → bytes_eq s t ≡ true → s ≡ t
same_eq s t = (bytes_eq-Decides s t).0

same_refl : (s : List ℕ) → bytes_eq s s ≡ true
same_refl s = (bytes_eq-Decides s s).1 refl

module _ {C : Type 0} where
  pub shuts_set : (rows : List (Row C)) (k : ℕ) (r d : Row C) → k < length rows → shuts (set rows k r) + cond (get_or rows k d).closed 1 0 ≡ shuts rows + cond r.closed 1 0
  shuts_set [] k r d h = absurd (omega arith)
  shuts_set (x ∷ rows) zero r d h = omega arith
  shuts_set (x ∷ rows) (suc k) r d h = omega (arith, shuts_set rows k r d (omega arith))

  pub shuts_push : (rows : List (Row C)) (r : Row C) → r.closed ≡ false → shuts (rows ++ r ∷ []) ≡ shuts rows
  shuts_push [] r e = rw e
  shuts_push (x ∷ rows) r e = ap (λ n. cond x.closed 1 0 + n) (shuts_push rows r e)

  pub shuts_le : (rows : List (Row C)) → shuts rows ≤ length rows
  shuts_le [] = omega arith
  shuts_le (x ∷ rows) = omega (arith, bit x.closed, shuts_le rows)

  pub shuts_lt : (rows : List (Row C)) (k : ℕ) (d : Row C) → k < length rows → (get_or rows k d).closed ≡ false → shuts rows < length rows
  shuts_lt [] k d h e = absurd (omega arith)
  shuts_lt (x ∷ rows) zero d h e = rw e (omega (arith, shuts_le rows))
  shuts_lt (x ∷ rows) (suc k) d h e = omega (arith, bit x.closed, shuts_lt rows k d (omega arith) e)

  pub shuts_kept : (rows : List (Row C)) → shuts rows ≡ length (map (λ r. r.setting) (filter (λ r. r.closed) rows))
  shuts_kept [] = refl
  shuts_kept (x ∷ rows) = at x.closed (shuts_kept rows)
    where
      at : (b : Bool) → shuts rows ≡ length (map (λ r. r.setting) (filter (λ r. r.closed) rows))
          → cond b 1 0 + shuts rows ≡ length (map (λ r. r.setting) (cond b (x ∷ filter (λ r. r.closed) rows) (filter (λ r. r.closed) rows)))
      at true ih = omega arith
      at false ih = omega arith

  pub seek_found : (t : List ℕ) (rows : List (Row C)) (d : Row C) → seek t rows < length rows → (get_or rows (seek t rows) d).setting ≡ t
  seek_found t [] d h = absurd (omega arith)
  seek_found t (r ∷ rows) d h = at (bytes_eq r.setting t) refl h (seek_found t rows d)
    where
      at : (b : Bool) → bytes_eq r.setting t ≡ b → cond b 0 (suc (seek t rows)) < suc (length rows) → (seek t rows < length rows → (get_or rows (seek t rows) d).setting ≡ t)
          → (get_or (r ∷ rows) (cond b 0 (suc (seek t rows))) d).setting ≡ t
      at true e h ih = same_eq r.setting t e
      at false e h ih = ih (omega arith)

  pub seek_past : (t : List ℕ) (rows : List (Row C)) (d : Row C) → length rows ≤ seek t rows → (k : ℕ) → k < length rows → (get_or rows k d).setting ≡ t → ⊥
  seek_past t [] d h k l e = omega arith
  seek_past t (r ∷ rows) d h k l e = at (bytes_eq r.setting t) refl h k l e (seek_past t rows d)
    where
      at : (b : Bool) → bytes_eq r.setting t ≡ b → suc (length rows) ≤ cond b 0 (suc (seek t rows)) → (k : ℕ) → k < suc (length rows) → (get_or (r ∷ rows) k d).setting ≡ t
          → (length rows ≤ seek t rows → (k : ℕ) → k < length rows → (get_or rows k d).setting ≡ t → ⊥) → ⊥
      at true e h k l q ih = omega arith
      at false e h zero l q ih = never (subst (λ u. bytes_eq r.setting u ≡ true) q (same_refl r.setting)) e
      at false e h (suc k) l q ih = ih (omega arith) k (omega arith) q

  module _ (K : Charges C) where
    abbrev at_row : List (Row C) → ℕ → Row C
    at_row rows k = row K.zero K.le rows k

    -- the row is open, none open is cheaper, and the open ones before it are dearer
    pub record IsLeast (rows : List (Row C)) (j : ℕ) : Type 0 where
      pub low : j < length rows
      pub waits : (at_row rows j).closed ≡ false
      pub least' : (k : ℕ) → k < length rows → (at_row rows k).closed ≡ false → K.le (at_row rows j).charge (at_row rows k).charge ≡ true
      pub first' : (k : ℕ) → k < j → (at_row rows k).closed ≡ false → K.le (at_row rows k).charge (at_row rows j).charge ≡ false

    abbrev pub Least : List (Row C) → Option ℕ → Type 0
    Least rows None = (k : ℕ) → k < length rows → (at_row rows k).closed ≡ true
    Least rows (Some j) = IsLeast rows j

    front_is : (r : Row C) (rows : List (Row C)) (o : Option ℕ) → Least rows o → Least (r ∷ rows) (front K.zero K.le r rows o)
    front_is r rows None h = at r.closed refl
      where
        at : (b : Bool) → r.closed ≡ b → Least (r ∷ rows) (cond b None (Some 0))
        at false e = record { low = omega arith; waits = e; least' = elim [ zero ↦ λ l v. le_refl K _ | suc k ↦ λ l v. absurd (never (h k (omega arith)) v) ]; first' = λ k l. absurd (omega arith) }
        at true e = elim [ zero ↦ λ l. e | suc k ↦ λ l. h k (omega arith) ]
    front_is r rows (Some j) h = at (not r.closed && K.le r.charge (at_row rows j).charge) refl
      where
        at : (b : Bool) → (not r.closed && K.le r.charge (at_row rows j).charge) ≡ b → Least (r ∷ rows) (cond b (Some 0) (Some (suc j)))
        at true e = record {
          low = omega arith;
          waits = opened r.closed (and_parts (not r.closed) (K.le r.charge (at_row rows j).charge) e).0;
          least' = elim [
            | zero ↦ λ l v. le_refl K _
            | suc k ↦ λ l v. K.le_trans _ _ _ (and_parts (not r.closed) (K.le r.charge (at_row rows j).charge) e).1 (h.least' k (omega arith) v)
          ];
          first' = λ k l. absurd (omega arith);
        }
        at false e =
            let late : r.closed ≡ false → K.le r.charge (at_row rows j).charge ≡ false = λ v. elim (and_cases (not r.closed) (K.le r.charge (at_row rows j).charge) e) [ inl x ↦ absurd (never (ap not v) x) | inr x ↦ x ] in
            record {
              low = omega (arith, h.low);
              waits = h.waits;
              least' = elim [ zero ↦ λ l v. not_le K _ _ (late v) | suc k ↦ λ l v. h.least' k (omega arith) v ];
              first' = elim [ zero ↦ λ l v. late v | suc k ↦ λ l v. h.first' k (omega arith) v ];
            }

    pub least_is : (rows : List (Row C)) → Least rows (least K.zero K.le rows)
    least_is [] = λ k h. absurd (omega arith)
    least_is (r ∷ rows) = front_is r rows (least K.zero K.le rows) (least_is rows)
