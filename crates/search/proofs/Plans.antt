-- A plan, written from its end and turned round.
use Rattle.std.proofs.Common.{◌≡◌, ℕ, suc, ◌+◌, ◌-◌, ◌<◌, ◌≤◌, Bool, List, [], ◌∷◌, ◌++◌, reverse, length, take, drop, set, sym, ap, ◌∙◌, arith, take_at}
use mathlib.Core.List.{reverse-append}
use Rattle.std.proofs.lemmas.List.{drop_at, take_more_set}
use Rattle.std.proofs.lemmas.Bool.{ne_eqb}
use Rattle.search.specs.declared.data.Row.{Row}
use Rattle.search.specs.Rows.{row, follow, plan_of}
use Rattle.search.specs.Left.{Written}
use Rattle.search.proofs.Runs.{follow_root, follow_on}

module _ {C : Type 0} (zero_charge : C) (le : C → C → Bool) (rows : List (Row C)) (goal count at : ℕ) (plan : List ℕ) (so_far : follow zero_charge le (length rows - count) rows at (reverse (take count plan)) ≡ plan_of zero_charge le rows goal) where
  -- one action more
  pub one_back : (origin action : ℕ) → count < length rows → count < length plan → (at ≡ 0 → ⊥) → origin ≡ (row zero_charge le rows at).origin → action ≡ (row zero_charge le rows at).action
      → follow zero_charge le (length rows - (count + 1)) rows origin (reverse (take (count + 1) (set plan count action))) ≡ plan_of zero_charge le rows goal
  one_back origin action in_rows in_plan not_root from by =
      let left = length rows - (count + 1) in
      let fuel : suc left ≡ length rows - count = omega arith in
      let list : reverse (take (count + 1) (set plan count action)) ≡ action ∷ reverse (take count plan) = ap reverse (take_more_set plan count action in_plan) ∙ reverse-append (take count plan) (action ∷ []) in
      ap (λ x. follow zero_charge le left rows origin x) list
      ∙ (λ i. follow zero_charge le left rows (from i) (by i ∷ reverse (take count plan)))
      ∙ sym (follow_on zero_charge le left rows at (reverse (take count plan)) (ne_eqb at 0 not_root))
      ∙ ap (λ f. follow zero_charge le f rows at (reverse (take count plan))) fuel
      ∙ so_far

  -- row 0 is reached
  pub at_root : at ≡ 0 → reverse (take count plan) ≡ plan_of zero_charge le rows goal
  at_root e = sym (follow_root zero_charge le (length rows - count) rows at (reverse (take count plan)) e) ∙ so_far

  -- as many origins as there are rows
  pub at_last : length rows ≤ count → reverse (take count plan) ≡ plan_of zero_charge le rows goal
  at_last all = let none : 0 ≡ length rows - count = omega arith in ap (λ f. follow zero_charge le f rows at (reverse (take count plan))) none ∙ so_far

-- a list in the first places, over what lies past them
pub written_first : {X : Type 0} (list done rest before : List X) (n : ℕ) → length done ≡ n → done ≡ list → rest ≡ drop n before → Written list before (done ++ rest)
written_first list done rest before n long is same = record {
  first = take_at done rest (length list) (ap length is) ∙ is;
  rest = drop_at done rest (length list) (ap length is) ∙ same ∙ ap (λ m. drop m before) (sym long ∙ ap length is);
}
