-- A line by its first field and what is left.
use Rattle.std.proofs.Common.{◌≡◌, ℕ, ◌<◌, ◌≤◌, Bool, true, false, eqb, ltb, List, [], ◌∷◌, length, Some, None, Option, is_none, ◌⊎◌, inl, inr, refl, sym, ap, ◌∙◌, arith, Bor}
use Rattle.std.specs.Bool.{Decides, then_some}
use Rattle.std.specs.List.{position_or_len}
use Rattle.std.proofs.lemmas.Bool.{cases_lt, lt-ltb, le-ltb}
use Rattle.std.proofs.lemmas.Grind.{common_steps}
use Rattle.std.proofs.lemmas.List.{take_all}
use Rattle.std.proofs.lemmas.List.Splits.{length-slice_split, slice_split_first, slice_split_none}
use Rattle.std.proofs.lemmas.List.Sums.{fails_before_first}
use Rattle.text.specs.Fields.{before, after, pieces}
use Rattle.console.specs.Left.{fields_in}

module _ (text : List ℕ) (field rest : Bor (List ℕ)) (front : field.now ≡ before 32 text) (back : rest.now ≡ after 32 text) where
  step : (known : Bool) → ltb (length field.now) (length text) ≡ known → pieces 32 text ≡ before 32 text ∷ fields_in (then_some known rest) → pieces 32 text ≡ field.now ∷ fields_in (then_some (ltb (length field.now) (length text)) rest)
  step known e is = is ∙ (λ i. sym front i ∷ fields_in (then_some (sym e i) rest))

  -- the first field, and the others where a space ends it
  pub first_field : pieces 32 text ≡ field.now ∷ fields_in (then_some (ltb (length field.now) (length text)) rest)
  first_field = at (cases_lt (position_or_len (λ b. eqb b 32) text) (length text))
    where
      at : (position_or_len (λ b. eqb b 32) text < length text) ⊎ (length text ≤ position_or_len (λ b. eqb b 32) text) → pieces 32 text ≡ field.now ∷ fields_in (then_some (ltb (length field.now) (length text)) rest)
      at (inl h) =
          let low : length field.now < length text = grind (arith, common_steps, ap length front) in
          step true (lt-ltb _ _ low) (slice_split_first (λ b. eqb b 32) text 0 h ∙ ap (λ l. before 32 text ∷ pieces 32 l) (sym back))
      at (inr h) =
          let all = take_all (position_or_len (λ b. eqb b 32) text) text h in
          let high : length text ≤ length field.now = grind (arith, common_steps, ap length front, ap length all) in
          step false (le-ltb _ _ high) (slice_split_none (λ b. eqb b 32) text (λ k d l. fails_before_first (λ b. eqb b 32) text k d (omega arith)) ∙ ap (λ l. l ∷ []) (sym all))

-- a field is left where something is
pub none_left : (left : Option (Bor (List ℕ))) (none : Bool) → none ≡ is_none left → Decides none (fields_in left ≡ [])
none_left None none e = (λ _. refl, λ _. e)
none_left (Some rest) none e = (
  λ t. absurd (let z : ◌≡◌ {A = ℕ} 0 1 = cc in omega arith),
  λ is. absurd (let z : length (pieces 32 rest.now) ≡ 0 = ap length is in omega (arith, length-slice_split (λ b. eqb b 32) rest.now)),
)
