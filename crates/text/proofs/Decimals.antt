-- Reading a decimal number digit by digit.
use Rattle.std.proofs.Common.{◌≡◌, ℕ, ◌+◌, ◌-◌, ◌*◌, ◌^◌, ◌<◌, ◌≤◌, min, Bool, true, false, List, [], ◌∷◌, length, get_or, drop, Some, None, Option, IfSome, sym, refl, ◌∙◌, arith}
use native.Mathlib.Nat.{pow-le-pow_right}
use Rattle.std.specs.Char.{is_ascii_digit}
use Rattle.std.proofs.lemmas.List.{at_drop_more}
use Rattle.std.proofs.lemmas.Bool.{cond-true, cond-false, le-ltb}
use Rattle.text.specs.Fields.{digits, below_2_64}

module _ (v : ℕ) (xs : List ℕ) (i : ℕ) (h : i < length xs) where
  pub more : true ≡ is_ascii_digit (get_or xs i 0) → digits v (drop i xs) ≡ digits (v * 10 + (get_or xs i 0 - 48)) (drop (i + 1) xs)
  more e = at_drop_more (digits v) xs i 0 h ∙ cond-true _ _ _ (sym e)

  pub stop : false ≡ is_ascii_digit (get_or xs i 0) → digits v (drop i xs) ≡ None
  stop e = at_drop_more (digits v) xs i 0 h ∙ cond-false _ _ _ (sym e)

-- a number below a power of ten is below a larger one
pub within : (v i n : ℕ) → v < 10 ^ i → i ≤ n → v < 10 ^ n
within v i n h k = let t : 10 ^ i ≤ 10 ^ n = pow-le-pow_right (omega arith) k in omega arith

-- digits never make a number smaller
pub too_large : (v : ℕ) (xs : List ℕ) → 2 ^ 64 ≤ v → below_2_64 (digits v xs) ≡ None
too_large v [] h = cond-false _ _ _ (le-ltb _ _ h)
too_large v (b ∷ more) h = at (is_ascii_digit b) refl (too_large (v * 10 + (b - 48)) more (omega arith))
  where
    at : (t : Bool) → is_ascii_digit b ≡ t → below_2_64 (digits (v * 10 + (b - 48)) more) ≡ None → below_2_64 (digits v (b ∷ more)) ≡ None
    at true e h = rw e h
    at false e h = rw e

-- a number of so many digits is within a limit that is no shorter
pub below_limit : (limit : ℕ) (text : List ℕ) → length text ≤ min limit 18 → (r : Option ℕ) → IfSome r (λ n. n < 10 ^ length text) → IfSome r (λ n. n < 10 ^ min limit 18)
below_limit limit text short None h = tt
below_limit limit text short (Some n) h = within n (length text) (min limit 18) h short
