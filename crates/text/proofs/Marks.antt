-- What stands before and after the first mark, by its place.
use Rattle.std.proofs.Common.{◌≡◌, ℕ, ◌+◌, ◌≤◌, eqb, List, [], length, take, drop, Some, None, position, sym, ap, arith}
use Rattle.std.specs.List.{position_or_len}
use Rattle.std.proofs.lemmas.List.{take_all, drop_all}
use Rattle.text.specs.Fields.{before, after}

module _ (m : ℕ) (xs : List ℕ) where
  pub found : (i : ℕ) → Some i ≡ position (λ b. eqb b m) xs → (take i xs ≡ before m xs) × (drop (i + 1) xs ≡ after m xs)
  found i e =
      let at : i ≡ position_or_len (λ b. eqb b m) xs = grind (arith, e) in
      (ap (λ n. take n xs) at, ap (λ n. drop (n + 1) xs) at)

  pub missed : None ≡ position (λ b. eqb b m) xs → (xs ≡ before m xs) × ([] ≡ after m xs)
  missed e =
      let past : length xs ≤ position_or_len (λ b. eqb b m) xs = grind (arith, e) in
      (sym (take_all _ xs past), sym (drop_all _ xs (omega arith)))
