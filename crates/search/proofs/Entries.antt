-- The two parts of a queue's table.
use Rattle.std.proofs.Common.{◌≡◌, ℕ, ◌<◌, ◌≤◌, List, map, length, get_or, take, set, sym, ap, ◌∙◌, subst, arith, length-take, get_or-take}
use lib.ListN.{get_or-map}
use lib.Seq.{take-set-lt}
use Rattle.std.specs.List.{swap}
use Rattle.std.proofs.lemmas.List.{map-set, set-get_or, get_or_default}
use Rattle.std.proofs.lemmas.List.Edits.{swap_is as exchanged_is, swapped_from_swap, length-swap}
use Rattle.search.specs.declared.entry.Waiting.{Waiting}
use Rattle.search.specs.Queues.{Noted}
use Rattle.search.proofs.Notes.{noted_exchange}

-- a part that a store leaves as it was
pub part_kept : {X Y : Type 0} (f : X → Y) (xs : List X) (i : ℕ) (d x : X) → f x ≡ f (get_or xs i d) → map f (set xs i x) ≡ map f xs
part_kept f xs i d x same =
    map-set f xs i x ∙ ap (set (map f xs) i) (same ∙ sym (get_or-map f xs i d)) ∙ set-get_or (map f xs) i (f d)

-- two rows of the queue exchanged
module _ {C : Type 0} (W W' : List (Waiting C)) (n a b : ℕ) (down up : Waiting C) (in_a : a < n) (in_b : b < n) (fits : n ≤ length W) (at_a : down ≡ get_or W a down) (at_b : up ≡ get_or W b up) (after : W' ≡ set (set W a up) b down) where
  front_long : length (take n W) ≡ n
  front_long = simp length-take (omega arith)

  down_at : down ≡ get_or (take n W) a down
  down_at = at_a ∙ sym (get_or-take n W a down in_a)

  up_at : up ≡ get_or (take n W) b up
  up_at = at_b ∙ sym (get_or-take n W b up in_b)

  pub swap_is : take n W' ≡ swap (take n W) a b
  swap_is =
      let in_a' : a < length (take n W) = omega (arith, front_long) in
      let in_b' : b < length (take n W) = omega (arith, front_long) in
      ap (take n) after ∙ take-set-lt n (set W a up) b down in_b ∙ ap (λ l. set l b down) (take-set-lt n W a up in_a) ∙ (λ i. set (set (take n W) a ((up_at ∙ get_or_default (take n W) b up down in_b') i)) b (down_at i)) ∙ exchanged_is (take n W) a b down in_a' in_b'

  pub swap_noted : (P P' : List ℕ) → P' ≡ set (set P up.row a) down.row b → Noted (take n W) P → Noted (take n W') P'
  swap_noted P P' is was =
      let in_a' : a < length (take n W) = omega (arith, front_long) in
      let in_b' : b < length (take n W) = omega (arith, front_long) in
      let long : length (take n W') ≡ length (take n W) = ap length swap_is ∙ length-swap (take n W) a b in
      let moved = λ (d : Waiting C). swapped_from_swap (take n W) (take n W') a b d in_a' in_b' swap_is in
      subst (Noted (take n W')) (sym is) (noted_exchange (take n W) (take n W') P a b up down was in_a' in_b' long up_at down_at (λ d. (moved d).0) (λ d. (moved d).1) (λ k d u v. (moved d).2 k u v))
