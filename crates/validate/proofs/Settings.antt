-- A setting made value by value.
use Rattle.std.proofs.Common.{◌≡◌, ℕ, zero, suc, ◌+◌, ◌-◌, ◌<◌, ◌≤◌, min, ◌⊎◌, List, [], ◌∷◌, length, get_or, set, replicate, sym, refl, ap, ◌∙◌, subst, inl, inr, arith, length-set, get_or-set_same, get_or-set_other}
use Rattle.std.specs.Array.{IsFromFnResultFrom}
use Rattle.std.specs.Fn.{Called}
use denote.Param.Members.{Mut}
use Rattle.std.proofs.lemmas.Bool.{cases_lt}
use Rattle.std.proofs.lemmas.List.FromFn.{fill_by_all}
use Rattle.validate.specs.Walks.{placed, setting_of}

-- what calls of one closure at 0, 1, .. gave, where it computes h
module _ {F : Type 0} (g : Mut F (ℕ × Unit {0}) ℕ) (h : ℕ → ℕ) (f : F) (computes : (i y : ℕ) (q : F) → Called g f (i, tt) y q → (q ≡ f) × (y ≡ h i)) (ys : List ℕ) where
  from_place : (i n : ℕ) → IsFromFnResultFrom g f ys i n → (k : ℕ) → i ≤ k → k < i + n → get_or ys k 0 ≡ h k
  from_place i zero e k l r = absurd (omega arith)
  from_place i (suc n) (q, y, at, called, more) k l r =
      elim (cases_lt i k) [
        | inl after ↦ from_place (i + 1) n (subst (λ p. IsFromFnResultFrom g p ys (i + 1) n) (computes i y q called).0 more) k (omega arith) (omega arith)
        | inr here ↦ let e : i ≡ k = omega arith in subst (λ m. get_or ys m 0 ≡ h m) e (at.1 0 ∙ (computes i y q called).1)
      ]

  pub each_is : (n : ℕ) → IsFromFnResultFrom g f ys 0 n → (k : ℕ) → k < n → get_or ys k 0 ≡ h k
  each_is n e k l = from_place 0 n e k (omega arith) (omega arith)

length-placed : (s : List ℕ) (i : ℕ) (values : List ℕ) → length (placed s i values) ≡ length s
length-placed s i [] = refl
length-placed s i (x ∷ more) = length-placed (set s i (min x 255)) (i + 1) more ∙ length-set _ _ _

-- a value that stands before the place is kept
before : (s : List ℕ) (i : ℕ) (values : List ℕ) (k : ℕ) → k < i → get_or (placed s i values) k 0 ≡ get_or s k 0
before s i [] k l = refl
before s i (x ∷ more) k l = before (set s i (min x 255)) (i + 1) more k (omega arith) ∙ get_or-set_other s i k (min x 255) 0 (omega arith)

-- from the place on stand the values
value_at : (s : List ℕ) (i : ℕ) (values : List ℕ) → ((j : ℕ) → i ≤ j → get_or s j 0 ≡ 0) → (k : ℕ) → i ≤ k → k < length s → get_or (placed s i values) k 0 ≡ min (get_or values (k - i) 0) 255
value_at s i [] rest k l within = rest k l
value_at s i (x ∷ more) rest k l within = at (cases_lt i k) (value_at (set s i (min x 255)) (i + 1) more)
  where
    at : (i < k) ⊎ (k ≤ i) → (((j : ℕ) → i + 1 ≤ j → get_or (set s i (min x 255)) j 0 ≡ 0) → (k : ℕ) → i + 1 ≤ k → k < length (set s i (min x 255)) → get_or (placed (set s i (min x 255)) (i + 1) more) k 0 ≡ min (get_or more (k - (i + 1)) 0) 255) → get_or (placed s i (x ∷ more)) k 0 ≡ min (get_or (x ∷ more) (k - i) 0) 255
    at (inl h) go =
        let e : k - i ≡ suc (k - (i + 1)) = omega arith in
        let there : k < length (set s i (min x 255)) = omega (arith, length-set {A = ℕ}) in
        go (λ j m. get_or-set_other s i j (min x 255) 0 (omega arith) ∙ rest j (omega arith)) k (omega arith) there ∙ ap (λ n. min (get_or (x ∷ more) n 0) 255) (sym e)
    at (inr h) go =
        let same : k ≡ i = omega arith in
        let e : k - i ≡ 0 = omega arith in
        before (set s i (min x 255)) (i + 1) more k (omega arith) ∙ ap (λ n. get_or (set s i (min x 255)) n 0) same ∙ get_or-set_same s i (min x 255) 0 (omega arith) ∙ ap (λ n. min (get_or (x ∷ more) n 0) 255) (sym e)

zeros : (n j : ℕ) → get_or {A = ℕ} (replicate n 0) j 0 ≡ 0
zeros zero j = refl
zeros (suc n) zero = refl
zeros (suc n) (suc j) = zeros n j

pub made : (values ys : List ℕ) → length ys ≡ 64 → ((k : ℕ) → k < 64 → get_or ys k 0 ≡ min (get_or values k 0) 255) → ys ≡ setting_of values
made values ys long each =
    let h : ℕ → ℕ = λ k. min (get_or values k 0) 255 in
    fill_by_all h ys 64 0 long each ∙ sym (fill_by_all h (setting_of values) 64 0 (length-placed (replicate 64 0) 0 values) (λ k l. let e : k - 0 ≡ k = omega arith in value_at (replicate 64 0) 0 values (λ j m. zeros 64 j) k (omega arith) l ∙ ap (λ n. h n) e))
