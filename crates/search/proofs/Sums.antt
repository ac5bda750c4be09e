-- Sums of charges.
use Rattle.std.proofs.Common.{◌≡◌, ℕ, suc, Bool, true, false, List, [], ◌∷◌, ◌++◌, map, length, sym, refl, ap, ◌∙◌, ap₂, inl, inr, ⊎_elim}
use mathlib.Core.List.{Permᴰ}
use Rattle.std.proofs.lemmas.Bool.{or_cases, true≢false}
use Rattle.task.specs.Benches.{Act}
use Rattle.tariff.specs.Charges.{Charges, summed}

-- a test does not come out both ways
pub never : {b : Bool} → b ≡ true → b ≡ false → ⊥
never p q = true≢false (sym p ∙ q)

pub perm_length : {A : Type 0} {l m : List A} → Permᴰ l m → length l ≡ length m
perm_length Permᴰ.nil = refl
perm_length (Permᴰ.cons e d) = ap suc (perm_length d)
perm_length (Permᴰ.swap e f) = refl
perm_length (Permᴰ.trans d e) = perm_length d ∙ perm_length e

module _ {C : Type 0} (K : Charges C) where
  pub le_refl : (a : C) → K.le a a ≡ true
  le_refl a = ⊎_elim (λ h. h) (λ h. h) (or_cases (K.le a a) (K.le a a) (K.le_total a a))

  pub not_le : (a b : C) → K.le a b ≡ false → K.le b a ≡ true
  not_le a b h = elim (or_cases (K.le a b) (K.le b a) (K.le_total a b)) [ inl k ↦ absurd (never k h) | inr k ↦ k ]

  pub le_plus_right : (a b c : C) → K.le a b ≡ true → K.le (K.plus a c) (K.plus b c) ≡ true
  le_plus_right a b c h = K.le_plus a b c ∙ h

  pub le_plus_left : (c a b : C) → K.le a b ≡ true → K.le (K.plus c a) (K.plus c b) ≡ true
  le_plus_left c a b h = rw (K.plus_comm c a, K.plus_comm c b) (le_plus_right a b c h)

  pub cancel_left : (c a b : C) → K.le (K.plus c a) (K.plus c b) ≡ true → K.le a b ≡ true
  cancel_left c a b h = sym (K.le_plus a b c) ∙ ap₂ K.le (K.plus_comm a c) (K.plus_comm b c) ∙ h

  pub plus_zero : (a : C) → K.plus a K.zero ≡ a
  plus_zero a = K.plus_comm a K.zero ∙ K.zero_plus a

  pub le_plus_more : (a c : C) → K.le a (K.plus a c) ≡ true
  le_plus_more a c = rw plus_zero at (le_plus_left a K.zero c (K.zero_le c))

  module _ (act : ℕ → Act) where
    -- the charge of a row of actions by number
    abbrev pub total : List ℕ → C
    total way = summed K.zero K.plus K.charge (map act way)

    pub perm_total : {l m : List ℕ} → Permᴰ l m → total l ≡ total m
    perm_total Permᴰ.nil = refl
    perm_total (Permᴰ.cons e d) = ap₂ (λ x t. K.plus (K.charge (act x)) t) e (perm_total d)
    perm_total (Permᴰ.swap {a = a} {b = b} {l = l} e f) =
        rw (← e, ← f)
        (sym (K.plus_assoc (K.charge (act a)) (K.charge (act b)) (total l)) ∙ ap (λ x. K.plus x (total l)) (K.plus_comm (K.charge (act a)) (K.charge (act b)))
        ∙ K.plus_assoc (K.charge (act b)) (K.charge (act a)) (total l))
    perm_total (Permᴰ.trans d e) = perm_total d ∙ perm_total e

    pub total_join : (way more : List ℕ) → total (way ++ more) ≡ K.plus (total way) (total more)
    total_join [] more = sym (K.zero_plus (total more))
    total_join (a ∷ way) more = ap (K.plus (K.charge (act a))) (total_join way more) ∙ sym (K.plus_assoc (K.charge (act a)) (total way) (total more))

    pub total_push : (way : List ℕ) (a : ℕ) → total (way ++ a ∷ []) ≡ K.plus (total way) (K.charge (act a))
    total_push way a = total_join way (a ∷ []) ∙ ap (K.plus (total way)) (plus_zero (K.charge (act a)))
