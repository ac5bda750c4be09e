-- The first unmet atom has the lowest variable.
use Rattle.std.proofs.Common.{◌≡◌, ℕ, ◌<◌, ◌≤◌, Bool, true, false, cond, List, [], ◌∷◌, Some, refl, subst, arith}
use Rattle.std.specs.List.{AllByRecursion}
use Rattle.std.proofs.ByRecursion.{All-weaker}
use Rattle.std.proofs.lemmas.Bool.{both_ways}
use Rattle.task.specs.declared.data.Atom.{Atom}
use Rattle.task.specs.Settings.{holding, unmet}
use Rattle.task.specs.Benches.{Rising}

abbrev Lowest : List ℕ → List Atom → Atom → Type 0
Lowest s atoms c = (holding s c ≡ false) × AllByRecursion (λ d. holding s d ≡ false → c.variable ≤ d.variable) atoms

pub lowest : (s : List ℕ) (atoms : List Atom) (c : Atom) → Rising atoms → unmet s atoms ≡ Some c → (holding s c ≡ false) × AllByRecursion (λ d. holding s d ≡ false → c.variable ≤ d.variable) atoms
lowest s [] c r e = absurd (let z : ◌≡◌ {A = ℕ} 0 1 = cc in omega arith)
lowest s (d ∷ atoms) c r e = by (holding s d) refl (lowest s atoms c r.1) e
  where
    by : (b : Bool) → holding s d ≡ b → (unmet s atoms ≡ Some c → Lowest s atoms c) → cond b (unmet s atoms) (Some d) ≡ Some c → Lowest s (d ∷ atoms) c
    by true on below e = let h = below e in (h.0, (λ off. absurd (both_ways _ off on), h.1))
    by false off below e =
        let same : d ≡ c = cc in
        subst (Lowest s (d ∷ atoms)) same (off, (λ _. omega arith, All-weaker (λ y. d.variable < y.variable) (λ y. holding s y ≡ false → d.variable ≤ y.variable) (λ y l _. omega arith) atoms r.0))
