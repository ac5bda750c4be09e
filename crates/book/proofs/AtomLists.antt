-- Atoms in bytes, one after another.
use Rattle.std.proofs.Common.{◌≡◌, ℕ, ◌/◌, List, [], ◌∷◌, length, refl, arith}
use Rattle.book.specs.Atoms.{atoms_in}

pub count_is : (xs : List ℕ) → length xs / 2 ≡ length (atoms_in xs)
count_is [] = refl
count_is (v ∷ []) = refl
count_is (v ∷ x ∷ more) = omega (arith, count_is more)
