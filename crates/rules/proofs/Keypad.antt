-- The keypad's start setting.
use Rattle.std.proofs.Common.{◌≡◌, ℕ, zero, suc, true, false, ltb, [], ◌∷◌, get_or, sym, refl, ap, ◌∙◌, arith}
use Rattle.std.proofs.lemmas.Bool.{le-ltb}
use Rattle.rules.specs.Sets.{grown, stubborn}
use Rattle.rules.specs.Rules.{keypad, keypad_start}

four : (k : ℕ) → get_or (true ∷ true ∷ true ∷ true ∷ false ∷ []) k false ≡ ltb k 4
four zero = refl
four (suc zero) = refl
four (suc (suc zero)) = refl
four (suc (suc (suc zero))) = refl
four (suc (suc (suc (suc zero)))) = refl
four (suc (suc (suc (suc (suc k))))) = sym (le-ltb (suc (suc (suc (suc (suc k))))) 4 (omega arith))

all_but_warm : grown keypad keypad_start 6 ≡ true ∷ true ∷ true ∷ true ∷ false ∷ []
all_but_warm = refl

pub keypad_marks : (k : ℕ) → stubborn keypad keypad_start k ≡ ltb k 4
unfolding stubborn
keypad_marks k = ap (λ m. get_or m k false) all_but_warm ∙ four k
