-- Values of a setting, field by field.
use Rattle.std.proofs.Common.{◌≡◌, ℕ, suc, ◌+◌, ◌-◌, ◌<◌, Bool, true, false, List, [], ◌∷◌, ◌++◌, length, set, Some, Option, refl, sym, ap, ◌∙◌, arith}
use Rattle.std.specs.Bool.{Decides, then_some}
use Rattle.std.proofs.lemmas.List.{set-append_left}
use Rattle.console.specs.declared.command.Command.{Command}
use Rattle.console.specs.Commands.{then, small, values, alone}

one : (n m v : ℕ) (s field : List ℕ) (more : List (List ℕ)) → n ≡ suc m → values n v s (field ∷ more) ≡ then (small field) (λ x. values m (v + 1) (set s v x) more)
one n m v s field more e = ap (λ k. values k v s (field ∷ more)) e

-- one value more, among those that lie in front of the rest of the setting
pub one_value : (count v : ℕ) (front rest : List ℕ) (fields : List (List ℕ)) (whole : Option (List ℕ)) → values (count - v) v (front ++ rest) fields ≡ whole → v < count → length front ≡ count → (field : List ℕ) (more : List (List ℕ)) → fields ≡ field ∷ more → (x : ℕ) → Some x ≡ small field → values (count - (v + 1)) (v + 1) (set front v x ++ rest) more ≡ whole
one_value count v front rest fields whole is within long field more e x o =
    let within_front : v < length front = omega arith in
    ap (λ s. values (count - (v + 1)) (v + 1) s more) (sym (set-append_left front rest v x within_front)) ∙ ap (λ r. then r (λ x. values (count - (v + 1)) (v + 1) (set (front ++ rest) v x) more)) o ∙ sym (one (count - v) (count - (v + 1)) v (front ++ rest) field more (omega arith)) ∙ ap (values (count - v) v (front ++ rest)) (sym e) ∙ is

-- no field is left after the last value
pub all_read : (v : ℕ) (s : List ℕ) (fields : List (List ℕ)) (bare : Bool) → Decides bare (fields ≡ []) → then_some bare s ≡ values 0 v s fields
all_read v s [] bare d = ap (λ b. then_some b s) (d.1 refl)
all_read v s (field ∷ more) true d = absurd (let z : ◌≡◌ {A = ℕ} 0 1 = (let e = d.0 refl in cc) in omega arith)
all_read v s (field ∷ more) false d = refl

-- nothing else is on the line
pub alone_read : (c : Command) (fields : List (List ℕ)) (bare : Bool) → Decides bare (fields ≡ []) → then_some bare c ≡ alone c fields
alone_read c [] bare d = ap (λ b. then_some b c) (d.1 refl)
alone_read c (field ∷ more) true d = absurd (let z : ◌≡◌ {A = ℕ} 0 1 = (let e = d.0 refl in cc) in omega arith)
alone_read c (field ∷ more) false d = refl
