-- What a line of the console asks for.
use Rattle.std.specs.Prelude.{ℕ, zero, suc, ◌+◌, cond, List, [], ◌∷◌, replicate, Some, None, Option, ◌==◌, nat_le, slice_set}
use Rattle.text.specs.Fields.{digits, decimal, pieces}
use Rattle.console.specs.declared.command.Command.{Command}
use Rattle.console.specs.declared.command.Command.TheVariants.{Begin, Advance, Take, Abandon}

abbrev pub then : {X Y : Type 0} → Option X → (X → Option Y) → Option Y
then None f = None
then (Some x) f = f x

-- a number, if it is at most 255
abbrev pub up_to_255 : Option ℕ → Option ℕ
up_to_255 None = None
up_to_255 (Some n) = cond (nat_le n 255) (Some n) None

-- a decimal number of at most 255, in one digit or more
abbrev pub small : List ℕ → Option ℕ
small [] = None
small (d ∷ more) = up_to_255 (digits 0 (d ∷ more))

-- the setting with the values of n fields from place v on, if there are just as many
abbrev pub values : ℕ → ℕ → List ℕ → List (List ℕ) → Option (List ℕ)
values zero v s [] = Some s
values zero v s (field ∷ more) = None
values (suc n) v s [] = None
values (suc n) v s (field ∷ more) = then (small field) (λ x. values n (v + 1) (slice_set s v x) more)

-- a bound of up to twelve digits, and a value for each of n variables
abbrev pub begins : ℕ → List (List ℕ) → Option Command
begins n [] = None
begins n (bound ∷ more) = then (decimal 12 bound) (λ c. then (values n 0 (replicate 64 0) more) (λ s. Some (Begin c s)))

-- steps of up to six digits, and nothing else
abbrev pub advances : List (List ℕ) → Option Command
advances [] = None
advances (steps ∷ []) = then (decimal 6 steps) (λ k. Some (Advance k))
advances (steps ∷ field ∷ more) = None

-- nothing else on the line
abbrev pub alone : Command → List (List ℕ) → Option Command
alone c [] = Some c
alone c (field ∷ more) = None

-- the first letter tells the call: B, A, T or X
abbrev pub by_letter : ℕ → List (List ℕ) → ℕ → Option Command
by_letter n more letter =
    cond (letter == 66) (begins n more) (cond (letter == 65) (advances more) (cond (letter == 84) (alone Take more) (cond (letter == 88) (alone Abandon more) None)))

abbrev pub by_word : ℕ → List (List ℕ) → Option Command
by_word n [] = None
by_word n ([] ∷ more) = None
by_word n ((letter ∷ []) ∷ more) = by_letter n more letter
by_word n ((letter ∷ byte ∷ rest) ∷ more) = None

-- what a line asks of a bench with n variables: its fields stand one space apart
abbrev pub command : ℕ → List ℕ → Option Command
command n line = by_word n (pieces 32 line)
