-- What a tariff's functions answer, and what a row of action numbers costs.
use Rattle.std.specs.Prelude.{◌≡◌, ℕ, ◌+◌, Bool, cond, List, [], ◌∷◌, map, length, Some, None, Option, Err, Result, ok_or, nat_lt, slice_index_or}
use Rattle.std.specs.declared.cmp.Ordering.TheVariants.{Less, Equal, Greater}
use Rattle.std.specs.declared.cmp.Ordering.{Ordering}
use Rattle.task.specs.Benches.{Act, idle}
use Rattle.tariff.specs.declared.charge.TotalError.{TotalError}
use Rattle.tariff.specs.declared.charge.TotalError.TheVariants.{Over, NoAction, TooMany}
use Rattle.tariff.specs.Charges.{Charges, Reached, summed}

abbrev pub ordered : {C : Type 0} → (C → C → Bool) → C → C → Ordering
ordered le a b = cond (le a b) (cond (le b a) Equal Less) Greater

-- a sum, if it is at most the bound
abbrev pub against : {C : Type 0} → (C → C → Bool) → C → C → Option C
against le bound sum = cond (le sum bound) (Some sum) None

-- the charge with one action's charge more
abbrev pub and_act : {C : Type 0} → Charges C → C → Act → C
and_act K c a = K.plus c (K.charge a)

-- the charge is a sum of up to 65,536 charges of actions
abbrev pub SumOfFew : {C : Type 0} → Charges C → C → Type 0
SumOfFew K c = Reached K.zero K.plus K.charge c

-- what one action more is answered: free where it makes no sum of up to 65,536 charges
abbrev pub Adding : {C : Type 0} → Charges C → C → Act → C → Option C → Type 0
Adding K c a bound answer = SumOfFew K (and_act K c a) → answer ≡ against K.le bound (and_act K c a)

-- the charges of a row of actions, added up
abbrev pub sum : {C : Type 0} → Charges C → List Act → C
sum K acts = summed K.zero K.plus K.charge acts

-- the actions that the numbers name
abbrev pub named : List Act → List ℕ → List Act
named acts numbers = map (λ k. slice_index_or acts k idle) numbers

-- the charge of the actions that the numbers name
abbrev pub charge_of : {C : Type 0} → Charges C → List Act → List ℕ → C
charge_of K acts numbers = sum K (named acts numbers)

-- the place, counted from i on, of the first number that is not below the limit
abbrev pub stray : ℕ → ℕ → List ℕ → Option ℕ
stray limit i [] = None
stray limit i (k ∷ more) = cond (nat_lt k limit) (stray limit (i + 1) more) (Some i)

-- the answer of a sum, unless a number names no action
abbrev pub unless : {C : Type 0} → Option ℕ → Option C → Result C TotalError
unless (Some place) answer = Err (NoAction place)
unless None answer = ok_or answer Over

-- what the named actions cost together, against the bound
abbrev pub totalled : {C : Type 0} → Charges C → List Act → List ℕ → C → Result C TotalError
totalled K acts numbers bound =
    cond (nat_lt 65536 (length numbers)) (Err TooMany) (unless (stray (length acts) 0 numbers) (against K.le bound (charge_of K acts numbers)))
