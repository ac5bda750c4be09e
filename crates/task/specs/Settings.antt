-- Atoms and settings. A setting is the list of its variables' values.
use Rattle.std.specs.Prelude.{ℕ, ◌+◌, Bool, true, cond, not, ◌&&◌, List, [], ◌∷◌, take, Some, None, Option, ◌==◌, nat_lt, slice_index, slice_index_or, slice_set}
use Rattle.std.specs.List.{list_any}
use Rattle.task.specs.declared.data.Atom.{Atom}
use Rattle.task.specs.declared.data.Atoms.{Atoms}

-- the atoms that are held in an array
abbrev pub listed : {n : ℕ} → Atoms n → List Atom
listed a = take a.count a.items

-- the setting has the atom's value at its variable
abbrev pub holding : List ℕ → Atom → Bool
holding s a = slice_index s a.variable == a.value

-- all of the atoms hold
abbrev pub met : List ℕ → List Atom → Bool
met s [] = true
met s (a ∷ more) = holding s a && met s more

-- the first atom that does not hold
abbrev pub unmet : List ℕ → List Atom → Option Atom
unmet s [] = None
unmet s (a ∷ more) = cond (holding s a) (unmet s more) (Some a)

-- the setting with each atom's value at its variable
abbrev pub assigned : List ℕ → List Atom → List ℕ
assigned s [] = s
assigned s (a ∷ more) = assigned (slice_set s a.variable a.value) more

-- the same variable at another value
abbrev pub sibling : Atom → Atom → Bool
sibling a b = a.variable == b.variable && not (a.value == b.value)

abbrev pub some_atom : (Atom → Bool) → List Atom → Bool
some_atom = list_any

-- an atom of the first list has a sibling in the second
abbrev pub clash : List Atom → List Atom → Bool
clash first second = some_atom (λ a. some_atom (sibling a) second) first

-- the first variable, counted from v on, whose value is not below its number of values; past the last
-- variable there is one value, 0
abbrev pub outside : List ℕ → ℕ → List ℕ → Option ℕ
outside sizes v [] = None
outside sizes v (x ∷ more) = cond (nat_lt x (slice_index_or sizes v 1)) (outside sizes (v + 1) more) (Some v)
