-- The book of a bench: its variables, its actions and its goal, a record for each.
use Rattle.std.specs.Prelude.{ℕ, ◌/◌, ◌%◌, List, [], ◌∷◌, ◌++◌, length}
use Rattle.std.specs.List.{flat_map}
use Rattle.task.specs.declared.data.Atom.{Atom}
use Rattle.task.specs.Benches.{Act, Bench}
use Rattle.book.specs.declared.records.Kind.{Kind}
use Rattle.book.specs.declared.records.Kind.TheVariants as kind
use Rattle.book.specs.Records.{Parts, variable_part, action_part, goal_part}

-- a number as two bytes, the low one first
abbrev pub word_bytes : ℕ → List ℕ
word_bytes n = n % 256 ∷ n / 256 % 256 ∷ []

-- a number as four bytes
abbrev pub long_bytes : ℕ → List ℕ
long_bytes n = n % 256 ∷ n / 256 % 256 ∷ n / 65536 % 256 ∷ n / 16777216 % 256 ∷ []

-- an atom is two bytes: its variable and its value
abbrev pub atom_bytes : Atom → List ℕ
atom_bytes a = a.variable ∷ a.value ∷ []

abbrev pub atoms_bytes : List Atom → List ℕ
atoms_bytes atoms = flat_map atom_bytes atoms

-- the number of each kind of record
abbrev pub code_of : Kind → ℕ
code_of kind.Variable = 1
code_of kind.Action = 2
code_of kind.Goal = 3

-- the length of a body and its kind
abbrev pub head_bytes : Kind → ℕ → List ℕ
head_bytes k size = word_bytes size ++ word_bytes (code_of k)

abbrev pub record_bytes : Kind → List ℕ → List ℕ
record_bytes k body = head_bytes k (length body) ++ body

-- how many conditions and effects, and both, in this order
abbrev pub both_bytes : List Atom → List Atom → List ℕ
both_bytes conditions effects = length conditions ∷ length effects ∷ (atoms_bytes conditions ++ atoms_bytes effects)

-- the kind of record that says this, and its body
abbrev pub kind_in : Parts → Kind
kind_in (variable_part n) = kind.Variable
kind_in (action_part a) = kind.Action
kind_in (goal_part atoms) = kind.Goal

abbrev pub body_bytes : Parts → List ℕ
body_bytes (variable_part n) = n ∷ []
body_bytes (action_part a) = long_bytes a.tenths ++ (word_bytes a.presses ++ both_bytes a.conditions a.effects)
body_bytes (goal_part atoms) = length atoms ∷ atoms_bytes atoms

-- the record that says this
abbrev pub part_bytes : Parts → List ℕ
part_bytes p = record_bytes (kind_in p) (body_bytes p)

abbrev pub variable_bytes : ℕ → List ℕ
variable_bytes n = part_bytes (variable_part n)

abbrev pub action_bytes : Act → List ℕ
action_bytes a = part_bytes (action_part a)

abbrev pub goal_bytes : List Atom → List ℕ
goal_bytes atoms = part_bytes (goal_part atoms)

-- the book of a bench
abbrev pub print : Bench → List ℕ
print b = flat_map variable_bytes b.sizes ++ (flat_map action_bytes b.actions ++ goal_bytes b.goal)
