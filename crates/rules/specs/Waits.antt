-- Atoms that wait, each with a byte in two collections: from 0 on those whose achievers are called for,
-- and from 2,048 on those whose dependers are.
use Rattle.std.specs.Prelude.{◌≡◌, ℕ, ◌+◌, ◌*◌, ◌<◌, ◌≤◌, Bool, true, false, cond, not, ◌&&◌, ◌||◌, List, length, Some, None, sum, Option, ◌==◌, nat_eq, nat_le, nat_lt, slice_index, slice_set}
use Rattle.std.specs.List.{AllByRecursion}
use Rattle.task.specs.declared.data.Atom.{Atom}
use Rattle.task.specs.declared.data.Action.{Action}
use Rattle.task.specs.Settings.{unmet, some_atom}
use Rattle.task.specs.Benches.{Act}
use Rattle.rules.specs.Queues.{act_at}

-- the atom's byte in a collection
abbrev pub place : ℕ → Atom → ℕ
place from a = from + (32 * a.variable + a.value)

abbrev pub waits : List ℕ → ℕ → Atom → Bool
waits work from a = slice_index work (place from a) == 1

-- the action achieves or depends on an atom that waits for that
abbrev pub due : List ℕ → Act → Bool
due work a = some_atom (waits work 0) a.effects || some_atom (waits work 2048) a.conditions

-- the byte is that of a sibling whose value is below a number
abbrev pub beside_below : ℕ → ℕ → Atom → ℕ → Bool
beside_below values from a x = nat_le (from + 32 * a.variable) x && (nat_lt x (from + 32 * a.variable + values) && not (place from a == x))

-- the byte is that of a sibling, where each variable has so many values
abbrev pub beside : List ℕ → ℕ → Atom → ℕ → Bool
beside sizes from a x = beside_below (slice_index sizes a.variable) from a x

-- the byte is that of an atom that has to wait for a member's sake
abbrev pub asks : List ℕ → Option Atom → Act → ℕ → Bool
asks sizes (Some c) a x = place 0 c == x
asks sizes None a x = some_atom (λ c. beside sizes 0 c x) a.conditions || (some_atom (λ e. beside sizes 0 e x) a.effects || some_atom (λ e. beside sizes 2048 e x) a.effects)

abbrev pub asking : List ℕ → List ℕ → List Action → ℕ → ℕ → Bool
asking sizes s table k x = asks sizes (unmet s (act_at table k).conditions) (act_at table k) x

-- the byte is that of an effect or of a condition
abbrev pub touches : Act → ℕ → Bool
touches a x = some_atom (λ e. nat_eq (place 0 e) x) a.effects || some_atom (λ c. nat_eq (place 2048 c) x) a.conditions

-- the bytes that pass a test have become 1, and the others have stayed
pub record Wrote (test : ℕ → Bool) (work work' : List ℕ) : Type 0 where
  pub as_many : length work' ≡ length work
  pub bytes : (x : ℕ) → x < length work → slice_index work' x ≡ cond (test x) 1 (slice_index work x)

-- a set that has what touches a root, and what touches a byte that a member asks for
pub record Covers (root : ℕ → Bool) (sizes s : List ℕ) (table : List Action) (count : ℕ) (member : ℕ → Bool) : Type 0 where
  pub start : (i x : ℕ) → i < count → root x ≡ true → touches (act_at table i) x ≡ true → member i ≡ true
  pub along : (j i x : ℕ) → j < count → i < count → member j ≡ true → asking sizes s table j x ≡ true → touches (act_at table i) x ≡ true → member i ≡ true

-- the roots wait and so does what the marked ones ask for, and nothing else is marked or waits than must be
pub record Waiting (root : ℕ → Bool) (sizes s : List ℕ) (table : List Action) (marks work : List ℕ) : Type 0 where
  pub roots : (x : ℕ) → x < length work → root x ≡ true → slice_index work x ≡ 1
  pub asked : (k x : ℕ) → x < length work → slice_index marks k ≡ 1 → asking sizes s table k x ≡ true → slice_index work x ≡ 1
  pub marked : (member : ℕ → Bool) → Covers root sizes s table (length marks) member → (k : ℕ) → slice_index marks k ≡ 1 → member k ≡ true
  pub served : (member : ℕ → Bool) → Covers root sizes s table (length marks) member → (x : ℕ) → slice_index work x ≡ 1 → (i : ℕ) → i < length marks → touches (act_at table i) x ≡ true → member i ≡ true

-- an action that is due is marked, and what it asks for waits; any other leaves all as it is
abbrev pub Handled : List ℕ → List ℕ → Act → ℕ → List ℕ → List ℕ → List ℕ → List ℕ → Bool → Type 0
Handled sizes s a number marks work marks' work' true = (slice_index marks number ≡ 0) × (due work a ≡ true) × (marks' ≡ slice_set marks number 1) × Wrote (asks sizes (unmet s a.conditions) a) work work'
Handled sizes s a number marks work marks' work' false = (marks' ≡ marks) × (work' ≡ work) × (due work a ≡ true → slice_index marks number ≡ 1)

-- a pass over the actions below a number, and whether it marked any
pub record Passed (sizes s : List ℕ) (table : List Action) (below : ℕ) (marks work : List ℕ) (more : Bool) (marks' work' : List ℕ) : Type 0 where
  pub as_many : length marks' ≡ length marks
  pub room : length work' ≡ length work
  pub bits : AllByRecursion (λ x. x ≤ 1) marks'
  pub keeps : (root : ℕ → Bool) → Waiting root sizes s table marks work → Waiting root sizes s table marks' work'
  pub some : more ≡ true → sum marks < sum marks'
  pub none : more ≡ false → (marks' ≡ marks) × (work' ≡ work) × ((k : ℕ) → k < below → due work (act_at table k) ≡ true → slice_index marks k ≡ 1)

-- passes until no action is due any more
pub record Swept (sizes s : List ℕ) (table : List Action) (marks work marks' work' : List ℕ) : Type 0 where
  pub as_many : length marks' ≡ length marks
  pub room : length work' ≡ length work
  pub bits : AllByRecursion (λ x. x ≤ 1) marks'
  pub keeps : (root : ℕ → Bool) → Waiting root sizes s table marks work → Waiting root sizes s table marks' work'
  pub all : (k : ℕ) → k < length marks → due work' (act_at table k) ≡ true → slice_index marks' k ≡ 1
