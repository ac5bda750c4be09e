-- Members in the order in which they joined, each with its number in two work bytes.
use Rattle.std.specs.Prelude.{◌≡◌, ℕ, ◌+◌, ◌*◌, ◌/◌, ◌%◌, ◌<◌, ◌≤◌, Bool, true, ◌⊎◌, List, map, length, sum, slice_index, slice_index_or, slice_set}
use Rattle.std.specs.List.{AllByRecursion}
use Rattle.task.specs.declared.data.Action.{Action}
use Rattle.task.specs.Settings.{unmet}
use Rattle.task.specs.Benches.{Act, act_of, idle}
use Rattle.rules.specs.Sets.{called}

-- an action of a table
abbrev pub act_at : List Action → ℕ → Act
act_at table k = slice_index_or (map act_of table) k idle

-- the number in line at a place
abbrev pub number_at : List ℕ → ℕ → ℕ
number_at work p = slice_index work p + 256 * slice_index work (2048 + p)

abbrev pub lined_up : List ℕ → ℕ → ℕ → List ℕ
lined_up work p number = slice_set (slice_set work p (number % 256)) (2048 + p) (number / 256)

-- the actions marked so far stand in line, each once
pub record Line (marks work : List ℕ) (tail : ℕ) : Type 0 where
  pub room : length work ≡ 4096
  pub few : length marks ≤ 1024
  pub bits : AllByRecursion (λ x. x ≤ 1) marks
  pub counted : tail ≡ sum marks
  pub listed : (k : ℕ) → k < length marks → slice_index marks k ≡ 1 → (p : ℕ) × (p < tail) × (number_at work p ≡ k)
  pub valid : (p : ℕ) → p < tail → (number_at work p < length marks) × (slice_index marks (number_at work p) ≡ 1)

-- those below a number that pass a test have joined, and no others
pub record Joined (test : ℕ → Bool) (below : ℕ) (marks work : List ℕ) (tail : ℕ) (marks' work' : List ℕ) (tail' : ℕ) : Type 0 where
  pub line : Line marks' work' tail'
  pub as_many : length marks' ≡ length marks
  pub longer : tail ≤ tail'
  pub kept : (p : ℕ) → p < tail → number_at work' p ≡ number_at work p
  pub stay : (k : ℕ) → slice_index marks k ≡ 1 → slice_index marks' k ≡ 1
  pub new : (k : ℕ) → k < length marks → slice_index marks' k ≡ 1 → (slice_index marks k ≡ 1) ⊎ (test k ≡ true)
  pub all : (k : ℕ) → k < below → test k ≡ true → slice_index marks' k ≡ 1

-- a member of a table calls for an action of it
abbrev pub calling : List ℕ → List Action → ℕ → ℕ → Bool
calling s table j i = called (unmet s (act_at table j).conditions) (act_at table j) (act_at table i)

-- the marked actions have become the smallest set that holds them and what its members call for
pub record Spread (call : ℕ → ℕ → Bool) (marks marks' : List ℕ) : Type 0 where
  pub as_many : length marks' ≡ length marks
  pub bits : AllByRecursion (λ x. x ≤ 1) marks'
  pub stay : (k : ℕ) → slice_index marks k ≡ 1 → slice_index marks' k ≡ 1
  pub along : (j i : ℕ) → i < length marks → slice_index marks' j ≡ 1 → call j i ≡ true → slice_index marks' i ≡ 1
  pub least : (member : ℕ → Bool) → ((k : ℕ) → slice_index marks k ≡ 1 → member k ≡ true) → ((j i : ℕ) → j < length marks → i < length marks → member j ≡ true → call j i ≡ true → member i ≡ true) → (k : ℕ) → k < length marks → slice_index marks' k ≡ 1 → member k ≡ true
