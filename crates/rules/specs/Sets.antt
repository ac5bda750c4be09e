-- The set of actions that prunes a setting: the smallest closed one, and how it is computed.
use Rattle.std.specs.Prelude.{◌≡◌, ℕ, zero, suc, Bool, true, false, ◌&&◌, ◌||◌, List, map, length, Some, None, Option, slice_index_or}
use Rattle.std.specs.List.{range_with_len}
use Rattle.task.specs.declared.data.Atom.{Atom}
use Rattle.task.specs.Settings.{met, unmet}
use Rattle.task.specs.Benches.{Act, Bench, act, achieving, interfering}

-- every achiever of the first unmet goal atom; for a member that is not applicable, every achiever of
-- its first unmet condition; for an applicable member, every action that interferes with it. Atoms
-- stand in rising order of variable, so the first is the one with the lowest variable
pub record Closed (b : Bench) (s : List ℕ) (member : ℕ → Bool) : Type 0 where
  pub goals : (g : Atom) → unmet s b.goal ≡ Some g → (i : ℕ) → achieving (act b i) g ≡ true → member i ≡ true
  pub enablers : (j : ℕ) → member j ≡ true → (c : Atom) → unmet s (act b j).conditions ≡ Some c → (i : ℕ) → achieving (act b i) c ≡ true → member i ≡ true
  pub interferers : (j : ℕ) → member j ≡ true → met s (act b j).conditions ≡ true → (i : ℕ) → interfering (act b i) (act b j) ≡ true → member i ≡ true

-- closed, and inside every closed set
pub record Smallest (b : Bench) (s : List ℕ) (member : ℕ → Bool) : Type 0 where
  pub closed : Closed b s member
  pub least : (other : ℕ → Bool) → Closed b s other → (i : ℕ) → member i ≡ true → other i ≡ true

-- the action achieves the atom, if there is one
abbrev pub wants : Option Atom → Act → Bool
wants None a = false
wants (Some c) a = achieving a c

-- what a member calls for: the achievers of its first unmet condition or, where all its conditions
-- hold, the actions that interfere with it
abbrev pub called : Option Atom → Act → Act → Bool
called None member a = interfering a member
called (Some c) member a = achieving a c

abbrev pub calls : Bench → List ℕ → ℕ → ℕ → Bool
calls b s j i = called (unmet s (act b j).conditions) (act b j) (act b i)

abbrev pub some_below : (ℕ → Bool) → ℕ → Bool
some_below test zero = false
some_below test (suc k) = test k || some_below test k

-- a truth value for each action
abbrev pub each : Bench → (ℕ → Bool) → List Bool
each b test = map test (range_with_len 0 (length b.actions))

-- the members, and what they call for
abbrev pub grow : Bench → List ℕ → List Bool → List Bool
grow b s members = each b (λ i. slice_index_or members i false || some_below (λ j. slice_index_or members j false && calls b s j i) (length b.actions))

-- from the achievers of the first unmet goal atom, so many rounds of growing
abbrev pub grown : Bench → List ℕ → ℕ → List Bool
grown b s zero = each b (λ i. wants (unmet s b.goal) (act b i))
grown b s (suc k) = grow b s (grown b s k)

-- the set, grown once for each action and once more; it is empty where the goal holds
unfoldable pub stubborn : Bench → List ℕ → ℕ → Bool
stubborn b s k = slice_index_or (grown b s (suc (length b.actions))) k false
