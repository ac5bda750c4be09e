-- Benches, their settings and their plans.
use Rattle.std.specs.Prelude.{◌≡◌, ℕ, ◌<◌, ◌≤◌, Bool, true, false, ◌&&◌, ◌||◌, List, [], ◌∷◌, map, length, take, ◌==◌, nat_lt, slice_index, slice_index_or}
use Rattle.std.specs.List.{AllByRecursion}
use Rattle.task.specs.declared.data.Atom.{Atom}
use Rattle.task.specs.declared.data.Action.{Action}
use Rattle.task.specs.declared.data.Task.{Task}
use Rattle.task.specs.Settings.{listed, met, assigned, some_atom, clash}

-- an action, with its atoms as lists
pub record Act : Type 0 where
  pub tenths : ℕ
  pub presses : ℕ
  pub conditions : List Atom
  pub effects : List Atom

abbrev pub act_of : Action → Act
act_of a = record { tenths = a.tenths; presses = a.presses; conditions = listed a.conditions; effects = listed a.effects }

abbrev pub idle : Act
idle = record { tenths = 0; presses = 0; conditions = []; effects = [] }

-- the number of values of each variable, the actions and the goal
pub record Bench : Type 0 where
  pub sizes : List ℕ
  pub actions : List Act
  pub goal : List Atom

-- the bench of a task whose actions are the first of a table
abbrev pub bench_of : Task → List Action → Bench
bench_of task table = record {
  sizes = take task.variables task.sizes;
  actions = map act_of (take task.actions table);
  goal = listed task.goal;
}

abbrev pub act : Bench → ℕ → Act
act b k = slice_index_or b.actions k idle

-- an effect of one is a sibling of a condition or an effect of the other
abbrev pub interfering : Act → Act → Bool
interfering a b = clash a.effects b.conditions || (clash a.effects b.effects || clash b.effects a.conditions)

abbrev pub alike : Atom → Atom → Bool
alike a b = a.variable == b.variable && a.value == b.value

-- the atom is among the action's effects
abbrev pub achieving : Act → Atom → Bool
achieving a atom = some_atom (λ e. alike e atom) a.effects

-- what a search sees of a bench: which action can be taken in which setting, what it leads to, and
-- where the goal holds
pub record World (S : Type 0) : Type 0 where
  pub can : S → ℕ → Bool
  pub next : S → ℕ → S
  pub goal : S → Bool

abbrev pub world : Bench → World (List ℕ)
world b = record {
  can = λ s k. nat_lt k (length b.actions) && met s (act b k).conditions;
  next = λ s k. assigned s (act b k).effects;
  goal = λ s. met s b.goal;
}

-- each action can be taken in its turn, and the goal holds after the last
abbrev pub Plan : {S : Type 0} → World S → S → List ℕ → Type 0
Plan W s [] = W.goal s ≡ true
Plan W s (k ∷ more) = (W.can s k ≡ true) × Plan W (W.next s k) more

-- each atom's variable is below the next one's
abbrev pub Rising : List Atom → Type 0
Rising [] = Unit {0}
Rising (a ∷ more) = AllByRecursion (λ b. a.variable < b.variable) more × Rising more

-- the atom's variable and value are of the bench
abbrev pub Inside : List ℕ → Atom → Type 0
Inside sizes a = (a.variable < length sizes) × (a.value < slice_index sizes a.variable)

pub record LawfulAct (sizes : List ℕ) (a : Act) : Type 0 where
  pub tenths : a.tenths ≤ 1000000
  pub presses : a.presses ≤ 1000
  pub few_conditions : length a.conditions ≤ 16
  pub few_effects : length a.effects ≤ 16
  pub some_effect : 1 ≤ length a.effects
  pub conditions_inside : AllByRecursion (Inside sizes) a.conditions
  pub conditions_rise : Rising a.conditions
  pub effects_inside : AllByRecursion (Inside sizes) a.effects
  pub effects_rise : Rising a.effects
  pub apart : AllByRecursion (λ e. some_atom (alike e) a.conditions ≡ false) a.effects

-- a bench within the limits, whose atoms are its own and stand in rising order
pub record Lawful (b : Bench) : Type 0 where
  pub some_variable : 1 ≤ length b.sizes
  pub few_variables : length b.sizes ≤ 64
  pub sizes : AllByRecursion (λ n. (1 ≤ n) × (n ≤ 32)) b.sizes
  pub few_actions : length b.actions ≤ 1024
  pub acts : AllByRecursion (LawfulAct b.sizes) b.actions
  pub goal_inside : AllByRecursion (Inside b.sizes) b.goal
  pub goal_rises : Rising b.goal

-- sixty-four values, each below its variable's number of values, and 0 past the last variable
pub record SettingOf (b : Bench) (s : List ℕ) : Type 0 where
  pub places : length s ≡ 64
  pub values : (v : ℕ) → v < 64 → slice_index s v < slice_index_or b.sizes v 1
