-- What reading leaves of a book: a task, a table of actions, or a refusal.
use Rattle.std.specs.Prelude.{◌≡◌, ℕ, ◌-◌, ◌≤◌, List, [], ◌∷◌, ◌++◌, map, length, take, drop, replicate, Ok, Err, Result}
use Rattle.task.specs.declared.data.Action.{Action}
use Rattle.task.specs.declared.data.Task.{Task}
use Rattle.task.specs.declared.refusal.Refusal.{Refusal}
use Rattle.task.specs.Settings.{listed}
use Rattle.task.specs.Benches.{Act, Bench, act_of, bench_of}
use Rattle.book.specs.declared.Seen.{Seen}
use Rattle.book.specs.Records.{Parts, variable_part, action_part, goal_part}
use Rattle.book.specs.Format.{Reading, parse}

-- both are values, and related, or both are the same refusal
abbrev pub Agree : {X Y : Type 0} → (X → Y → Type 0) → Result X Refusal → Result Y Refusal → Type 0
Agree R (Ok x) (Ok y) = R x y
Agree R (Ok x) (Err f) = ⊥
Agree R (Err e) (Ok y) = ⊥
Agree R (Err e) (Err f) = e ≡ f

-- the task is the bench but for its actions, of which it has the number; past the last variable its sizes
-- are 0
pub record Outline (task : Task) (b : Bench) : Type 0 where
  pub variables : task.variables ≡ length b.sizes
  pub sizes : task.sizes ≡ b.sizes ++ replicate (64 - length b.sizes) 0
  pub actions : task.actions ≡ length b.actions
  pub goal : listed task.goal ≡ b.goal

-- what is seen of a reading
pub record Seeing (x : Seen) (y : Reading) : Type 0 where
  pub stage : x.stage ≡ y.stage
  pub outline : Outline x.task y.bench

-- the actions that a record says, one or none
abbrev pub acts_in : Parts → List Act
acts_in (variable_part n) = []
acts_in (action_part a) = a ∷ []
acts_in (goal_part atoms) = []

-- the numbers that an action's record holds are within the limits
pub record LimitedAct (a : Act) : Type 0 where
  pub tenths : a.tenths ≤ 1000000
  pub presses : a.presses ≤ 1000
  pub few_conditions : length a.conditions ≤ 16
  pub few_effects : length a.effects ≤ 16

abbrev pub Limited : Parts → Type 0
Limited (variable_part n) = Unit {0}
Limited (action_part a) = LimitedAct a
Limited (goal_part atoms) = Unit {0}

-- the first places of the table hold the actions, and the others are as before
pub record Filled (before after : List Action) (acts : List Act) : Type 0 where
  pub first : map act_of (take (length acts) after) ≡ acts
  pub rest : drop (length acts) after ≡ drop (length acts) before

-- the book is accepted, and its actions go into so many places
pub record Fits (book : List ℕ) (places : ℕ) : Type 0 where
  pub bench : Bench
  pub accepted : parse book ≡ Ok bench
  pub room : length bench.actions ≤ places

-- the task and the table hold the bench
pub record Holds (table : List Action) (task : Task) (b : Bench) : Type 0 where
  pub outline : Outline task b
  pub bench : bench_of task table ≡ b

-- a refusal leaves the table as it was, and a task all places past its actions
abbrev pub Kept : List Action → List Action → Result Task Refusal → Type 0
Kept before after (Ok task) = drop task.actions after ≡ drop task.actions before
Kept before after (Err e) = after ≡ before
