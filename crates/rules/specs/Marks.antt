-- What a pruning rule means: the marked actions of each bench and setting, and that pruning to them
-- loses no plan.
use Rattle.std.specs.Prelude.{◌≡◌, ℕ, ◌<◌, ◌≤◌, Bool, true, false, cond, List, ◌∷◌, length, slice_index}
use mathlib.Core.List.{Permᴰ}
use Rattle.task.specs.declared.data.Action.{Action}
use Rattle.task.specs.declared.data.Task.{Task}
use Rattle.task.specs.Benches.{Bench, World, world, Plan, Lawful, SettingOf, bench_of}

-- a plan of exactly the same actions, each as often, that begins with a marked one
pub record Begun {S : Type 0} (W : World S) (marked : ℕ → Bool) (s : S) (plan : List ℕ) : Type 0 where
  pub first : ℕ
  pub rest : List ℕ
  pub same : Permᴰ plan (first ∷ rest)
  pub is_marked : marked first ≡ true
  pub is_plan : Plan W s (first ∷ rest)

-- what a rule marks, with its law
pub record Marking : Type 0 where
  pub marks : Bench → List ℕ → ℕ → Bool
  pub law : (b : Bench) (s : List ℕ) → Lawful b → SettingOf b s → (world b).goal s ≡ false → (plan : List ℕ) → Plan (world b) s plan → Begun (world b) (marks b s) s plan

-- a byte for each action: 1 where it is marked, and 0 elsewhere
abbrev pub Marked : (ℕ → Bool) → List ℕ → Type 0
Marked marks bytes = (k : ℕ) → k < length bytes → slice_index bytes k ≡ cond (marks k) 1 0

abbrev pub Zeros : List ℕ → Type 0
Zeros bytes = (k : ℕ) → k < length bytes → slice_index bytes k ≡ 0

-- what a rule is asked: a lawful bench, a setting of it, a mark byte for each action, and 4,096 work bytes
pub record Asked (task : Task) (table : List Action) (s marks work : List ℕ) : Type 0 where
  pub enough : task.actions ≤ length table
  pub lawful : Lawful (bench_of task table)
  pub setting : SettingOf (bench_of task table) s
  pub one_each : length marks ≡ task.actions
  pub room : length work ≡ 4096
