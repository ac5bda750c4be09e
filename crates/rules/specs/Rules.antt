-- What the rules mark: every action, or the smallest closed set.
use Rattle.std.specs.Prelude.{◌≡◌, ℕ, ◌≤◌, Bool, true, false, List, [], ◌∷◌, length, replicate, Some, nat_lt, refl}
use mathlib.Core.List.Permᴰ
use Rattle.std.specs.List.{AllByRecursion}
use Rattle.std.proofs.Common.{arith}
use Rattle.task.specs.declared.data.Atom.{Atom}
use Rattle.task.specs.declared.data.Action.{Action}
use Rattle.task.specs.declared.data.Task.{Task}
use Rattle.task.specs.Settings.{holding, met, unmet}
use Rattle.task.specs.Benches.{Bench, world, Plan, Rising, Lawful, SettingOf}
use Rattle.rules.specs.Marks.{Begun, Marking}
use Rattle.rules.specs.Sets.{Closed, Smallest, stubborn}
use Rattle.rules.specs.Moves.{closed_begins}
use Rattle.rules.specs.Grows.{stubborn_smallest}

pub all_begins : (b : Bench) (s : List ℕ) → Lawful b → SettingOf b s → (world b).goal s ≡ false → (plan : List ℕ) → Plan (world b) s plan → Begun (world b) (λ k. true) s plan
all_begins b s lawful setting off [] p = absurd (let z : ◌≡◌ {A = ℕ} 0 1 = cc in omega arith)
all_begins b s lawful setting off (k ∷ plan) p = record { first = k; rest = plan; same = Permᴰ.refl (k ∷ plan); is_marked = refl; is_plan = p }

-- the lengths that a rule is asked for
abbrev pub Sized : Task → List Action → ℕ → ℕ → Type 0
Sized task table marks work = (marks ≡ task.actions) × (task.actions ≤ length table) × (work ≡ 4096)

-- every action is marked
abbrev pub all_marking : Marking
all_marking = record { marks = λ b s k. true; law = all_begins }

-- the smallest closed set is marked
abbrev pub stubborn_marking : Marking
stubborn_marking = record {
  marks = stubborn;
  law = λ b s lawful setting off plan p. closed_begins b s (stubborn b s) (stubborn_smallest b s).closed off plan p;
}

-- a bench of a menu with three values, a right, a capture and a probe, on which five actions work: Menu,
-- Users, Revoke, Run and Warm
abbrev pub is : ℕ → ℕ → Atom
is v x = record { variable = v; value = x }

abbrev pub keypad : Bench
keypad = record {
  sizes = 3 ∷ 2 ∷ 2 ∷ 2 ∷ [];
  actions =
      record { tenths = 2; presses = 1; conditions = is 0 0 ∷ []; effects = is 0 1 ∷ [] }
      ∷ record { tenths = 2; presses = 1; conditions = is 0 1 ∷ []; effects = is 0 2 ∷ [] }
      ∷ record { tenths = 5; presses = 1; conditions = is 0 2 ∷ is 1 1 ∷ []; effects = is 0 0 ∷ is 1 0 ∷ [] }
      ∷ record { tenths = 10; presses = 1; conditions = is 0 0 ∷ is 1 0 ∷ is 2 0 ∷ []; effects = is 2 1 ∷ [] }
      ∷ record { tenths = 4; presses = 0; conditions = is 3 0 ∷ []; effects = is 3 1 ∷ [] }
      ∷ [];
  goal = is 1 0 ∷ is 2 1 ∷ is 3 1 ∷ [];
}

-- the right is there, and all else is at 0
abbrev pub keypad_start : List ℕ
keypad_start = 0 ∷ 1 ∷ replicate 62 0

-- the set is the smallest closed one and is empty in a goal setting; of atoms that rise, the first unmet
-- one is that with the lowest variable; every closed set keeps a plan for each plan; and in the keypad's
-- start setting all actions but Warm are in the set
pub record Prunes : Type 0 where
  pub smallest : (b : Bench) (s : List ℕ) → Smallest b s (stubborn b s)
  pub none : (b : Bench) (s : List ℕ) → met s b.goal ≡ true → (k : ℕ) → stubborn b s k ≡ false
  pub lowest : (s : List ℕ) (atoms : List Atom) (c : Atom) → Rising atoms → unmet s atoms ≡ Some c → (holding s c ≡ false) × AllByRecursion (λ d. holding s d ≡ false → c.variable ≤ d.variable) atoms
  pub begins : (b : Bench) (s : List ℕ) (member : ℕ → Bool) → Closed b s member → (world b).goal s ≡ false → (plan : List ℕ) → Plan (world b) s plan → Begun (world b) member s plan
  pub example : (k : ℕ) → stubborn keypad keypad_start k ≡ nat_lt k 4
