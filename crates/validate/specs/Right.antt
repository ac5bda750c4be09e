-- What a walk's last line means.
use Rattle.std.specs.Prelude.{◌≡◌, ℕ, ◌≤◌, true, List, [], ◌∷◌, ◌++◌, length}
use Rattle.task.specs.Benches.{Bench, world, Plan}
use Rattle.tariff.specs.declared.charge.Pressed.{Pressed}
use Rattle.tariff.specs.Time.{time}
use Rattle.tariff.specs.Presses.{pressing}
use Rattle.tariff.specs.Totals.{charge_of}
use Rattle.validate.specs.Walks.{Said, finished, walked}

-- the last of the lines
abbrev pub Ends : List Said → Said → Type 0
Ends lines last = (front : List Said) × (lines ≡ front ++ last ∷ [])

-- a walk is said to end in the goal exactly where its actions are a plan, and its charges are the plan's
pub record WalksRight : Type 0 where
  pub a_plan : (b : Bench) (s numbers : List ℕ) (t : ℕ) (p : Pressed) → Ends (walked b s numbers) (finished true t p) → Plan (world b) s numbers × (t ≡ charge_of time b.actions numbers) × (p ≡ charge_of pressing b.actions numbers)
  pub every_plan : (b : Bench) (s numbers : List ℕ) → length numbers ≤ 65536 → Plan (world b) s numbers → Ends (walked b s numbers) (finished true (charge_of time b.actions numbers) (charge_of pressing b.actions numbers))
