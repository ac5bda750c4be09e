-- Worked cases: two small benches, searched by both tariffs and two rules.
use Rattle.std.specs.Prelude.{◌≡◌, ℕ, List, [], ◌∷◌, replicate, nat_lt}
use Rattle.task.specs.declared.refusal.Fault.TheVariants.{NoStepLeft}
use Rattle.task.specs.Refusals.{refusal}
use Rattle.task.specs.Benches.{Bench}
use Rattle.tariff.specs.Charges.{Charges}
use Rattle.tariff.specs.Time.{time}
use Rattle.tariff.specs.Presses.{pressed, pressing}
use Rattle.rules.specs.Marks.{Marking}
use Rattle.rules.specs.Rules.{all_marking, stubborn_marking, is, keypad, keypad_start}
use Rattle.rules.specs.Sets.{stubborn}
use Rattle.search.specs.Session.{Lengths, End, found, no_plan, no_row, ended, Call, beginning, advancing, taking, refused, state, answer}

-- one variable of three values: in one step from 0 to 2 at 10 tenths, or in two at 2 and 3
abbrev pub fork : Bench
fork = record {
  sizes = 3 ∷ [];
  actions =
      record { tenths = 10; presses = 1; conditions = is 0 0 ∷ []; effects = is 0 2 ∷ [] }
      ∷ record { tenths = 2; presses = 1; conditions = is 0 0 ∷ []; effects = is 0 1 ∷ [] }
      ∷ record { tenths = 3; presses = 1; conditions = is 0 1 ∷ []; effects = is 0 2 ∷ [] }
      ∷ [];
  goal = is 0 2 ∷ [];
}

abbrev pub zeros : List ℕ
zeros = replicate 64 0

-- tables for so many rows
abbrev pub lent : ℕ → Lengths
lent rows = record { actions = 5; rows = rows; queue = rows; plan = rows; marks = 5; work = 4096 }

-- a search from the start by one rule, with so many rows, advanced by as many steps
abbrev pub searched : {C : Type 0} → Marking → List ℕ → C → ℕ → List (Call C)
searched rule start bound rows = advancing rows rule (lent rows) ∷ beginning start bound (lent rows) ∷ []

-- it ended so, with so many settings expanded
abbrev pub Ends : {C : Type 0} → Bench → Charges C → Marking → List ℕ → C → ℕ → End C → ℕ → Type 0
Ends b K rule start bound rows end count = state b K (searched rule start bound rows) ≡ ended (record { start = start; bound = bound; capacity = rows }) end count

pub record Cases : Type 0 where
  pub marks : (k : ℕ) → stubborn keypad keypad_start k ≡ nat_lt k 4
  pub keypad_pruned : Ends keypad time stubborn_marking keypad_start 23 8 (found 23 (0 ∷ 1 ∷ 2 ∷ 3 ∷ 4 ∷ []) 0) 7
  pub keypad_whole : Ends keypad time all_marking keypad_start 23 64 (found 23 (0 ∷ 1 ∷ 4 ∷ 2 ∷ 3 ∷ []) 0) 14
  pub keypad_denied : Ends keypad time stubborn_marking keypad_start 22 7 no_plan 7
  pub keypad_full : Ends keypad time stubborn_marking keypad_start 23 7 no_row 7
  pub fork_by_time : Ends fork time stubborn_marking zeros 10 3 (found 5 (1 ∷ 2 ∷ []) 0) 2
  pub fork_by_presses : Ends fork pressing stubborn_marking zeros (pressed 9 0) 3 (found (pressed 1 10) (0 ∷ []) 0) 2
  pub in_goal : state fork time (advancing 0 stubborn_marking (lent 3) ∷ beginning (2 ∷ replicate 63 0) 0 (lent 3) ∷ []) ≡ ended (record { start = 2 ∷ replicate 63 0; bound = 0; capacity = 3 }) (found 0 [] 0) 0
  pub nothing_to_take : answer fork time (advancing 0 stubborn_marking (lent 3) ∷ beginning (2 ∷ replicate 63 0) 0 (lent 3) ∷ []) (taking (lent 3)) ≡ refused (refusal NoStepLeft 0)
