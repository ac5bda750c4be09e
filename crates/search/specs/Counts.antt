-- The numbers of a search's tables, and what its functions make of them.
use Rattle.std.specs.Prelude.{◌≡◌, ℕ, ◌+◌, ◌<◌, ◌≤◌, Bool, List, take, Some, Ok, Err, Result, ◌==◌, slice_index, slice_index_or}
use Rattle.std.specs.List.{AllByRecursion}
use Rattle.task.specs.Benches.{Bench, SettingOf}
use Rattle.tariff.specs.Charges.{Charges}
use Rattle.search.specs.declared.checks.Lengths.{Lengths}
use Rattle.search.specs.declared.data.Row.{Row}
use Rattle.search.specs.declared.entry.Entry.{Entry}
use Rattle.search.specs.declared.sizes.Sizes.{Sizes}
use Rattle.search.specs.declared.sizes.Source.{Source}
use Rattle.search.specs.declared.sizes.Limits.{Limits}
use Rattle.search.specs.declared.sizes.Full.{Full}
use Rattle.search.specs.declared.sizes.Ran.{Ran}
use Rattle.search.specs.declared.sizes.Progress.{Progress}
use Rattle.search.specs.declared.sizes.Progress.TheVariants.{Going, AtGoal, Exhausted, Crowded}
use Rattle.search.specs.Rows.{Swept, on, over, least}
use Rattle.search.specs.Lined.{Lined}
use Rattle.search.specs.Steps.{Quest, problem, Addable, Outcome, going, at_goal, exhausted, crowded, State, advance}

-- the used rows are within the capacity, no more of them wait, and the tables have room for all
pub record Roomy (capacity : ℕ) (s : Sizes) (row_places queue_places : ℕ) : Type 0 where
  pub used : s.used ≤ capacity
  pub waiting : s.waiting ≤ s.used
  pub few : capacity ≤ 65535
  pub rows : capacity ≤ row_places
  pub queue : capacity ≤ queue_places

-- rows were added, within the capacity, and as many waiting ones; `gone` no longer wait
pub record Grew (capacity gone : ℕ) (s t : Sizes) : Type 0 where
  pub more : s.used ≤ t.used
  pub within : t.used ≤ capacity
  pub waiting : t.waiting ≤ t.used
  pub even : t.used + s.waiting ≡ s.used + t.waiting + gone

-- a goal row is a used one
abbrev pub Low : Progress → ℕ → Type 0
Low Going used = Unit {0}
Low (AtGoal i) used = i < used
Low Exhausted used = Unit {0}
Low Crowded used = Unit {0}

-- no fewer rows than before, within the capacity; each of them was expanded or waits
pub record Tallied (capacity : ℕ) (s : Sizes) (r : Ran) : Type 0 where
  pub more : s.used ≤ r.sizes.used
  pub within : r.sizes.used ≤ capacity
  pub waiting : r.sizes.waiting ≤ r.sizes.used
  pub all : r.expanded + r.sizes.waiting ≡ r.sizes.used
  pub low : Low r.progress r.sizes.used

-- the actions' table and the marks have a place for each action, and there are 4,096 work bytes
pub record Served (actions table marks work : ℕ) : Type 0 where
  pub in_table : actions ≤ table
  pub in_marks : actions ≤ marks
  pub room : 4096 ≤ work

-- queue, plan list, marks and work have room for a search with so many rows
pub record Spacious (capacity actions : ℕ) (l : Lengths) : Type 0 where
  pub queue : capacity ≤ l.queue
  pub plan : capacity ≤ l.plan
  pub marks : actions ≤ l.marks
  pub work : 4096 ≤ l.work

-- what a search from this start is asked
abbrev pub posed : {C : Type 0} → List ℕ → Limits C → Quest C
posed start limits = record { start = start; bound = limits.bound; capacity = limits.capacity }

-- the used rows, and whether none was left for one more
abbrev pub swept : {C : Type 0} → Result (Unit {0}) Full → List (Row C) → Swept C
swept (Ok _) rows = on rows
swept (Err _) rows = over rows

-- the source is the row that is first in the queue
pub record FirstIn {C : Type 0} (rows : List (Row C)) (table : List (Entry C)) (s : Sizes) (source : Source C) : Type 0 where
  pub waits : 0 < s.waiting
  pub low : source.row < s.used
  pub read : (d : Row C) → ((slice_index_or rows source.row d).setting ≡ source.setting) × ((slice_index_or rows source.row d).charge ≡ source.charge)
  pub first : (K : Charges C) → Lined K.le (take s.used rows) s.waiting table → least K.zero K.le (take s.used rows) ≡ Some source.row

-- the byte of the action says that it is marked
abbrev pub byte_marked : List ℕ → ℕ → Bool
byte_marked bytes a = slice_index bytes a == 1

abbrev pub outcome_of : Progress → Outcome
outcome_of Going = going
outcome_of (AtGoal i) = at_goal i
outcome_of Exhausted = exhausted
outcome_of Crowded = crowded

-- how the search stands
abbrev pub state_of : {C : Type 0} → Ran → List (Row C) → State C
state_of r rows = record { rows = take r.sizes.used rows; count = r.expanded; outcome = outcome_of r.progress }

-- a step that did not end the search, or how it ended
abbrev pub stepped : {C : Type 0} → Result (Unit {0}) Progress → (List (Row C) → ℕ → State C) → List (Row C) → ℕ → State C
stepped (Ok _) next rows n = next rows n
stepped (Err end) next rows n = record { rows = rows; count = n; outcome = outcome_of end }

-- after any steps each row has a setting of the bench, and a charge to which any action's can be added
abbrev pub Sound : {C : Type 0} → Bench → Charges C → Quest C → (List ℕ → ℕ → Bool) → List (Row C) → ℕ → Type 0
Sound {C} b K q marks rows n =
    (j : ℕ) → AllByRecursion (λ (r : Row C). SettingOf b r.setting × Addable (problem b K q) r.charge) (advance (problem b K q) marks j rows n).rows
