-- The steps of a search: one row expanded, and a number of steps with a look for an end before each.
use Rattle.std.specs.Prelude.{ℕ, zero, suc, ◌<◌, Bool, false, cond, ◌&&◌, List, [], ◌∷◌, length, Some, None, Option, slice_set}
use Rattle.task.specs.Benches.{Act, Bench, World, world, act}
use Rattle.tariff.specs.Charges.{Charges, Reached}
use Rattle.search.specs.declared.data.Row.{Row}
use Rattle.search.specs.Rows.{Swept, on, over, shut, row, place, least}

-- what a search is asked: a plan from the start that costs at most the bound, found with so many rows
pub record Quest (C : Type 0) : Type 0 where
  pub start : List ℕ
  pub bound : C
  pub capacity : ℕ

-- all that a search's steps depend on, but for its rows and its rule
pub record Problem (C : Type 0) : Type 0 where
  pub world : World (List ℕ)
  pub charges : Charges C
  pub act : ℕ → Act
  pub count : ℕ
  pub quest : Quest C

abbrev pub problem : {C : Type 0} → Bench → Charges C → Quest C → Problem C
problem b K q = record { world = world b; charges = K; act = act b; count = length b.actions; quest = q }

-- how it stands after some steps: going on, the least open row is a goal row, no row is open, no row is left
pub data Outcome : Type 0 where
  going : Outcome
  at_goal : ℕ → Outcome
  exhausted : Outcome
  crowded : Outcome

-- rows, how many of them were expanded, and how it stands
pub record State (C : Type 0) : Type 0 where
  pub rows : List (Row C)
  pub count : ℕ
  pub outcome : Outcome

module _ {C : Type 0} (P : Problem C) where
  -- what an action costs
  abbrev pub cost : ℕ → C
  cost a = P.charges.charge (P.act a)

  -- the charge with any action's charge more is a sum of up to 65,536 charges of actions
  abbrev pub Addable : C → Type 0
  Addable c = (a : ℕ) → a < P.count → Reached P.charges.zero P.charges.plus P.charges.charge (P.charges.plus c (cost a))

  abbrev pub row_at : List (Row C) → ℕ → Row C
  row_at rows k = row P.charges.zero P.charges.le rows k

  abbrev pub least_open : List (Row C) → Option ℕ
  least_open rows = least P.charges.zero P.charges.le rows

  -- the row to which action a leads from row i with setting s and charge c
  abbrev pub reach : ℕ → List ℕ → C → ℕ → Row C
  reach i s c a = record { setting = P.world.next s a; charge = P.charges.plus c (cost a); closed = false; origin = i; action = a }

  -- a successor over the bound is dropped, any other is placed
  abbrev pub relaxed : ℕ → List ℕ → C → List (Row C) → ℕ → Swept C
  relaxed i s c rows a =
      cond (P.charges.le (P.charges.plus c (cost a)) P.quest.bound)
      (place P.charges.zero P.charges.le P.quest.capacity rows (reach i s c a))
      (on rows)

  -- one action more: nothing once no row was left, and nothing where the action is not offered
  abbrev pub onward : (ℕ → Bool) → ℕ → List ℕ → C → Swept C → ℕ → Swept C
  onward marks i s c (over rows) a = over rows
  onward marks i s c (on rows) a = cond (marks a && P.world.can s a) (relaxed i s c rows a) (on rows)

  -- the actions below a number, in rising order
  abbrev pub sweep : (ℕ → Bool) → ℕ → List ℕ → C → List (Row C) → ℕ → Swept C
  sweep marks i s c rows zero = on rows
  sweep marks i s c rows (suc a) = onward marks i s c (sweep marks i s c rows a) a

  -- the row is closed, and each offered action tried
  abbrev pub expand : (List ℕ → ℕ → Bool) → List (Row C) → ℕ → Swept C
  expand marks rows i = sweep (marks (row_at rows i).setting) i (row_at rows i).setting (row_at rows i).charge (slice_set rows i (shut (row_at rows i))) P.count

  -- a look for an end
  abbrev pub look : List (Row C) → Option ℕ → Outcome
  look rows None = exhausted
  look rows (Some i) = cond (P.world.goal (row_at rows i).setting) (at_goal i) going

  abbrev pub carry : (List (Row C) → ℕ → State C) → ℕ → Swept C → State C
  carry next n (on rows) = next rows (suc n)
  carry next n (over rows) = record { rows = rows; count = suc n; outcome = crowded }

  abbrev pub decide : (List ℕ → ℕ → Bool) → (List (Row C) → ℕ → State C) → List (Row C) → ℕ → Option ℕ → State C
  decide marks next rows n None = record { rows = rows; count = n; outcome = exhausted }
  decide marks next rows n (Some i) =
      cond (P.world.goal (row_at rows i).setting)
      (record { rows = rows; count = n; outcome = at_goal i })
      (carry next n (expand marks rows i))

  -- k steps, from rows of which n were expanded: before each a look for an end, and one more after the last
  abbrev pub advance : (List ℕ → ℕ → Bool) → ℕ → List (Row C) → ℕ → State C
  advance marks zero rows n = record { rows = rows; count = n; outcome = look rows (least_open rows) }
  advance marks (suc k) rows n = decide marks (advance marks k) rows n (least_open rows)

  -- row 0: the start at zero charge, open
  abbrev pub first_rows : List (Row C)
  first_rows = record { setting = P.quest.start; charge = P.charges.zero; closed = false; origin = 0; action = 0 } ∷ []
