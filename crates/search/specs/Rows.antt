-- The rows of a search: a setting in each, with the least charge it was reached at.
use Rattle.std.specs.Prelude.{ℕ, zero, suc, ◌+◌, Bool, true, cond, not, ◌&&◌, List, [], ◌∷◌, ◌++◌, length, Some, None, Option, ◌==◌, nat_lt, slice_index_or, slice_set}
use Rattle.std.specs.Str.{bytes_eq}
use Rattle.search.specs.declared.data.Row.{Row}

-- the number of the first row with this setting, or the number of rows where there is none
abbrev pub seek : {C : Type 0} → List ℕ → List (Row C) → ℕ
seek s [] = 0
seek s (r ∷ more) = cond (bytes_eq r.setting s) 0 (suc (seek s more))

-- the row, closed
abbrev pub shut : {C : Type 0} → Row C → Row C
shut r = record { setting = r.setting; charge = r.charge; closed = true; origin = r.origin; action = r.action }

-- the row at the new charge, from the new origin by the new action
abbrev pub lowered : {C : Type 0} → Row C → Row C → Row C
lowered r new = record { setting = r.setting; charge = new.charge; closed = r.closed; origin = new.origin; action = new.action }

-- how many rows are closed
abbrev pub shuts : {C : Type 0} → List (Row C) → ℕ
shuts [] = 0
shuts (r ∷ more) = cond r.closed 1 0 + shuts more

-- rows after some actions: there was a row for each setting, or none was left for one
pub data Swept (C : Type 0) : Type 0 where
  on : List (Row C) → Swept C
  over : List (Row C) → Swept C

module _ {C : Type 0} (zero_charge : C) (le : C → C → Bool) where
  -- what stands past the last row
  abbrev pub blank : Row C
  blank = record { setting = []; charge = zero_charge; closed = true; origin = 0; action = 0 }

  abbrev pub row : List (Row C) → ℕ → Row C
  row rows k = slice_index_or rows k blank

  -- the row with this number is kept, or lowered where the new charge is smaller
  abbrev pub settled : List (Row C) → Row C → ℕ → List (Row C)
  settled rows new j = cond (le (row rows j).charge new.charge) rows (slice_set rows j (lowered (row rows j) new))

  -- a setting that is in a row stays there; else it gets the next row, if one is left
  abbrev pub place : ℕ → List (Row C) → Row C → Swept C
  place capacity rows new =
      cond (nat_lt (seek new.setting rows) (length rows))
      (on (settled rows new (seek new.setting rows)))
      (cond (nat_lt (length rows) capacity) (on (rows ++ new ∷ [])) (over rows))

  abbrev pub front : Row C → List (Row C) → Option ℕ → Option ℕ
  front r more None = cond r.closed None (Some 0)
  front r more (Some j) = cond (not r.closed && le r.charge (row more j).charge) (Some 0) (Some (suc j))

  -- the open row with the smallest charge, the lowest number among equals
  abbrev pub least : List (Row C) → Option ℕ
  least [] = None
  least (r ∷ more) = front r more (least more)

  -- the actions that lead to a row, by the origins back to row 0, with some actions behind them
  abbrev pub follow : ℕ → List (Row C) → ℕ → List ℕ → List ℕ
  follow zero rows k behind = behind
  follow (suc fuel) rows k behind = cond (k == 0) behind (follow fuel rows (row rows k).origin ((row rows k).action ∷ behind))

  abbrev pub plan_of : List (Row C) → ℕ → List ℕ
  plan_of rows k = follow (length rows) rows k []
