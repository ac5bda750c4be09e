-- The queue and the rows together: each open row waits once, at its charge.
use Rattle.std.specs.Prelude.{◌≡◌, ℕ, zero, suc, ◌≤◌, Bool, cond, List, [], ◌∷◌, length, sum_by, ◌==◌, slice_index_or}
use Rattle.std.specs.List.{AllByRecursion}
use Rattle.search.specs.declared.data.Row.{Row}
use Rattle.search.specs.declared.entry.Entry.{Entry}
use Rattle.search.specs.declared.entry.Waiting.{Waiting}
use Rattle.search.specs.Queues.{queue, Queued, Placed}

-- how often row j waits
abbrev pub times : {C : Type 0} → ℕ → List (Waiting C) → ℕ
times {C} j xs = sum_by (λ (w : Waiting C). cond (w.row == j) 1 0) xs

-- how often it should: once if it is open
abbrev pub due : {C : Type 0} → List (Row C) → ℕ → ℕ
due [] j = 0
due (r ∷ more) zero = cond r.closed 0 1
due (r ∷ more) (suc j) = due more j

-- it waits at its row's charge
abbrev pub AtCharge : {C : Type 0} → List (Row C) → Waiting C → Type 0
AtCharge {C} rows w = (d : Row C) → (slice_index_or rows w.row d).charge ≡ w.charge

-- each open row waits once, no closed one does, and each waits at its charge
pub record Matched {C : Type 0} (rows : List (Row C)) (xs : List (Waiting C)) : Type 0 where
  pub once : (j : ℕ) → times j xs ≡ due rows j
  pub charged : AllByRecursion (AtCharge rows) xs

-- the first places of the table are the queue of the rows
pub record Lined {C : Type 0} (le : C → C → Bool) (rows : List (Row C)) (waiting : ℕ) (table : List (Entry C)) : Type 0 where
  pub queued : Queued le (queue waiting table)
  pub placed : Placed waiting table
  pub matched : Matched rows (queue waiting table)
  pub few : waiting ≤ length rows
