-- The queue of waiting rows: their order, and where each of them lies.
use Rattle.std.specs.Prelude.{◌≡◌, ℕ, ◌<◌, Bool, true, false, List, map, length, get_or, take, ◌≢◌, slice_index, slice_index_or, slice_set}
use Rattle.std.specs.declared.cmp.Ordering.{Ordering}
use Rattle.std.specs.Ordering.{is_lt, nat_cmp, ordering_then}
use Rattle.std.specs.Slice.Heapsort.{IsHeapWithin}
use Rattle.std.specs.List.Sorted.{IsPermutation}
use Rattle.tariff.specs.Totals.{ordered}
use Rattle.search.specs.declared.entry.Entry.{Entry}
use Rattle.search.specs.declared.entry.Waiting.{Waiting}

-- what waits at each place of the table
abbrev pub waitings : {C : Type 0} → List (Entry C) → List (Waiting C)
waitings {C} table = map (λ (e : Entry C). e.waiting) table

-- the place that is noted for each row
abbrev pub places : {C : Type 0} → List (Entry C) → List ℕ
places {C} table = map (λ (e : Entry C). e.place) table

-- the queue lies in the first places
abbrev pub queue : {C : Type 0} → ℕ → List (Entry C) → List (Waiting C)
queue count table = take count (waitings table)

-- by charge, then by row number
abbrev pub order : {C : Type 0} → (C → C → Bool) → Waiting C → Waiting C → Ordering
order le a b = ordering_then (ordered le a.charge b.charge) (nat_cmp a.row b.row)

-- a comes before b
abbrev pub sooner : {C : Type 0} → (C → C → Bool) → Waiting C → Waiting C → Bool
sooner le a b = is_lt (order le a b)

-- none comes before the one above it
unfoldable pub Queued : {C : Type 0} → (C → C → Bool) → List (Waiting C) → Type 0
Queued {C} le xs = IsHeapWithin (λ (x y : Waiting C). sooner le y x) xs 0 (length xs)

-- none of them comes before x
abbrev pub Least : {C : Type 0} → (C → C → Bool) → Waiting C → List (Waiting C) → Type 0
Least le x xs = (k : ℕ) → k < length xs → sooner le (slice_index_or xs k x) x ≡ false

-- the row of x does not wait among them
abbrev pub Fresh : {C : Type 0} → Waiting C → List (Waiting C) → Type 0
Fresh x xs = (k : ℕ) → k < length xs → (get_or xs k x).row ≢ x.row

-- whether one of the same row, that x comes before, was turned into x
abbrev pub Lowered : {C : Type 0} → (C → C → Bool) → Waiting C → List (Waiting C) → List (Waiting C) → Bool → Type 0
Lowered le x xs ys true = (k : ℕ) × (k < length xs) × ((get_or xs k x).row ≡ x.row) × (sooner le x (slice_index_or xs k x) ≡ true) × IsPermutation (slice_set xs k x) ys
Lowered le x xs ys false = (ys ≡ xs) × ((k : ℕ) → k < length xs → (get_or xs k x).row ≡ x.row → sooner le x (slice_index_or xs k x) ≡ false)

-- the answer of a comparison, the other way round: std's heaps have the greatest first
abbrev pub turned_order : {C : Type 0} → (C → C → Bool) → Waiting C → Waiting C → Ordering
turned_order le x y = order le y x

-- the place of each waiting row is noted
unfoldable pub Noted : {C : Type 0} → List (Waiting C) → List ℕ → Type 0
Noted {C} xs noted = (k : ℕ) (d : Waiting C) → k < length xs → ((get_or xs k d).row < length noted) × (slice_index noted (get_or xs k d).row ≡ k)

-- the place of each row in the queue is noted in the queue's table
abbrev pub Placed : {C : Type 0} → ℕ → List (Entry C) → Type 0
Placed count table = Noted (queue count table) (places table)
