-- Tables that are lent to a struct.
use Rattle.std.specs.Prelude.{◌≡◌, List, length}
use Rattle.std.specs.Borrow.{MutBor}

-- the same table, as long as before
abbrev pub SameTable : {X : Type 0} → MutBor (List X) → MutBor (List X) → Type 0
SameTable s t = (t.ghost_name ≡ s.ghost_name) × (length t.now ≡ length s.now)
