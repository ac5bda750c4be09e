-- What is answered of a line of numbers.
use Rattle.std.specs.Prelude.{◌≡◌, ℕ, List, Ok, Err, vec_items, Result, Vec}
use Rattle.std.specs.declared.alloc.Global.{Global}
use Rattle.text.specs.declared.Unread.{Unread}
use Rattle.text.specs.declared.Unread.TheVariants.{Field, Memory}

-- the numbers, or the place of the first field that is none; want of memory says nothing
abbrev pub Told : Result (List ℕ) ℕ → Result (Vec ℕ Global) Unread → Type 0
Told said (Ok v) = said ≡ Ok (vec_items v)
Told said (Err (Field place)) = said ≡ Err place
Told said (Err Memory) = Unit {0}
