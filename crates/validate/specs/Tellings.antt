-- What is told of a walk, and why none is begun.
use Rattle.std.specs.Prelude.{◌≡◌, ℕ, List, [], ◌∷◌, map, Ok, Err, vec_items, Result, Vec}
use Rattle.std.specs.declared.alloc.Global.{Global}
use Rattle.task.specs.Benches.{Bench, bench_of}
use Rattle.validate.specs.declared.data.Bench as lent
use Rattle.validate.specs.declared.data.Line.{Line}
use Rattle.validate.specs.declared.data.Unwalked.{Unwalked}
use Rattle.validate.specs.declared.data.Unwalked.TheVariants.{Because, Memory}
use Rattle.validate.specs.Walks.{Said, shown, not_a_number}

-- the bench that a task and its table mean
abbrev pub bench : lent.Bench → Bench
bench b = bench_of b.task.now b.actions.now

-- the one line is all that is said; want of memory says nothing
abbrev pub TellsWhy : List Said → Unwalked → Type 0
TellsWhy said (Because line) = shown line ∷ [] ≡ said
TellsWhy said (Memory e) = Unit {0}

-- the lines are what is said
abbrev pub Tells : List Said → Result (Vec Line Global) Unwalked → Type 0
Tells said (Ok lines) = map shown (vec_items lines) ≡ said
Tells said (Err why) = TellsWhy said why

-- the numbers on a line of this number, or the first field that is none
abbrev pub Reads : ℕ → Result (List ℕ) ℕ → Result (Vec ℕ Global) Unwalked → Type 0
Reads line numbers (Ok v) = numbers ≡ Ok (vec_items v)
Reads line numbers (Err (Because l)) = (field : ℕ) × (numbers ≡ Err field) × (shown l ≡ not_a_number line field)
Reads line numbers (Err (Memory e)) = Unit {0}
