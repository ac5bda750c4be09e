-- What writing leaves in the output.
use Rattle.std.specs.Prelude.{◌≡◌, ℕ, ◌+◌, ◌≤◌, cond, List, ◌++◌, map, length, take, drop, IfOk, Ok, Err, Result, nat_le}
use Rattle.task.specs.declared.data.Action.{Action}
use Rattle.task.specs.declared.data.Task.{Task}
use Rattle.task.specs.declared.refusal.Fault.TheVariants.{ShortTable}
use Rattle.task.specs.declared.refusal.Refusal.{Refusal}
use Rattle.task.specs.Settings.{listed}
use Rattle.task.specs.Benches.{Bench, Lawful, act_of, bench_of}
use Rattle.task.specs.Refusals.{refuse}
use Rattle.book.specs.declared.writer.Pen.{Pen}
use Rattle.book.specs.Format.{parse}
use Rattle.book.specs.Print.{print}

-- the bytes stand from place `at` up to `next`, and every other place is as before
pub record Put (before after : List ℕ) (at next : ℕ) (bytes : List ℕ) : Type 0 where
  pub size : next ≡ at + length bytes
  pub room : next ≤ length before
  pub is : after ≡ take at before ++ (bytes ++ drop next before)

-- the pen has room for the bytes
abbrev pub HasRoom : Pen → List ℕ → Type 0
HasRoom pen bytes = pen.at + length bytes ≤ length pen.out.now

-- the pen has written the bytes, and its output is still the one that it was lent
pub record Writes (before after : Pen) (bytes : List ℕ) : Type 0 where
  pub same : after.out.ghost_name ≡ before.out.ghost_name
  pub put : Put before.out.now after.out.now before.at after.at bytes

-- the bench of a task with exactly these actions
abbrev pub bench_with : Task → List Action → Bench
bench_with task actions = record { sizes = take task.variables task.sizes; actions = map act_of actions; goal = listed task.goal }

-- how many bytes a book takes of so many places
abbrev pub sized : List ℕ → ℕ → Result ℕ Refusal
sized book places = cond (nat_le (length book) places) (Ok (length book)) (refuse ShortTable 7)

-- the answer of writing a task, whose actions are the first of a table, into so many places
abbrev pub written : Task → List Action → ℕ → Result ℕ Refusal
written task table places = cond (nat_le task.actions (length table)) (sized (print (bench_of task table)) places) (refuse ShortTable 1)

-- the output after an answer: the book in its first places, or all as before
abbrev pub output_after : List ℕ → List ℕ → Result ℕ Refusal → List ℕ
output_after book before (Ok n) = book ++ drop n before
output_after book before (Err e) = before

-- what is written of a lawful bench reads back to it
abbrev pub ReadsBack : Bench → List ℕ → Result ℕ Refusal → Type 0
ReadsBack b out r = Lawful b → IfOk r (λ n. parse (take n out) ≡ Ok b)
