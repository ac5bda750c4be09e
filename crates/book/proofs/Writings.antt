-- What a task is written to.
use Rattle.std.proofs.Common.{◌≡◌, ℕ, ◌≤◌, List, length, Ok, sym, ap, ◌∙◌}
use Rattle.std.proofs.lemmas.Bool.{cond-true, le-leb}
use Rattle.task.specs.declared.data.Action.{Action}
use Rattle.task.specs.declared.data.Task.{Task}
use Rattle.task.specs.Benches.{bench_of}
use Rattle.book.specs.Print.{print}
use Rattle.book.specs.Writer.{sized, written}

listed_all : (task : Task) (table : List Action) (places : ℕ) → task.actions ≤ length table → sized (print (bench_of task table)) places ≡ written task table places
listed_all task table places h = sym (cond-true _ _ _ (le-leb task.actions (length table) h))

pub has_output : (task : Task) (table : List Action) (places n : ℕ) → task.actions ≤ length table → length (print (bench_of task table)) ≤ places → n ≡ length (print (bench_of task table)) → Ok n ≡ written task table places
has_output task table places n h k e = ap (λ m. Ok m) e ∙ sym (cond-true _ _ _ (le-leb (length (print (bench_of task table))) places k)) ∙ listed_all task table places h
