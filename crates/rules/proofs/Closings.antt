-- Marks that are closed and lie inside the smallest closed set are its marks.
use Rattle.std.proofs.Common.{◌≡◌, ℕ, ◌<◌, ◌≤◌, Bool, true, false, cond, eqb, List, length, get_or, refl, ◌∙◌, inl, inr, arith}
use lib.ListN.{length-map}
use Rattle.std.specs.List.{AllByRecursion}
use Rattle.std.proofs.ByRecursion.{All-get_or}
use Rattle.std.proofs.lemmas.List.{length-take-le, get_or_past}
use Rattle.std.proofs.lemmas.Bool.{eqb-true, eq-eqb, cases_lt, both_ways}
use Rattle.task.specs.declared.data.Action.{Action}
use Rattle.task.specs.declared.data.Task.{Task}
use Rattle.task.specs.Settings.{unmet}
use Rattle.task.specs.Benches.{Bench, act, bench_of}
use Rattle.rules.specs.Marks.{Marked}
use Rattle.rules.specs.Sets.{Closed, wants, calls, stubborn}
use Rattle.rules.specs.Grows.{closed_by, stubborn_smallest}

-- a mark past the last is none
pub within : (bytes : List ℕ) (k : ℕ) → get_or bytes k 0 ≡ 1 → k < length bytes
within bytes k e = elim (cases_lt k (length bytes)) [ inl l ↦ l | inr h ↦ absurd (let z = get_or_past bytes k 0 h in omega arith) ]

pub marks_are : (b : Bench) (s : List ℕ) (bytes : List ℕ) → length bytes ≡ length b.actions → AllByRecursion (λ x. x ≤ 1) bytes
    → ((i : ℕ) → i < length b.actions → wants (unmet s b.goal) (act b i) ≡ true → get_or bytes i 0 ≡ 1)
    → ((j i : ℕ) → i < length b.actions → get_or bytes j 0 ≡ 1 → calls b s j i ≡ true → get_or bytes i 0 ≡ 1)
    → ((k : ℕ) → k < length bytes → get_or bytes k 0 ≡ 1 → stubborn b s k ≡ true)
    → Marked (stubborn b s) bytes
marks_are b s bytes as_many bits start along inside k low = by (stubborn b s k) refl
  where
    member : ℕ → Bool
    member i = eqb (get_or bytes i 0) 1

    closed : Closed b s member
    closed = closed_by b s member (λ i l e. eq-eqb _ _ (start i l e)) (λ j i l m e. eq-eqb _ _ (along j i l (eqb-true _ _ m) e))

    by : (x : Bool) → stubborn b s k ≡ x → get_or bytes k 0 ≡ cond x 1 0
    by true e = eqb-true _ _ ((stubborn_smallest b s).least member closed k e)
    by false e = let h = All-get_or (λ x. x ≤ 1) bytes k 0 low bits in let off : get_or bytes k 0 ≡ 1 → ⊥ = λ q. both_ways _ e (inside k low q) in omega arith

-- the bench of a task has the actions of its table
pub bench_length : (task : Task) (table : List Action) → task.actions ≤ length table → length (bench_of task table).actions ≡ task.actions
bench_length task table enough = length-map _ _ ∙ length-take-le task.actions table enough
