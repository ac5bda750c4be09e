-- What a call comes to, by whether it is refused.
use Rattle.std.proofs.Common.{◌≡◌, ℕ, List, Option, sym, ap, ◌∙◌, subst}
use Rattle.task.specs.declared.data.Task.{Task}
use Rattle.task.specs.declared.refusal.Refusal.{Refusal}
use Rattle.task.specs.Benches.{Bench, Lawful}
use Rattle.tariff.specs.Charges.{Charges}
use Rattle.rules.specs.Marks.{Marking}
use Rattle.search.specs.declared.data.Row.{Row}
use Rattle.search.specs.declared.phase.Rest.{Rest}
use Rattle.search.specs.Steps.{Quest, problem, advance, first_rows}
use Rattle.search.specs.Session.{Lengths, End, resting, searching, ended, Call, beginning, advancing, taking, abandoning, began, at_rest, begin_fault, advance_fault, take_fault, unless, gone, taken, after, state}
use Rattle.search.specs.Left.{OfTask, Abandoned}
use Rattle.search.proofs.Promises.{promised}

module _ {C : Type 0} (b : Bench) (K : Charges C) (calls : List (Call C)) where
  module _ (s : List ℕ) (bound : C) (l : Lengths) (is : state b K calls ≡ resting) where
    abbrev asked : Quest C
    asked = record { start = s; bound = bound; capacity = l.rows }

    pub begin_by : (f : Option Refusal) → f ≡ begin_fault b s l → after b K (state b K calls) (beginning s bound l) ≡ unless f resting (searching asked (first_rows (problem b K asked)) 0, began)
    begin_by f e = ap (λ p. after b K p (beginning s bound l)) is ∙ ap (λ x. unless x resting (searching asked (first_rows (problem b K asked)) 0, began)) (sym e)

  module _ (q : Quest C) (rows : List (Row C)) (n k : ℕ) (m : Marking) (l : Lengths) (is : state b K calls ≡ searching q rows n) where
    pub advance_by : (f : Option Refusal) → f ≡ advance_fault b q.capacity l → after b K (state b K calls) (advancing k m l) ≡ unless f (searching q rows n) (gone b K q (advance (problem b K q) (m.marks b) k rows n))
    advance_by f e = ap (λ p. after b K p (advancing k m l)) is ∙ ap (λ x. unless x (searching q rows n) (gone b K q (advance (problem b K q) (m.marks b) k rows n))) (sym e)

  module _ (q : Quest C) (e : End C) (n : ℕ) (l : Lengths) (is : state b K calls ≡ ended q e n) where
    pub take_by : (f : Option Refusal) → f ≡ take_fault b q.capacity e l → after b K (state b K calls) (taking l) ≡ unless f (ended q e n) (taken b K q e n)
    take_by f h = ap (λ p. after b K p (taking l)) is ∙ ap (λ x. unless x (ended q e n) (taken b K q e n)) (sym h)

  -- a planner that is given up is at rest with its task
  pub abandoned : Lawful b → (task : Task) (rest : Rest) → OfTask task b → rest.task ≡ task → after b K (state b K calls) abandoning ≡ (resting, at_rest) → Abandoned b K calls rest
  abandoned lawful task rest of same e = (ap (λ p. p.1) e, record { task = subst (λ (t : Task). OfTask t b) (sym same) of; is = ap (λ p. p.0) e }, promised b K lawful _)
