-- The bench of a book, record by record, or the refusal of its first faulty record.
use Rattle.std.specs.Prelude.{ℕ, zero, suc, ◌+◌, Bool, cond, ◌&&◌, ◌||◌, List, [], ◌∷◌, ◌++◌, length, drop, Some, None, Ok, Err, Option, Result, ◌==◌, nat_le, nat_lt, slice_index}
use Rattle.std.specs.List.{between}
use Rattle.task.specs.declared.data.Atom.{Atom}
use Rattle.task.specs.declared.refusal.Fault.{Fault}
use Rattle.task.specs.declared.refusal.Fault.TheVariants.{OutOfPlace, TooMany, ValueCount, OutsideBench, NotRising, NoEffect, OverLimit, RepeatsCondition, NoGoal, ShortTable}
use Rattle.task.specs.declared.refusal.Refusal.{Refusal}
use Rattle.task.specs.Settings.{some_atom}
use Rattle.task.specs.Benches.{Act, Bench, alike}
use Rattle.task.specs.Refusals.{refuse}
use Rattle.book.specs.declared.records.Kind.{Kind}
use Rattle.book.specs.declared.records.Kind.TheVariants as kind
use Rattle.book.specs.declared.Stage.{Stage}
use Rattle.book.specs.declared.Stage.TheVariants as stage
use Rattle.book.specs.Records.{Parts, variable_part, action_part, goal_part, head_of, parts_of}

-- the stage after a record of the kind, where one may stand: variables first, at least one, then actions,
-- then the goal
abbrev pub stage_after : Stage → Kind → Option Stage
stage_after stage.Variables kind.Variable = Some stage.Actions
stage_after stage.Variables kind.Action = None
stage_after stage.Variables kind.Goal = None
stage_after stage.Actions kind.Variable = Some stage.Actions
stage_after stage.Actions kind.Action = Some stage.Goal
stage_after stage.Actions kind.Goal = Some stage.Done
stage_after stage.Goal kind.Variable = None
stage_after stage.Goal kind.Action = Some stage.Goal
stage_after stage.Goal kind.Goal = Some stage.Done
stage_after stage.Done k = None

-- the first fault of atoms that are to be of the bench, in rising order of variable from `floor` on
abbrev pub atoms_fault : List ℕ → ℕ → List Atom → Option Fault
atoms_fault sizes floor [] = None
atoms_fault sizes floor (a ∷ more) =
    cond (nat_lt a.variable (length sizes) && nat_lt a.value (slice_index sizes a.variable))
    (cond (nat_le floor a.variable) (atoms_fault sizes (a.variable + 1) more) (Some NotRising))
    (Some OutsideBench)

-- nothing, or the fault
abbrev pub or_fault : Option Fault → Result (Unit {0}) Fault
or_fault None = Ok tt
or_fault (Some f) = Err f

-- an effect is one of the conditions
abbrev pub repeating : List Atom → List Atom → Bool
repeating conditions effects = some_atom (λ e. some_atom (alike e) conditions) effects

-- the first of two faults
abbrev pub or_else : Option Fault → Option Fault → Option Fault
or_else (Some f) other = Some f
or_else None other = other

-- the first fault of an action within the counts
abbrev pub act_fault : List ℕ → Act → Option Fault
act_fault sizes a =
    cond (nat_le a.tenths 1000000 && nat_le a.presses 1000)
    (cond (length a.effects == 0) (Some NoEffect)
    (or_else (atoms_fault sizes 0 a.conditions)
    (or_else (atoms_fault sizes 0 a.effects)
    (cond (repeating a.conditions a.effects) (Some RepeatsCondition) None))))
    (Some OverLimit)

-- the fault of a variable with n values, after so many others
abbrev pub variable_fault : ℕ → ℕ → Option Fault
variable_fault count n = cond (nat_lt count 64) (cond (nat_le 1 n && nat_le n 32) None (Some ValueCount)) (Some TooMany)

-- there is no room for another action, or it has too many conditions or effects
abbrev pub crowding : ℕ → List Atom → List Atom → Bool
crowding count conditions effects = nat_le 1024 count || (nat_lt 16 (length conditions) || nat_lt 16 (length effects))

-- the first fault of what a record says, after variables of these sizes and so many actions
abbrev pub fault_in : List ℕ → ℕ → Parts → Option Fault
fault_in sizes count (variable_part n) = variable_fault (length sizes) n
fault_in sizes count (action_part a) = cond (crowding count a.conditions a.effects) (Some TooMany) (act_fault sizes a)
fault_in sizes count (goal_part atoms) = atoms_fault sizes 0 atoms

-- the bench with what a record says
abbrev pub grown : Bench → Parts → Bench
grown b (variable_part n) = record { sizes = b.sizes ++ n ∷ []; actions = b.actions; goal = b.goal }
grown b (action_part a) = record { sizes = b.sizes; actions = b.actions ++ a ∷ []; goal = b.goal }
grown b (goal_part atoms) = record { sizes = b.sizes; actions = b.actions; goal = atoms }

-- a value, unless there is a fault
abbrev pub unless : {X : Type 0} → Option Fault → ℕ → X → Result X Refusal
unless (Some f) at x = refuse f at
unless None at x = Ok x

abbrev pub or_refuse : {X : Type 0} → Option X → Fault → ℕ → Result X Refusal
or_refuse (Some x) f at = Ok x
or_refuse None f at = refuse f at

abbrev pub and_then : {X Y : Type 0} → Result X Refusal → (X → Result Y Refusal) → Result Y Refusal
and_then (Ok x) f = f x
and_then (Err e) f = Err e

abbrev pub admitted : Bench → Parts → ℕ → Result Bench Refusal
admitted b p at = unless (fault_in b.sizes (length b.actions) p) at (grown b p)

-- the records so far: what may stand next, and the bench that they give
pub record Reading : Type 0 where
  pub stage : Stage
  pub bench : Bench

abbrev pub reading : Stage → Bench → Reading
reading s b = record { stage = s; bench = b }

-- the reading after a record of the kind with this body
abbrev pub after_record : Reading → Kind → List ℕ → ℕ → Result Reading Refusal
after_record σ k body at =
    and_then (or_refuse (stage_after σ.stage k) OutOfPlace at) (λ s.
    and_then (parts_of k body at) (λ p.
    and_then (admitted σ.bench p at) (λ b. Ok (reading s b))))

-- the reading after the record that stands first in the bytes, and how many bytes it takes
abbrev pub step_of : Reading → List ℕ → ℕ → Result (Reading × ℕ) Refusal
step_of σ bytes at =
    and_then (head_of bytes at) (λ h.
    and_then (after_record σ h.kind (between 4 (4 + h.size) bytes) at) (λ τ. Ok (τ, 4 + h.size)))

-- the reading after the records of the bytes, which are at most as many as the first number
unfoldable pub run : ℕ → Reading → List ℕ → ℕ → Result Reading Refusal
run zero σ bytes at = Ok σ
run (suc n) σ [] at = Ok σ
run (suc n) σ (x ∷ more) at =
    and_then (step_of σ (x ∷ more) at) (λ p. run n p.0 (drop p.1 (x ∷ more)) (at + p.1))

abbrev pub start : Reading
start = record { stage = stage.Variables; bench = record { sizes = []; actions = []; goal = [] } }

-- the bench of a reading that has its goal
abbrev pub finished : Stage → Bench → ℕ → Result Bench Refusal
finished stage.Variables b at = refuse NoGoal at
finished stage.Actions b at = refuse NoGoal at
finished stage.Goal b at = refuse NoGoal at
finished stage.Done b at = Ok b

-- the bench of a book
unfoldable pub parse : List ℕ → Result Bench Refusal
parse book = and_then (run (length book) start book 0) (λ σ. finished σ.stage σ.bench (length book))

-- the bench of a book whose actions go into a table of so many places
abbrev pub fitted : ℕ → Bench → Result Bench Refusal
fitted places b = cond (nat_le (length b.actions) places) (Ok b) (refuse ShortTable 1)

unfoldable pub parse_into : ℕ → List ℕ → Result Bench Refusal
parse_into places book = and_then (parse book) (fitted places)
