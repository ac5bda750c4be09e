-- A session: what a list of calls leads to. The newest call stands first.
use Rattle.std.specs.Prelude.{ℕ, suc, cond, ◌&&◌, List, [], ◌∷◌, map, length, drop, Some, None, Option, ◌==◌, nat_le, nat_lt, slice_index}
use Rattle.task.specs.declared.refusal.Fault.TheVariants.{RowCount, ShortTable, StartOutside, NoPlan, NoStepLeft}
use Rattle.task.specs.declared.refusal.Refusal.{Refusal}
use Rattle.task.specs.Refusals.{refusal}
use Rattle.task.specs.Settings.{outside}
use Rattle.task.specs.Benches.{Bench, act}
use Rattle.tariff.specs.Charges.{Charges, summed}
use Rattle.rules.specs.Marks.{Marking}
use Rattle.search.specs.declared.data.Row.{Row}
use Rattle.search.specs.Rows.{plan_of}
use Rattle.search.specs.Steps.{Quest, problem, State, Outcome, going, at_goal, exhausted, crowded, row_at, advance, first_rows}

-- how many places the lent tables have: 1 actions, 2 rows, 3 queue, 4 plan list, 5 marks, 6 work
pub record Lengths : Type 0 where
  pub actions : ℕ
  pub rows : ℕ
  pub queue : ℕ
  pub plan : ℕ
  pub marks : ℕ
  pub work : ℕ

-- how a search ended: with a plan, its charge and how many of its actions were taken; with no plan; with no row left
pub data End (C : Type 0) : Type 0 where
  found : C → List ℕ → ℕ → End C
  no_plan : End C
  no_row : End C

-- searching: what was asked, the rows, and how many settings were expanded; ended: the same with its end
pub data Phase (C : Type 0) : Type 0 where
  resting : Phase C
  searching : Quest C → List (Row C) → ℕ → Phase C
  ended : Quest C → End C → ℕ → Phase C

-- begin with a start and a bound; advance by some steps under a rule; take the next action; abandon
pub data Call (C : Type 0) : Type 0 where
  beginning : List ℕ → C → Lengths → Call C
  advancing : ℕ → Marking → Lengths → Call C
  taking : Lengths → Call C
  abandoning : Call C

-- the counts are of settings expanded; do-next has the action and the charge of what remains
pub data Answer (C : Type 0) : Type 0 where
  began : Answer C
  working : ℕ → Answer C
  has_found : C → ℕ → Answer C
  has_none : ℕ → Answer C
  is_full : ℕ → Answer C
  do_next : ℕ → C → Answer C
  at_rest : Answer C
  refused : Refusal → Answer C
  out_of_turn : Answer C

-- the charge of a row of actions by number
abbrev pub charge_of : {C : Type 0} → Bench → Charges C → List ℕ → C
charge_of b K numbers = summed K.zero K.plus K.charge (map (act b) numbers)

-- a table that is too short is refused, else what follows decides
abbrev pub short : ℕ → ℕ → ℕ → Option Refusal → Option Refusal
short table need have more = cond (nat_lt have need) (Some (refusal ShortTable table)) more

-- the start, if its values are not sixty-four or one of them lies outside the bench
abbrev pub start_outside : Option ℕ → Option Refusal
start_outside None = None
start_outside (Some v) = Some (refusal StartOutside v)

abbrev pub start_fault : Bench → List ℕ → Option Refusal
start_fault b s = start_outside (cond (length s == 64) (outside b.sizes 0 s) (Some 64))

abbrev pub begin_fault : Bench → List ℕ → Lengths → Option Refusal
begin_fault b s l =
    cond (nat_lt 0 l.rows && nat_le l.rows 65535)
    (short 3 l.rows l.queue (short 4 l.rows l.plan (short 5 (length b.actions) l.marks (short 6 4096 l.work (start_fault b s)))))
    (Some (refusal RowCount 2))

abbrev pub advance_fault : Bench → ℕ → Lengths → Option Refusal
advance_fault b capacity l =
    short 1 (length b.actions) l.actions
    (short 2 capacity l.rows (short 3 capacity l.queue (short 4 capacity l.plan (short 5 (length b.actions) l.marks (short 6 4096 l.work None)))))

-- what a Take lacks besides tables
abbrev pub end_fault : {C : Type 0} → End C → Option Refusal
end_fault (found c plan taken) = cond (nat_lt taken (length plan)) None (Some (refusal NoStepLeft 0))
end_fault no_plan = Some (refusal NoPlan 0)
end_fault no_row = Some (refusal NoPlan 0)

abbrev pub take_fault : {C : Type 0} → Bench → ℕ → End C → Lengths → Option Refusal
take_fault b capacity e l = short 1 (length b.actions) l.actions (short 4 capacity l.plan (end_fault e))

-- a refusal leaves the phase
abbrev pub unless : {C : Type 0} → Option Refusal → Phase C → Phase C × Answer C → Phase C × Answer C
unless None p went = went
unless (Some r) p went = (p, refused r)

module _ {C : Type 0} (b : Bench) (K : Charges C) where
  -- what some steps lead to
  abbrev pub went : Quest C → List (Row C) → ℕ → Outcome → Phase C × Answer C
  went q rows n going = (searching q rows n, working n)
  went q rows n (at_goal i) = (
    ended q (found (row_at (problem b K q) rows i).charge (plan_of K.zero K.le rows i) 0) n,
    has_found (row_at (problem b K q) rows i).charge n,
  )
  went q rows n exhausted = (ended q no_plan n, has_none n)
  went q rows n crowded = (ended q no_row n, is_full n)

  abbrev pub gone : Quest C → State C → Phase C × Answer C
  gone q st = went q st.rows st.count st.outcome

  -- one action taken of a plan
  abbrev pub taken : Quest C → End C → ℕ → Phase C × Answer C
  taken q (found c plan k) n = (ended q (found c plan (suc k)) n, do_next (slice_index plan k) (charge_of b K (drop (suc k) plan)))
  taken q no_plan n = (ended q no_plan n, out_of_turn)
  taken q no_row n = (ended q no_row n, out_of_turn)

  -- the phase and the answer after a call
  abbrev pub after : Phase C → Call C → Phase C × Answer C
  after resting (beginning s bound l) =
      let q : Quest C = record { start = s; bound = bound; capacity = l.rows } in
      unless (begin_fault b s l) resting (searching q (first_rows (problem b K q)) 0, began)
  after resting (advancing k m l) = (resting, out_of_turn)
  after resting (taking l) = (resting, out_of_turn)
  after resting abandoning = (resting, out_of_turn)
  after (searching q rows n) (beginning s bound l) = (searching q rows n, out_of_turn)
  after (searching q rows n) (advancing k m l) = unless (advance_fault b q.capacity l) (searching q rows n) (gone q (advance (problem b K q) (m.marks b) k rows n))
  after (searching q rows n) (taking l) = (searching q rows n, out_of_turn)
  after (searching q rows n) abandoning = (resting, at_rest)
  after (ended q e n) (beginning s bound l) = (ended q e n, out_of_turn)
  after (ended q e n) (advancing k m l) = (ended q e n, out_of_turn)
  after (ended q e n) (taking l) = unless (take_fault b q.capacity e l) (ended q e n) (taken q e n)
  after (ended q e n) abandoning = (resting, at_rest)

  -- the phase that a list of calls leaves
  abbrev pub state : List (Call C) → Phase C
  state [] = resting
  state (call ∷ older) = (after (state older) call).0

  -- the answer to a call after a list of calls
  abbrev pub answer : List (Call C) → Call C → Answer C
  answer older call = (after (state older) call).1
