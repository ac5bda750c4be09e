-- How a list of calls leaves a planner's phase and tables, and what each call comes to.
use Rattle.std.specs.Prelude.{◌≡◌, ℕ, ◌+◌, ◌<◌, ◌≤◌, false, List, [], ◌∷◌, map, length, take, drop, Some, None, Ok, Err, Option, Result, slice_index}
use Rattle.std.specs.List.{between}
use Rattle.std.specs.Borrow.{MutBor}
use Rattle.std.specs.Result.{result_unwrap_or}
use Rattle.task.specs.declared.data.Action.{Action}
use Rattle.task.specs.declared.data.Task.{Task}
use Rattle.task.specs.declared.refusal.Refusal.{Refusal}
use Rattle.task.specs.Settings.{listed}
use Rattle.task.specs.Benches.{Act, act_of, Bench, bench_of}
use Rattle.tariff.specs.Charges.{Charges}
use Rattle.tariff.specs.Totals.{totalled}
use Rattle.rules.specs.Marks.{Marking, Zeros}
use Rattle.search.specs.declared.checks.Lengths as declared
use Rattle.search.specs.declared.checks.Table.{Table}
use Rattle.search.specs.declared.checks.Table.TheVariants as table
use Rattle.search.specs.declared.data.Row.{Row}
use Rattle.search.specs.declared.entry.Entry.{Entry}
use Rattle.search.specs.declared.phase.Asked.{Asked}
use Rattle.search.specs.declared.phase.Tables.{Tables}
use Rattle.search.specs.declared.phase.Rest.{Rest}
use Rattle.search.specs.declared.phase.Search.{Search}
use Rattle.search.specs.declared.phase.Ending.{Ending}
use Rattle.search.specs.declared.phase.Ending.TheVariants.{Found, NoPlan, Full}
use Rattle.search.specs.declared.phase.Ended.{Ended}
use Rattle.search.specs.declared.phase.Advanced.{Advanced}
use Rattle.search.specs.declared.phase.Advanced.TheVariants as advanced
use Rattle.search.specs.declared.phase.Taken.{Taken}
use Rattle.search.specs.declared.phase.Refused.{Refused}
use Rattle.search.specs.Counts.{posed}
use Rattle.search.specs.Lined.{Lined}
use Rattle.search.specs.Rows.{plan_of}
use Rattle.search.specs.Steps.{Quest, State, Outcome, going, at_goal, exhausted, crowded, problem, advance}
use Rattle.search.specs.Session.{Lengths, End, found, no_plan, no_row, resting, searching, ended, Call, abandoning, began, working, has_found, has_none, is_full, do_next, at_rest, refused, state, answer}
use Rattle.search.specs.Promise.{Promise}

-- the lengths of the tables lent: 1 actions, 2 rows, 3 queue, 4 plan list, 5 marks, 6 work
abbrev pub lengths : ℕ → ℕ → ℕ → ℕ → ℕ → ℕ → Lengths
lengths actions rows queue plan marks work = record { actions = actions; rows = rows; queue = queue; plan = plan; marks = marks; work = work }

-- the lengths of the actions' table and of those beside it
abbrev pub many : ℕ → declared.Lengths → Lengths
many actions l = lengths actions l.rows l.queue l.plan l.marks l.work

-- the lengths of the actions' table and of the tables lent beside it
abbrev pub lent : {C : Type 0} → ℕ → Tables C → Lengths
lent actions t = lengths actions (length t.rows.now) (length t.queue.now) (length t.plan.now) (length t.marks.now) (length t.work.now)

-- the tables that were lent, as a call leaves them
abbrev pub Returned : Type 0 → Type 0
Returned C = MutBor (List (Row C)) × (MutBor (List (Entry C)) × (MutBor (List ℕ) × (MutBor (List ℕ) × (MutBor (List ℕ) × Unit {0}))))

-- what the tables hold beside the actions
pub record Contents (C : Type 0) : Type 0 where
  pub rows : List (Row C)
  pub queue : List (Entry C)
  pub plan : List ℕ
  pub marks : List ℕ
  pub work : List ℕ

-- when they are lent, and when they are returned
abbrev pub on_entry : {C : Type 0} → Tables C → Contents C
on_entry t = record { rows = t.rows.now; queue = t.queue.now; plan = t.plan.now; marks = t.marks.now; work = t.work.now }

abbrev pub on_exit : {C : Type 0} → Returned C → Contents C
on_exit r = record { rows = r.0.now; queue = r.1.0.now; plan = r.1.1.0.now; marks = r.1.1.1.0.now; work = r.1.1.1.1.0.now }

-- each table holds what it held
pub record Untouched {C : Type 0} (old new : Contents C) : Type 0 where
  pub rows : new.rows ≡ old.rows
  pub queue : new.queue ≡ old.queue
  pub plan : new.plan ≡ old.plan
  pub marks : new.marks ≡ old.marks
  pub work : new.work ≡ old.work

-- the number by which a refusal names a table
abbrev pub table_number : Table → ℕ
table_number table.Actions = 1
table_number table.Rows = 2
table_number table.Queue = 3
table_number table.Plan = 4
table_number table.Marks = 5
table_number table.Work = 6

-- the bench is one of the task: its sizes, its goal, and as many actions. Each task has one
pub record OfTask (task : Task) (b : Bench) : Type 0 where
  pub sizes : b.sizes ≡ take task.variables task.sizes
  pub goal : b.goal ≡ listed task.goal
  pub number : length b.actions ≡ task.actions

-- a table that is long enough holds the bench's actions
abbrev pub ActionsLent : Task → Bench → List Action → Type 0
ActionsLent task b table = task.actions ≤ length table → bench_of task table ≡ b

-- the refusal, if there was one
abbrev pub refusal_of : {X P : Type 0} → Result X (Refused P) → Option Refusal
refusal_of (Ok x) = None
refusal_of (Err r) = Some r.refusal

-- a refusal gives the phase back, and what is said to stay stays
abbrev pub GivenBack : {X P : Type 0} → P → Type 0 → Result X (Refused P) → Type 0
GivenBack phase stays (Ok x) = Unit {0}
GivenBack phase stays (Err r) = (r.phase ≡ phase) × stays

-- what holds of a result that is no refusal
abbrev pub IfDone : {X P : Type 0} → (X → Type 0) → Result X P → Type 0
IfDone fact (Ok x) = fact x
IfDone fact (Err r) = Unit {0}

-- the first n bytes are zero, and those past them as they were
pub record Cleared (n : ℕ) (before now : List ℕ) : Type 0 where
  pub zeros : Zeros (take n now)
  pub rest : drop n now ≡ drop n before

-- the first places hold the list, and those past them what they held
pub record Written {X : Type 0} (list before now : List X) : Type 0 where
  pub first : take (length list) now ≡ list
  pub rest : drop (length list) now ≡ drop (length list) before

-- what a search is asked
abbrev pub wanted : {C : Type 0} → Asked C → Quest C
wanted a = posed a.start a.limits

-- what is asked of the search
abbrev pub quest : {C : Type 0} → Search C → Quest C
quest s = wanted s.asked

-- what was asked of a search that ended
abbrev pub old_quest : {C : Type 0} → Ended C → Quest C
old_quest e = wanted e.asked

-- the end, with the plan and how many of its actions were taken
abbrev pub end_of : {C : Type 0} → Ending C → List ℕ → ℕ → End C
end_of (Found c) plan taken = found c plan taken
end_of NoPlan plan taken = no_plan
end_of Full plan taken = no_row

-- the plan that some steps found, or none
abbrev pub plan_at : {C : Type 0} → Charges C → List (Row C) → Outcome → List ℕ
plan_at K rows going = []
plan_at K rows (at_goal i) = plan_of K.zero K.le rows i
plan_at K rows exhausted = []
plan_at K rows crowded = []

abbrev pub plan_found : {C : Type 0} → Charges C → State C → List ℕ
plan_found K st = plan_at K st.rows st.outcome

module _ {C : Type 0} (b : Bench) (K : Charges C) where
  -- The list of calls leaves the planner at rest, whatever the tables hold.
  pub record LeftRest (calls : List (Call C)) (rest : Rest) : Type 0 where
    pub task : OfTask rest.task b
    pub is : state b K calls ≡ resting

  -- The list of calls leaves the search so: its numbers and rows are those of the phase that the calls lead
  -- to. Each table that is long enough for the search holds in its first places what belongs there: the
  -- rows; the queue of the open ones; zeros in marks and work.
  pub record LeftSearch (calls : List (Call C)) (s : Search C) (t : Contents C) : Type 0 where
    pub task : OfTask s.asked.task b
    pub held : List (Row C)
    pub is : state b K calls ≡ searching (quest s) held s.expanded
    pub number : length held ≡ s.sizes.used
    pub in_rows : s.asked.limits.capacity ≤ length t.rows → take s.sizes.used t.rows ≡ held
    pub in_queue : s.asked.limits.capacity ≤ length t.queue → Lined K.le held s.sizes.waiting t.queue
    pub in_marks : s.asked.task.actions ≤ length t.marks → Zeros (take s.asked.task.actions t.marks)
    pub in_work : 4096 ≤ length t.work → Zeros (take 4096 t.work)

  -- The list of calls leaves the ended search so: its numbers are those of the phase that the calls lead to,
  -- and a plan list that is long enough begins with the plan.
  pub record LeftEnded (calls : List (Call C)) (e : Ended C) (list : List ℕ) : Type 0 where
    pub task : OfTask e.asked.task b
    pub plan : List ℕ
    pub is : state b K calls ≡ ended (old_quest e) (end_of e.ending plan e.taken) e.expanded
    pub number : length plan ≡ e.planned
    pub in_list : e.asked.limits.capacity ≤ length list → take e.planned list ≡ plan

  -- what a Begin comes to
  abbrev pub Began : List (Call C) → Call C → Result (Search C) (Refused Rest) → Contents C → Type 0
  Began calls call (Ok s) t = (answer b K calls call ≡ began) × LeftSearch (call ∷ calls) s t × Promise b K (call ∷ calls)
  Began calls call (Err r) t = (answer b K calls call ≡ refused r.refusal) × LeftRest (call ∷ calls) r.phase × Promise b K (call ∷ calls)

  -- what an Advance comes to
  abbrev pub Went : List (Call C) → Call C → Result (Advanced C) (Refused (Search C)) → Contents C → Type 0
  Went calls call (Ok (advanced.Working s n)) t = (answer b K calls call ≡ working n) × LeftSearch (call ∷ calls) s t × Promise b K (call ∷ calls)
  Went calls call (Ok (advanced.Found e c n)) t = (answer b K calls call ≡ has_found c n) × LeftEnded (call ∷ calls) e t.plan × Promise b K (call ∷ calls)
  Went calls call (Ok (advanced.NoPlan e n)) t = (answer b K calls call ≡ has_none n) × LeftEnded (call ∷ calls) e t.plan × Promise b K (call ∷ calls)
  Went calls call (Ok (advanced.Full e n)) t = (answer b K calls call ≡ is_full n) × LeftEnded (call ∷ calls) e t.plan × Promise b K (call ∷ calls)
  Went calls call (Err r) t = (answer b K calls call ≡ refused r.refusal) × LeftSearch (call ∷ calls) r.phase t × Promise b K (call ∷ calls)

  -- the tables after some steps: the rows that the steps lead to, the plan that was found, and zeros in marks
  -- and work; the places past these hold what they held, and the queue is free
  pub record Stepped (s : Search C) (m : Marking) (k : ℕ) (held : List (Row C)) (old new : Contents C) : Type 0 where
    pub in_rows : Written (advance (problem b K (quest s)) (m.marks b) k held s.expanded).rows old.rows new.rows
    pub in_plan : Written (plan_found K (advance (problem b K (quest s)) (m.marks b) k held s.expanded)) old.plan new.plan
    pub no_marks : Cleared s.asked.task.actions old.marks new.marks
    pub no_work : Cleared 4096 old.work new.work

  -- what a Take comes to
  abbrev pub Took : List (Call C) → Call C → Result (Taken C) (Refused (Ended C)) → List ℕ → Type 0
  Took calls call (Ok t) list = (answer b K calls call ≡ do_next t.action t.remaining) × LeftEnded (call ∷ calls) t.ended list × Promise b K (call ∷ calls)
  Took calls call (Err r) list = (answer b K calls call ≡ refused r.refusal) × LeftEnded (call ∷ calls) r.phase list × Promise b K (call ∷ calls)

  -- what an Abandon comes to
  abbrev pub Abandoned : List (Call C) → Rest → Type 0
  Abandoned calls rest = (answer b K calls abandoning ≡ at_rest) × LeftRest (abandoning ∷ calls) rest × Promise b K (abandoning ∷ calls)

-- row 0: the start at zero charge, open
abbrev pub first_row : {C : Type 0} → C → List ℕ → Row C
first_row zero start = record { setting = start; charge = zero; closed = false; origin = 0; action = 0 }

-- A search that began: it has what was asked, and as many rows as the row table. Row 0 is written, marks and
-- work are cleared, and the plan list stays; the queue is free.
pub record Laid {C : Type 0} (rest : Rest) (zero : C) (start : List ℕ) (bound : C) (s : Search C) (old new : Contents C) : Type 0 where
  pub task : s.asked.task ≡ rest.task
  pub asked : quest s ≡ record { start = start; bound = bound; capacity = length old.rows }
  pub first : Written (first_row zero start ∷ []) old.rows new.rows
  pub plan_stays : new.plan ≡ old.plan
  pub no_marks : Cleared rest.task.actions old.marks new.marks
  pub no_work : Cleared 4096 old.work new.work

-- Places past the rows of the search and past the work bytes hold what they held, whatever the tables hold.
pub record Kept {C : Type 0} (s : Search C) (old new : Contents C) : Type 0 where
  pub past_rows : drop s.asked.limits.capacity new.rows ≡ drop s.asked.limits.capacity old.rows
  pub past_plan : drop s.asked.limits.capacity new.plan ≡ drop s.asked.limits.capacity old.plan
  pub no_marks : Cleared s.asked.task.actions old.marks new.marks
  pub past_work : drop 4096 new.work ≡ drop 4096 old.work

-- a sum, or the greatest charge where there is none
abbrev pub sum_or_most : {C : Type 0} → Charges C → List Act → List ℕ → C
sum_or_most K acts numbers = result_unwrap_or (totalled K acts numbers K.greatest) K.greatest

-- a plan was found, and an action of it is left
pub record HasLeft {C : Type 0} (how : Ending C) (planned taken : ℕ) : Type 0 where
  pub charge : C
  pub has : how ≡ Found charge
  pub left : taken < planned

-- a Take is not refused: an action is left, and the two tables are long enough
pub record CanTake {C : Type 0} (e : Ended C) (actions plan : ℕ) : Type 0 where
  pub step : HasLeft e.ending e.planned e.taken
  pub in_actions : e.asked.task.actions ≤ actions
  pub in_plan : e.asked.limits.capacity ≤ plan

-- An action that was taken: it is the next of the plan list, and of the phase only the number of actions taken
-- changes. What remains is charged by its actions in the lent table.
pub record Next {C : Type 0} (K : Charges C) (e : Ended C) (table : List Action) (list : List ℕ) (t : Taken C) : Type 0 where
  pub task : t.ended.asked.task ≡ e.asked.task
  pub asked : old_quest t.ended ≡ old_quest e
  pub ending : t.ended.ending ≡ e.ending
  pub expanded : t.ended.expanded ≡ e.expanded
  pub planned : t.ended.planned ≡ e.planned
  pub one_more : t.ended.taken ≡ e.taken + 1
  pub action : t.action ≡ slice_index list e.taken
  pub remaining : t.remaining ≡ sum_or_most K (map act_of (take e.asked.task.actions table)) (between (e.taken + 1) e.planned list)
