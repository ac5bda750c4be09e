-- What is promised of every list of calls.
use Rattle.std.specs.Prelude.{◌≡◌, ℕ, suc, ◌+◌, ◌<◌, ◌≤◌, Bool, true, false, cond, ◌&&◌, ◌||◌, ◌⊎◌, ◌↔◌, List, [], ◌∷◌, length, take, drop, Some, None, Option, ◌≢◌}
use Rattle.std.specs.List.{AllByRecursion}
use Rattle.task.specs.Benches.{Bench, World, world, Plan}
use Rattle.tariff.specs.Charges.{Charges}
use Rattle.rules.specs.Marks.{Marking}
use Rattle.search.specs.Steps.{Quest}
use Rattle.search.specs.Session.{Phase, resting, searching, ended, End, found, no_plan, no_row, Call, beginning, advancing, taking, abandoning, Answer, began, working, has_found, has_none, is_full, do_next, at_rest, refused, out_of_turn, charge_of, state, answer}

-- the count that an answer has
abbrev pub count_of : {C : Type 0} → Answer C → Option ℕ
count_of began = None
count_of (working n) = Some n
count_of (has_found c n) = Some n
count_of (has_none n) = Some n
count_of (is_full n) = Some n
count_of (do_next k c) = None
count_of at_rest = None
count_of (refused r) = None
count_of out_of_turn = None

-- an Advance that was accepted: its steps and its rule
pub record Accepted : Type 0 where
  pub steps : ℕ
  pub rule : Marking

-- one more, if a count was answered
abbrev pub with_one : Accepted → List Accepted → Option ℕ → List Accepted
with_one new all None = all
with_one new all (Some n) = new ∷ all

abbrev pub since : {C : Type 0} → Call C → List Accepted → Option ℕ → List Accepted
since (beginning s bound l) all n = all
since (advancing k m l) all n = with_one (record { steps = k; rule = m }) all n
since (taking l) all n = all
since abandoning all n = []

-- the answer that a search began
abbrev pub starts : {C : Type 0} → Answer C → Bool
starts began = true
starts (working n) = false
starts (has_found c n) = false
starts (has_none n) = false
starts (is_full n) = false
starts (do_next k c) = false
starts at_rest = false
starts (refused r) = false
starts out_of_turn = false

-- what the present search was asked, after one more call
abbrev pub asked_by : {C : Type 0} → Call C → Answer C → Option (Quest C) → Option (Quest C)
asked_by (beginning s bound l) a old = cond (starts a) (Some (record { start = s; bound = bound; capacity = l.rows })) old
asked_by (advancing k m l) a old = old
asked_by (taking l) a old = old
asked_by abandoning a old = None

-- how many steps they asked for together
abbrev pub asked : List Accepted → ℕ
asked [] = 0
asked (a ∷ more) = a.steps + asked more

-- the action is marked by the rule of one of them; by the rule of each
abbrev pub marked : Bench → List Accepted → List ℕ → ℕ → Bool
marked b [] s k = false
marked b (a ∷ more) s k = a.rule.marks b s k || marked b more s k

abbrev pub marked_by_each : Bench → List Accepted → List ℕ → ℕ → Bool
marked_by_each b [] s k = true
marked_by_each b (a ∷ more) s k = a.rule.marks b s k && marked_by_each b more s k

-- each action is marked and applicable in its turn, and they lead to t
abbrev pub Leads : World (List ℕ) → (List ℕ → ℕ → Bool) → List ℕ → List ℕ → List ℕ → Type 0
Leads W marks s [] t = s ≡ t
Leads W marks s (k ∷ more) t = (marks s k ≡ true) × (W.can s k ≡ true) × Leads W marks (W.next s k) more t

-- the setting that some actions lead to
abbrev pub led : World (List ℕ) → List ℕ → List ℕ → List ℕ
led W s [] = s
led W s (k ∷ more) = led W (W.next s k) more

-- no setting twice
abbrev pub Apart : List (List ℕ) → Type 0
Apart [] = Unit {0}
Apart (s ∷ more) = AllByRecursion (λ t. s ≢ t) more × Apart more

-- the setting is in the list
abbrev pub Listed : List ℕ → List (List ℕ) → Type 0
Listed t [] = ⊥
Listed t (s ∷ more) = (s ≡ t) ⊎ Listed t more

-- a fact of each call of a list, and the calls before it
abbrev pub Along : {C : Type 0} → (List (Call C) → Call C → Type 0) → List (Call C) → Type 0
Along fact [] = Unit {0}
Along fact (call ∷ older) = fact older call × Along fact older

-- what the present search was asked, while it goes on
abbrev pub in_search : {C : Type 0} → Phase C → Option (Quest C)
in_search resting = None
in_search (searching q held n) = Some q
in_search (ended q e n) = None

-- what the present search is asked, or was
abbrev pub quest_of : {C : Type 0} → Phase C → Option (Quest C)
quest_of resting = None
quest_of (searching q held n) = Some q
quest_of (ended q e n) = Some q

-- what remains of the plan in hand
abbrev pub remaining : {C : Type 0} → Phase C → List ℕ
remaining resting = []
remaining (searching q held n) = []
remaining (ended q (found c plan k) n) = drop k plan
remaining (ended q no_plan n) = []
remaining (ended q no_row n) = []

-- how many steps were asked for before the last of them
abbrev pub asked_before : List Accepted → ℕ
asked_before [] = 0
asked_before (a ∷ more) = asked more

module _ {C : Type 0} (b : Bench) (K : Charges C) where
  -- the Advances accepted in the present search
  abbrev pub accepted : List (Call C) → List Accepted
  accepted [] = []
  accepted (call ∷ older) = since call (accepted older) (count_of (answer b K older call))

  -- what the last Begin that was accepted asked for, until the search is abandoned
  abbrev pub begun : List (Call C) → Option (Quest C)
  begun [] = None
  begun (call ∷ older) = asked_by call (answer b K older call) (begun older)

  -- a plan from s, and no plan from there costs less
  pub record Cheapest (s plan : List ℕ) : Type 0 where
    pub is_plan : Plan (world b) s plan
    pub least : (other : List ℕ) → Plan (world b) s other → K.le (charge_of b K plan) (charge_of b K other) ≡ true

  -- the setting is reached from the start within the bound: by actions each offered in its turn, that is
  -- marked and applicable, whose charges sum to at most the bound
  pub record Within (marks : List ℕ → ℕ → Bool) (q : Quest C) (t : List ℕ) : Type 0 where
    pub way : List ℕ
    pub leads : Leads (world b) marks q.start way t
    pub within : K.le (charge_of b K way) q.bound ≡ true

  -- more settings are reached within the bound than there are rows
  pub record Crowded (marks : List ℕ → ℕ → Bool) (q : Quest C) : Type 0 where
    pub settings : List (List ℕ)
    pub more : q.capacity < length settings
    pub apart : Apart settings
    pub each : AllByRecursion (Within marks q) settings

  -- n different settings, each reached within the bound
  pub record Expanded (marks : List ℕ → ℕ → Bool) (q : Quest C) (n : ℕ) : Type 0 where
    pub settings : List (List ℕ)
    pub number : n ≡ length settings
    pub apart : Apart settings
    pub each : AllByRecursion (Within marks q) settings

  -- no plan from the start costs at most the bound
  abbrev pub NoPlanWithin : Quest C → Type 0
  NoPlanWithin q = (plan : List ℕ) → Plan (world b) q.start plan → K.le (charge_of b K plan) q.bound ≢ true

  -- the charge answered with a plan, and with what remains of it after an action, is its own
  abbrev pub Owned : Phase C → Phase C → Answer C → Type 0
  Owned before now began = Unit {0}
  Owned before now (working n) = Unit {0}
  Owned before now (has_found c n) = c ≡ charge_of b K (remaining now)
  Owned before now (has_none n) = Unit {0}
  Owned before now (is_full n) = Unit {0}
  Owned before now (do_next k c) = (remaining before ≡ k ∷ remaining now) × (c ≡ charge_of b K (remaining now))
  Owned before now at_rest = Unit {0}
  Owned before now (refused r) = Unit {0}
  Owned before now out_of_turn = Unit {0}

  -- each answer tells the phase that it leaves; a refusal leaves it as it was
  abbrev pub Tells : Phase C → Phase C → Answer C → Type 0
  Tells before now began = (q : Quest C) × (in_search now ≡ Some q)
  Tells before now (working n) = (q : Quest C) × (in_search now ≡ Some q)
  Tells before now (has_found c n) = (q : Quest C) × (plan : List ℕ) × (now ≡ ended q (found c plan 0) n)
  Tells before now (has_none n) = (q : Quest C) × (now ≡ ended q no_plan n)
  Tells before now (is_full n) = (q : Quest C) × (now ≡ ended q no_row n)
  Tells before now (do_next k c) = (q : Quest C) × (d : C) × (plan : List ℕ) × (j : ℕ) × (n : ℕ) × (before ≡ ended q (found d plan j) n) × (now ≡ ended q (found d plan (suc j)) n)
  Tells before now at_rest = now ≡ resting
  Tells before now (refused r) = now ≡ before
  Tells before now out_of_turn = now ≡ before

  -- the setting is the start, or one offered action leads to it from one of the settings
  abbrev pub Beside : (List ℕ → ℕ → Bool) → Quest C → List (List ℕ) → List ℕ → Type 0
  Beside marks q settings t = (q.start ≡ t) ⊎ ((s : List ℕ) × (k : ℕ) × Listed s settings × (marks s k ≡ true) × ((world b).can s k ≡ true) × ((world b).next s k ≡ t))

  -- more different settings lie beside these than there are rows
  pub record Spilled (marks : List ℕ → ℕ → Bool) (q : Quest C) (settings : List (List ℕ)) : Type 0 where
    pub around : List (List ℕ)
    pub more : q.capacity < length around
    pub apart : Apart around
    pub each : AllByRecursion (Beside marks q settings) around

  -- these settings are enough for the end. With a plan: all that is reached for less than it costs; with none: all
  -- that is reached within the bound, both by actions that each rule marks; with no row left: so many that what
  -- lies beside them does not fit
  abbrev pub Enough : List Accepted → Quest C → End C → List (List ℕ) → Type 0
  Enough all q (found c plan k) settings = (t way : List ℕ) → Leads (world b) (marked_by_each b all) q.start way t → K.le c (charge_of b K way) ≡ false → Listed t settings
  Enough all q no_plan settings = (t : List ℕ) → Within (marked_by_each b all) q t → Listed t settings
  Enough all q no_row settings = Spilled (marked b all) q settings

  -- a count answered is the number of different settings expanded so far: one for each step while the
  -- search goes on, and at its end no more than the steps and no less than those before the last Advance
  abbrev pub Counted : List Accepted → Phase C → Option ℕ → Type 0
  Counted all p None = Unit {0}
  Counted all resting (Some n) = ⊥
  Counted all (searching q held m) (Some n) = (n ≡ asked all) × Expanded (marked b all) q n
  Counted all (ended q e m) (Some n) = (asked_before all ≤ n) × (n ≤ asked all) × ((x : Expanded (marked b all) q n) × Enough all q e x.settings)

  pub record Promise (calls : List (Call C)) : Type 0 where
    -- the search is the one that was begun: its start, its bound, its rows
    pub as_begun : quest_of (state b K calls) ≡ begun calls
    -- each answer tells the phase that it leaves
    pub tells : Along (λ older call. Tells (state b K older) (state b K (call ∷ older)) (answer b K older call)) calls
    -- what remains of a plan in hand is a plan from the present setting, and no plan from there costs less
    pub cheapest : (q : Quest C) (c : C) (plan : List ℕ) (k n : ℕ) → state b K calls ≡ ended q (found c plan k) n → Cheapest (led (world b) q.start (take k plan)) (drop k plan)
    -- each charge answered with a plan, or with what remains of it, is its own
    pub own_charge : Along (λ older call. Owned (state b K older) (state b K (call ∷ older)) (answer b K older call)) calls
    -- a search that ended with no plan or with one ended with none exactly when no plan costs at most the bound
    pub denied_rightly : (q : Quest C) (e : End C) (n : ℕ) → state b K calls ≡ ended q e n → (e ≢ no_row) → (e ≡ no_plan) ↔ NoPlanWithin q
    -- a plan found costs at most the bound
    pub within : (q : Quest C) (c : C) (plan : List ℕ) (k n : ℕ) → state b K calls ≡ ended q (found c plan k) n → K.le (charge_of b K plan) q.bound ≡ true
    -- a search ended full only if offered actions reach more settings within the bound than it has rows
    pub full : (q : Quest C) (n : ℕ) → state b K calls ≡ ended q no_row n → Crowded (marked b (accepted calls)) q
    -- a search whose accepted steps add up to its rows, or more, has ended
    pub ends : (q : Quest C) → in_search (state b K calls) ≡ Some q → asked (accepted calls) < q.capacity
    -- each count answered is the number of different settings its search has expanded so far
    pub counts : Along (λ older call. Counted (accepted (call ∷ older)) (state b K (call ∷ older)) (count_of (answer b K older call))) calls
