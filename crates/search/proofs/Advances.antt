-- What a number of steps comes to.
use Rattle.std.proofs.Common.{◌≡◌, ℕ, zero, suc, ◌+◌, ◌<◌, ◌≤◌, Bool, true, false, cond, List, Some, None, filter, Option, refl, inl, inr, arith}
use Rattle.search.specs.declared.data.Row.{Row}
use Rattle.search.specs.Rows.{Swept, on, over, blank, plan_of}
use Rattle.search.specs.Steps.{Problem, row_at, expand, Outcome, going, at_goal, exhausted, crowded, State, look, carry, decide, advance}
use Rattle.search.specs.Promise.{Leads, Listed}
use Rattle.search.proofs.Sums.{never, not_le, total}
use Rattle.search.proofs.Traces.{Wider}
use Rattle.search.proofs.RowFacts.{IsLeast, Least, least_is, shuts_lt}
use Rattle.search.proofs.Invariant.{Sane, Inv}
use Rattle.search.proofs.Expansion.{Guides, Known, Result, expand_keeps}
use Rattle.search.proofs.Ends.{settings, Best, best_found, NoneWithin, none_within, Near, TooManyRows, too_many, Spill, spill, Tally, tally, swallowed_by}

module _ {C : Type 0} (P : Problem C) (Proper : List ℕ → Type 0) where
  -- all that is reached for less than c is there
  abbrev pub CheaperThere : (List ℕ → ℕ → Bool) → C → List (List ℕ) → Type 0
  CheaperThere every c all = (t way : List ℕ) → Leads P.world every P.quest.start way t → P.charges.le c (total P.charges P.act way) ≡ false → Listed t all

  -- all that is reached within the bound is there
  abbrev pub AllThere : (List ℕ → ℕ → Bool) → List (List ℕ) → Type 0
  AllThere every all = (t : List ℕ) → Near P Proper every t → Listed t all

  -- what is known of rows, of which m were expanded: by k steps from n, as it stands
  abbrev pub Says : (some every : List ℕ → ℕ → Bool) → ℕ → ℕ → List (Row C) → ℕ → Outcome → Type 0
  Says some every n k rows m going = (m ≡ n + k) × (m < P.quest.capacity) × Known P Proper some every m rows
  Says some every n k rows m (at_goal i) = Best P Proper (row_at P rows i).charge (plan_of P.charges.zero P.charges.le rows i) × Tally P Proper some m (CheaperThere every (row_at P rows i).charge)
  Says some every n k rows m exhausted = NoneWithin P Proper × Tally P Proper some m (AllThere every)
  Says some every n k rows m crowded = TooManyRows P Proper some × Tally P Proper some m (Spill P Proper some)

  pub record Ran (some every : List ℕ → ℕ → Bool) (n k : ℕ) (st : State C) : Type 0 where
    pub low : n ≤ st.count
    pub high : st.count ≤ n + k
    pub says : Says some every n k st.rows st.count st.outcome
    pub level : C
    pub inv : Inv P Proper some st.rows level

  cheaper_there : {some every : List ℕ → ℕ → Bool} {n : ℕ} (rows : List (Row C)) (i : ℕ) → Known P Proper some every n rows → IsLeast P.charges rows i
      → CheaperThere every (row_at P rows i).charge (settings (filter (λ r. r.closed) rows))
  cheaper_there rows i v o t way h less =
      let K = P.charges in
      let w = K.le_trans _ _ _ (not_le K _ _ less) (v.inv.within i o.low) in
      elim (swallowed_by P Proper rows v way t h w) [ inl q ↦ q | inr m ↦ absurd (never (K.le_trans _ _ _ (o.least' m.at m.low m.waits) m.cheap) less) ]

  all_there : {some every : List ℕ → ℕ → Bool} {n : ℕ} (rows : List (Row C)) → Known P Proper some every n rows → Least P.charges rows None → AllThere every (settings (filter (λ r. r.closed) rows))
  all_there rows v o t near = elim (swallowed_by P Proper rows v near.way t near.leads near.within) [ inl q ↦ q | inr m ↦ absurd (never (o m.at m.low) m.waits) ]

  -- a search whose last steps were k more
  pub more_steps : {some every : List ℕ → ℕ → Bool} {n k : ℕ} (st : State C) → Ran some every (suc n) k st → Ran some every n (suc k) st
  more_steps {some} {every} {n} {k} st r = record { low = omega (arith, r.low); high = omega (arith, r.high); says = at st.outcome r.says; level = r.level; inv = r.inv }
    where
      at : (o : Outcome) → Says some every (suc n) k st.rows st.count o → Says some every n (suc k) st.rows st.count o
      at going h = (omega (arith, h.0), h.1, h.2)
      at (at_goal i) h = h
      at exhausted h = h
      at crowded h = h

  module _ (some every marks : List ℕ → ℕ → Bool) (sane : Sane P Proper) (guides : Guides P Proper marks) (wider : Wider marks some) (wide : Wider every marks) where
    goal_says : (n k : ℕ) (rows : List (Row C)) (i : ℕ) → Known P Proper some every n rows → IsLeast P.charges rows i → P.world.goal (row_at P rows i).setting ≡ true → Ran some every n k (record { rows = rows; count = n; outcome = at_goal i })
    goal_says n k rows i v o e = record {
      low = omega arith;
      high = omega arith;
      says = (best_found P Proper rows i v o e, tally P Proper rows v.inv v.shut_are (cheaper_there rows i v o));
      level = v.level;
      inv = v.inv;
    }

    none_says : (n k : ℕ) (rows : List (Row C)) → Known P Proper some every n rows → Least P.charges rows None → Ran some every n k (record { rows = rows; count = n; outcome = exhausted })
    none_says n k rows v o = record {
      low = omega arith;
      high = omega arith;
      says = (none_within P Proper rows v o, tally P Proper rows v.inv v.shut_are (all_there rows v o));
      level = v.level;
      inv = v.inv;
    }

    look_ran : (n : ℕ) (rows : List (Row C)) → Known P Proper some every n rows → (o : Option ℕ) → Least P.charges rows o → Ran some every n 0 (record { rows = rows; count = n; outcome = look P rows o })
    look_ran n rows v None h = none_says n 0 rows v h
    look_ran n rows v (Some i) h = by (P.world.goal (row_at P rows i).setting) refl
      where
        by : (b : Bool) → P.world.goal (row_at P rows i).setting ≡ b → Ran some every n 0 (record { rows = rows; count = n; outcome = cond b (at_goal i) going })
        by true e = goal_says n 0 rows i v h e
        by false e = record {
          low = omega arith;
          high = omega arith;
          says = (omega arith, omega (arith, shuts_lt rows i (blank P.charges.zero P.charges.le) h.low h.waits, v.inv.fits, v.shut_are), v);
          level = v.level;
          inv = v.inv;
        }

    carry_ran : (k : ℕ) (next : List (Row C) → ℕ → State C) → ((rows : List (Row C)) (n : ℕ) → Known P Proper some every n rows → Ran some every n k (next rows n)) → (n : ℕ) (w : Swept C) → Result P Proper some every (suc n) w
        → Ran some every n (suc k) (carry P next n w)
    carry_ran k next ran n (on rows) r = more_steps (next rows (suc n)) (ran rows (suc n) r)
    carry_ran k next ran n (over rows) r = record {
      low = omega arith;
      high = omega arith;
      says = (too_many P Proper rows r, tally P Proper rows r.inv r.shut_are (spill P Proper rows r));
      level = r.level;
      inv = r.inv;
    }

    decide_ran : (k : ℕ) (next : List (Row C) → ℕ → State C) → ((rows : List (Row C)) (n : ℕ) → Known P Proper some every n rows → Ran some every n k (next rows n))
        → (n : ℕ) (rows : List (Row C)) → Known P Proper some every n rows → (o : Option ℕ) → Least P.charges rows o → Ran some every n (suc k) (decide P marks next rows n o)
    decide_ran k next ran n rows v None h = none_says n (suc k) rows v h
    decide_ran k next ran n rows v (Some i) h = by (P.world.goal (row_at P rows i).setting) refl
      where
        by : (b : Bool) → P.world.goal (row_at P rows i).setting ≡ b → Ran some every n (suc k) (cond b (record { rows = rows; count = n; outcome = at_goal i }) (carry P next n (expand P marks rows i)))
        by true e = goal_says n (suc k) rows i v h e
        by false e = carry_ran k next ran n (expand P marks rows i) (expand_keeps P Proper some every marks sane guides wider wide n rows i v h e)

    pub advance_ran : (k : ℕ) (rows : List (Row C)) (n : ℕ) → Known P Proper some every n rows → Ran some every n k (advance P marks k rows n)
    advance_ran zero rows n v = look_ran n rows v _ (least_is P.charges rows)
    advance_ran (suc k) rows n v = decide_ran k (advance P marks k) (λ r m u. advance_ran k r m u) n rows v _ (least_is P.charges rows)
