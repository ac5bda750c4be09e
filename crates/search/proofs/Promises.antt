-- The promise, of every list of calls.
use Rattle.std.proofs.Common.{◌≡◌, ℕ, ◌+◌, ◌<◌, ◌≤◌, Bool, true, cond, ◌↔◌, List, [], ◌∷◌, Some, None, Option, sym, refl, ap, ◌∙◌, subst, arith, drop-cons}
use Rattle.std.proofs.ByRecursion.{All-weaker}
use Rattle.std.proofs.lemmas.Bool.{and_parts, or_left, or_right}
use Rattle.task.specs.declared.refusal.Refusal.{Refusal}
use Rattle.task.specs.Benches.{Bench, Lawful, SettingOf}
use Rattle.tariff.specs.Charges.{Charges}
use Rattle.rules.specs.Marks.{Marking}
use Rattle.search.specs.declared.data.Row.{Row}
use Rattle.search.specs.Steps.{Quest, problem, Outcome, going, at_goal, exhausted, crowded, advance, first_rows}
use Rattle.search.specs.Session.{Lengths, Phase, resting, searching, ended, End, found, no_plan, no_row, Call, beginning, advancing, taking, abandoning, Answer, began, begin_fault, advance_fault, take_fault, end_fault, unless, went, gone, taken, after, state, answer}
use Rattle.search.specs.Promise.{count_of, Accepted, since, asked, marked, marked_by_each, Along, in_search, accepted, Within, Expanded, NoPlanWithin, Owned, Spilled, Tells, Counted, starts, asked_by, quest_of, begun, Promise}
use Rattle.search.proofs.Traces.{Wider}
use Rattle.search.proofs.Expansion.{Known, known_wider, first_known}
use Rattle.search.proofs.Ends.{Best, NoneWithin, Near, TooManyRows, Spill, Tally, tally}
use Rattle.search.proofs.Advances.{Says, Ran, advance_ran}
use Rattle.search.proofs.Benches.{sane}
use Rattle.search.proofs.Lent.{ready, takable, step_left}
use Rattle.search.proofs.Remainders.{rest_plan, rest_least}

-- what a rule marks is marked, and what was marked stays so
marked_new : (b : Bench) (a : Accepted) (all : List Accepted) → Wider (a.rule.marks b) (marked b (a ∷ all))
marked_new b a all s k e = or_left (a.rule.marks b s k) (marked b all s k) e

marked_old : (b : Bench) (a : Accepted) (all : List Accepted) → Wider (marked b all) (marked b (a ∷ all))
marked_old b a all s k e = or_right (a.rule.marks b s k) (marked b all s k) e

each_new : (b : Bench) (a : Accepted) (all : List Accepted) → Wider (marked_by_each b (a ∷ all)) (a.rule.marks b)
each_new b a all s k e = (and_parts (a.rule.marks b s k) (marked_by_each b all s k) e).0

each_old : (b : Bench) (a : Accepted) (all : List Accepted) → Wider (marked_by_each b (a ∷ all)) (marked_by_each b all)
each_old b a all s k e = (and_parts (a.rule.marks b s k) (marked_by_each b all s k) e).1

module _ {C : Type 0} (b : Bench) (K : Charges C) where
  -- what is known in a search that goes on
  pub record Live (q : Quest C) (rows : List (Row C)) (n : ℕ) (all : List Accepted) : Type 0 where
    pub room : 0 < q.capacity
    pub few : q.capacity ≤ 65535
    pub start : SettingOf b q.start
    pub paced : n ≡ asked all
    pub short : n < q.capacity
    pub known : Known (problem b K q) (SettingOf b) (marked b all) (marked_by_each b all) n rows

  -- what is known of a phase, with the Advances of its search
  abbrev pub Fits : Phase C → List Accepted → Type 0
  Fits resting all = all ≡ []
  Fits (searching q rows n) all = Live q rows n all
  Fits (ended q (found c plan k) n) all = (q.capacity ≤ 65535) × Best (problem b K q) (SettingOf b) c plan
  Fits (ended q no_plan n) all = NoneWithin (problem b K q) (SettingOf b)
  Fits (ended q no_row n) all = TooManyRows (problem b K q) (SettingOf b) (marked b all)

  -- what is known after a call
  abbrev Stepped : Phase C → List Accepted → Call C → Phase C × Answer C → Type 0
  Stepped p all call r =
      Fits r.0 (since call all (count_of r.1)) × Counted b K (since call all (count_of r.1)) r.0 (count_of r.1) × Owned b K p r.0 r.1 × Tells b K p r.0 r.1

  near_within : (marks : List ℕ → ℕ → Bool) (q : Quest C) (t : List ℕ) → Near (problem b K q) (SettingOf b) marks t → Within b K marks q t
  near_within marks q t h = record { way = h.way; leads = h.leads; within = h.within }

  within_near : (marks : List ℕ → ℕ → Bool) (q : Quest C) (t : List ℕ) → Within b K marks q t → Near (problem b K q) (SettingOf b) marks t
  within_near marks q t h = record { way = h.way; leads = h.leads; within = h.within }

  abbrev expanded : (marks : List ℕ → ℕ → Bool) (q : Quest C) (n : ℕ) (Also : List (List ℕ) → Type 0) → Tally (problem b K q) (SettingOf b) marks n Also → Expanded b K marks q n
  expanded marks q n Also t = record { settings = t.all; number = t.number; apart = t.apart; each = All-weaker _ _ (near_within marks q) t.all t.each }

  spilled : (marks : List ℕ → ℕ → Bool) (q : Quest C) (settings : List (List ℕ)) → Spill (problem b K q) (SettingOf b) marks settings → Spilled b K marks q settings
  spilled marks q settings s = record { around = s.around; more = s.more; apart = s.apart; each = s.each }

  -- the end that some steps came to, or none
  went_steps : (q : Quest C) (all : List Accepted) (k : ℕ) (m : Marking) (l : Lengths) (before : Phase C) (n : ℕ) (rows : List (Row C)) (count : ℕ) (o : Outcome) → 0 < q.capacity → q.capacity ≤ 65535 → SettingOf b q.start
      → n ≡ asked all → n ≤ count → count ≤ n + k
      → Says (problem b K q) (SettingOf b) (marked b (record { steps = k; rule = m } ∷ all)) (marked_by_each b (record { steps = k; rule = m } ∷ all)) n k rows count o
      → Stepped before all (advancing k m l) (went b K q rows count o)
  went_steps q all k m l before n rows count going room few start paced low high h = (
    record { room = room; few = few; start = start; paced = omega (arith, h.0); short = h.1; known = h.2 },
    (omega (arith, h.0), expanded _ q count (λ x. Unit {0}) (tally (problem b K q) (SettingOf b) rows h.2.inv h.2.shut_are tt)),
    tt,
    (q, refl),
  )
  went_steps q all k m l before n rows count (at_goal i) room few start paced low high h = (
    (few, h.0),
    (omega arith, omega arith, (expanded _ q count _ h.1, h.1.also)),
    h.0.costs,
    (q, _, refl),
  )
  went_steps q all k m l before n rows count exhausted room few start paced low high h = (
    h.0,
    (omega arith, omega arith, (expanded _ q count _ h.1, λ t w. h.1.also t (within_near _ q t w))),
    tt,
    (q, refl),
  )
  went_steps q all k m l before n rows count crowded room few start paced low high h = (
    h.0,
    (omega arith, omega arith, (expanded _ q count _ h.1, spilled _ q _ h.1.also)),
    tt,
    (q, refl),
  )

  -- an Advance under one more rule
  pub live_ran : Lawful b → (q : Quest C) (all : List Accepted) (k : ℕ) (m : Marking) (n : ℕ) (rows : List (Row C)) → Live q rows n all → (j : ℕ)
      → Ran (problem b K q) (SettingOf b) (marked b (record { steps = k; rule = m } ∷ all)) (marked_by_each b (record { steps = k; rule = m } ∷ all)) n j (advance (problem b K q) (m.marks b) j rows n)
  live_ran lawful q all k m n rows live j =
      let new : Accepted = record { steps = k; rule = m } in
      advance_ran (problem b K q) (SettingOf b) (marked b (new ∷ all)) (marked_by_each b (new ∷ all)) (m.marks b) (sane b K q lawful live.room live.start) (λ s proper off plan p. m.law b s lawful proper off plan p)
      (marked_new b new all) (each_new b new all) j rows n (known_wider (problem b K q) (SettingOf b) (marked_old b new all) (each_old b new all) live.known)

  taken_steps : (q : Quest C) (all : List Accepted) (l : Lengths) (e : End C) (n : ℕ) → end_fault e ≡ None → Fits (ended q e n) all → Stepped (ended q e n) all (taking l) (taken b K q e n)
  taken_steps q all l (found c plan k) n left h = (h, tt, (drop-cons plan k 0 (step_left c plan k left), refl), (q, c, plan, k, n, refl, refl))
  taken_steps q all l no_plan n left h = absurd cc
  taken_steps q all l no_row n left h = absurd cc

  -- one call more
  steps : Lawful b → (p : Phase C) (all : List Accepted) (call : Call C) → Fits p all → Stepped p all call (after b K p call)
  steps lawful resting all (beginning s bound l) h = at (begin_fault b s l) refl
    where
      q : Quest C
      q = record { start = s; bound = bound; capacity = l.rows }

      at : (f : Option Refusal) → begin_fault b s l ≡ f → Stepped resting all (beginning s bound l) (unless f resting (searching q (first_rows (problem b K q)) 0, began))
      at None e =
          let r = ready b s l e in (
            record {
              room = r.some_row;
              few = r.few;
              start = r.start;
              paced = sym (ap asked h);
              short = r.some_row;
              known = first_known (problem b K q) (SettingOf b) (marked b all) (marked_by_each b all) (sane b K q lawful r.some_row r.start);
            },
            tt,
            tt,
            (q, refl),
          )
      at (Some r) e = (h, tt, tt, refl)
  steps lawful resting all (advancing k m l) h = (h, tt, tt, refl)
  steps lawful resting all (taking l) h = (h, tt, tt, refl)
  steps lawful resting all abandoning h = (refl, tt, tt, refl)
  steps lawful (searching q rows n) all (beginning s bound l) h = (h, tt, tt, refl)
  steps lawful (searching q rows n) all (advancing k m l) h = at (advance_fault b q.capacity l)
    where
      at : (f : Option Refusal) → Stepped (searching q rows n) all (advancing k m l) (unless f (searching q rows n) (gone b K q (advance (problem b K q) (m.marks b) k rows n)))
      at None =
          let st = advance (problem b K q) (m.marks b) k rows n in
          let r = live_ran lawful q all k m n rows h k in
          went_steps q all k m l (searching q rows n) n st.rows st.count st.outcome h.room h.few h.start h.paced r.low r.high r.says
      at (Some r) = (h, tt, tt, refl)
  steps lawful (searching q rows n) all (taking l) h = (h, tt, tt, refl)
  steps lawful (searching q rows n) all abandoning h = (refl, tt, tt, refl)
  steps lawful (ended q e n) all (beginning s bound l) h = (h, tt, tt, refl)
  steps lawful (ended q e n) all (advancing k m l) h = (h, tt, tt, refl)
  steps lawful (ended q e n) all (taking l) h = at (take_fault b q.capacity e l) refl
    where
      at : (f : Option Refusal) → take_fault b q.capacity e l ≡ f → Stepped (ended q e n) all (taking l) (unless f (ended q e n) (taken b K q e n))
      at None x = taken_steps q all l e n (takable b q.capacity e l x).left h
      at (Some r) x = (h, tt, tt, refl)
  steps lawful (ended q e n) all abandoning h = (refl, tt, tt, refl)

  -- what is known after a list of calls
  pub fits : Lawful b → (calls : List (Call C)) → Fits (state b K calls) (accepted b K calls)
  fits lawful [] = refl
  fits lawful (call ∷ older) = (steps lawful (state b K older) (accepted b K older) call (fits lawful older)).0

  -- at a phase that is known by an equation
  pub fits_at : Lawful b → (calls : List (Call C)) (p : Phase C) → state b K calls ≡ p → Fits p (accepted b K calls)
  fits_at lawful calls p e = subst (λ x. Fits x (accepted b K calls)) e (fits lawful calls)

  own_charges : Lawful b → (calls : List (Call C)) → Along (λ older call. Owned b K (state b K older) (state b K (call ∷ older)) (answer b K older call)) calls
  own_charges lawful [] = tt
  own_charges lawful (call ∷ older) = ((steps lawful (state b K older) (accepted b K older) call (fits lawful older)).2, own_charges lawful older)

  counted : Lawful b → (calls : List (Call C)) → Along (λ older call. Counted b K (accepted b K (call ∷ older)) (state b K (call ∷ older)) (count_of (answer b K older call))) calls
  counted lawful [] = tt
  counted lawful (call ∷ older) = ((steps lawful (state b K older) (accepted b K older) call (fits lawful older)).1, counted lawful older)

  told : Lawful b → (calls : List (Call C)) → Along (λ older call. Tells b K (state b K older) (state b K (call ∷ older)) (answer b K older call)) calls
  told lawful [] = tt
  told lawful (call ∷ older) = ((steps lawful (state b K older) (accepted b K older) call (fits lawful older)).3, told lawful older)

  -- the quest of a phase changes only by Begin and Abandon
  went_quest : (q : Quest C) (rows : List (Row C)) (n : ℕ) (o : Outcome) → quest_of (went b K q rows n o).0 ≡ Some q
  went_quest q rows n going = refl
  went_quest q rows n (at_goal i) = refl
  went_quest q rows n exhausted = refl
  went_quest q rows n crowded = refl

  taken_quest : (q : Quest C) (e : End C) (n : ℕ) → quest_of (taken b K q e n).0 ≡ Some q
  taken_quest q (found c plan k) n = refl
  taken_quest q no_plan n = refl
  taken_quest q no_row n = refl

  quest_step : (p : Phase C) (call : Call C) → quest_of (after b K p call).0 ≡ asked_by call (after b K p call).1 (quest_of p)
  quest_step resting (beginning s bound l) = at (begin_fault b s l)
    where
      q : Quest C
      q = record { start = s; bound = bound; capacity = l.rows }

      at : (f : Option Refusal) → quest_of (unless f resting (searching q (first_rows (problem b K q)) 0, began)).0 ≡ cond (starts (unless f resting (searching q (first_rows (problem b K q)) 0, began)).1) (Some q) None
      at None = refl
      at (Some r) = refl
  quest_step resting (advancing k m l) = refl
  quest_step resting (taking l) = refl
  quest_step resting abandoning = refl
  quest_step (searching q rows n) (beginning s bound l) = refl
  quest_step (searching q rows n) (advancing k m l) = at (advance_fault b q.capacity l)
    where
      at : (f : Option Refusal) → quest_of (unless f (searching q rows n) (gone b K q (advance (problem b K q) (m.marks b) k rows n))).0 ≡ Some q
      at None = let st = advance (problem b K q) (m.marks b) k rows n in went_quest q st.rows st.count st.outcome
      at (Some r) = refl
  quest_step (searching q rows n) (taking l) = refl
  quest_step (searching q rows n) abandoning = refl
  quest_step (ended q e n) (beginning s bound l) = refl
  quest_step (ended q e n) (advancing k m l) = refl
  quest_step (ended q e n) (taking l) = at (take_fault b q.capacity e l)
    where
      at : (f : Option Refusal) → quest_of (unless f (ended q e n) (taken b K q e n)).0 ≡ Some q
      at None = taken_quest q e n
      at (Some r) = refl
  quest_step (ended q e n) abandoning = refl

  begun_is : (calls : List (Call C)) → quest_of (state b K calls) ≡ begun b K calls
  begun_is [] = refl
  begun_is (call ∷ older) = quest_step (state b K older) call ∙ ap (asked_by call (answer b K older call)) (begun_is older)

  denied : (q : Quest C) (e : End C) (n : ℕ) (all : List Accepted) → Fits (ended q e n) all → (e ≡ no_row → ⊥) → (e ≡ no_plan) ↔ NoPlanWithin b K q
  denied q (found c plan k) n all h not_full = (
    λ e. absurd cc,
    λ no. absurd (no plan h.1.is_plan (subst (λ x. K.le x q.bound ≡ true) h.1.costs h.1.within)),
  )
  denied q no_plan n all h not_full = (λ e. h, λ no. refl)
  denied q no_row n all h not_full = absurd (not_full refl)

  ends_in_time : (q : Quest C) (p : Phase C) (all : List Accepted) → Fits p all → in_search p ≡ Some q → asked all < q.capacity
  ends_in_time q resting all h e = absurd cc
  ends_in_time q (searching q' rows n) all h e = let same : q' ≡ q = cc in subst (λ x. asked all < x.capacity) same (omega (arith, h.paced, h.short))
  ends_in_time q (ended q' x n) all h e = absurd cc

  pub promised : Lawful b → (calls : List (Call C)) → Promise b K calls
  promised lawful calls = record {
    as_begun = begun_is calls;
    tells = told lawful calls;
    cheapest = λ q c plan k n e.
        let best = (fits_at lawful calls (ended q (found c plan k) n) e).1 in
        record { is_plan = rest_plan (problem b K q) (SettingOf b) c plan best k; least = rest_least (problem b K q) (SettingOf b) c plan best k };
    own_charge = own_charges lawful calls;
    denied_rightly = λ q e n is. denied q e n (accepted b K calls) (fits_at lawful calls (ended q e n) is);
    within = λ q c plan k n e.
        let best = (fits_at lawful calls (ended q (found c plan k) n) e).1 in
        subst (λ x. K.le x q.bound ≡ true) best.costs best.within;
    full = λ q n e.
        let t : TooManyRows (problem b K q) (SettingOf b) (marked b (accepted b K calls)) = fits_at lawful calls (ended q no_row n) e in
        record { settings = t.all; more = t.more; apart = t.apart; each = All-weaker _ _ (near_within (marked b (accepted b K calls)) q) t.all t.each };
    ends = λ q e. ends_in_time q (state b K calls) (accepted b K calls) (fits lawful calls) e;
    counts = counted lawful calls;
  }
