-- What an Advance comes to.
use Rattle.std.proofs.Common.{◌≡◌, ℕ, ◌+◌, ◌-◌, ◌≤◌, List, [], ◌∷◌, length, take, drop, None, Ok, sym, refl, ap, ◌∙◌, subst, arith}
use Rattle.std.proofs.lemmas.List.{drop-drop, length-take-le}
use Rattle.task.specs.declared.data.Task.{Task}
use Rattle.task.specs.Benches.{Bench, Lawful}
use Rattle.tariff.specs.Charges.{Charges}
use Rattle.rules.specs.Marks.{Marking, Zeros}
use Rattle.search.specs.declared.data.Row.{Row}
use Rattle.search.specs.declared.sizes.Ran.{Ran}
use Rattle.search.specs.declared.sizes.Sizes.{Sizes}
use Rattle.search.specs.declared.phase.Asked.{Asked}
use Rattle.search.specs.declared.phase.Search.{Search}
use Rattle.search.specs.declared.phase.Ending.{Ending}
use Rattle.search.specs.declared.phase.Ending.TheVariants.{NoPlan, Full}
use Rattle.search.specs.declared.phase.Ended.{Ended}
use Rattle.search.specs.declared.phase.Advanced.{Advanced}
use Rattle.search.specs.declared.phase.Advanced.TheVariants as advanced
use Rattle.search.specs.Rows.{plan_of}
use Rattle.search.specs.Steps.{problem, State, Outcome, advance}
use Rattle.search.specs.Lined.{Lined}
use Rattle.search.specs.Counts.{outcome_of, state_of, Sound}
use Rattle.search.specs.Session.{Lengths, found, searching, ended, Call, advancing, working, has_found, has_none, is_full, advance_fault, went, gone, after, state}
use Rattle.search.specs.Left.{Contents, OfTask, Written, wanted, quest, end_of, plan_at, LeftSearch, LeftEnded, Went}
use Rattle.search.specs.Conclusions.{EndsSo, Concluded}
use Rattle.search.proofs.Promises.{promised}
use Rattle.search.proofs.Sessions.{advance_by}
use Rattle.search.proofs.Sound.{sound}

-- lists that agree past some place agree past each later one
pub later : {X : Type 0} (m n : ℕ) (xs ys : List X) → m ≤ n → drop m xs ≡ drop m ys → drop n xs ≡ drop n ys
later m n xs ys h e =
    let whole : m + (n - m) ≡ n = omega arith in
    let step = λ (zs : List _). drop-drop (n - m) m zs ∙ ap (λ k. drop k zs) whole in
    sym (step xs) ∙ ap (drop (n - m)) e ∙ step ys

module _ {C : Type 0} (b : Bench) (K : Charges C) (lawful : Lawful b) (calls : List (Call C)) where
  -- the steps on the tables, and the steps on the rows that the calls lead to
  pub stood : (s : Search C) (t : Contents C) (left : LeftSearch b K calls s t) → s.asked.limits.capacity ≤ length t.rows → s.asked.limits.capacity ≤ length t.queue → (k : ℕ) (m : Marking) (st : State C) (x : Bench) → x ≡ b
      → (Lawful x → Sound x K (quest s) (m.marks x) (take s.sizes.used t.rows) s.expanded → Lined K.le (take s.sizes.used t.rows) s.sizes.waiting t.queue → advance (problem x K (quest s)) (m.marks x) k (take s.sizes.used t.rows) s.expanded ≡ st)
      → (advance (problem b K (quest s)) (m.marks b) k left.held s.expanded ≡ st) × Lined K.le (take s.sizes.used t.rows) s.sizes.waiting t.queue
  stood s t left in_rows in_queue k m st x same ran =
      let held_is = sym (left.in_rows in_rows) in
      let lined = subst (λ h. Lined K.le h s.sizes.waiting t.queue) held_is (left.in_queue in_queue) in
      let is = left.is ∙ ap (λ h. searching (quest s) h s.expanded) held_is in
      let Says = λ (y : Bench). Lawful y → Sound y K (quest s) (m.marks y) (take s.sizes.used t.rows) s.expanded → Lined K.le (take s.sizes.used t.rows) s.sizes.waiting t.queue → advance (problem y K (quest s)) (m.marks y) k (take s.sizes.used t.rows) s.expanded ≡ st in (
        ap (λ h. advance (problem b K (quest s)) (m.marks b) k h s.expanded) held_is ∙ subst Says same ran lawful (sound b K lawful calls (quest s) (take s.sizes.used t.rows) s.expanded is m) lined,
        lined,
      )

  module _ (s : Search C) (held : List (Row C)) (task : OfTask s.asked.task b) (is : state b K calls ≡ searching (quest s) held s.expanded) (k : ℕ) (m : Marking) (l : Lengths) (r : Ran) (plan : List ℕ) (t : Contents C) (none : None ≡ advance_fault b s.asked.limits.capacity l) (stands : advance (problem b K (quest s)) (m.marks b) k held s.expanded ≡ state_of r t.rows) (room : r.sizes.used ≤ length t.rows) (lined : Lined K.le (take r.sizes.used t.rows) r.sizes.waiting t.queue) (no_marks : Zeros (take s.asked.task.actions t.marks)) (no_work : Zeros (take 4096 t.work)) where
    abbrev used : List (Row C)
    used = take r.sizes.used t.rows

    abbrev call : Call C
    call = advancing k m l

    came : (o : Outcome) → outcome_of r.progress ≡ o → after b K (state b K calls) call ≡ went b K (quest s) used r.expanded o
    came o e = advance_by b K calls (quest s) held s.expanded k m l is None none ∙ ap (gone b K (quest s)) stands ∙ ap (went b K (quest s) used r.expanded) e

    -- a phase that ended so is the one that the calls lead to
    left_so : (e : Ended C) (how : Ending C) (list : List ℕ) → EndsSo s.asked r.expanded how list e → state b K (call ∷ calls) ≡ ended (quest s) (end_of how list 0) r.expanded → take (length list) t.plan ≡ list → LeftEnded b K (call ∷ calls) e t.plan
    left_so e how list ends led begins = record {
      task = subst (λ (k : Task). OfTask k b) (sym (ap (λ (a : Asked C). a.task) ends.asked)) task;
      plan = list;
      is = led ∙ (λ i. ended (wanted (sym ends.asked i)) (end_of (sym ends.ending i) list (sym ends.taken i)) (sym ends.expanded i));
      number = sym ends.planned;
      in_list = λ _. ap (λ n. take n t.plan) ends.planned ∙ begins;
    }

    pub went_so : (x : Advanced C) → Concluded K.zero K.le s.asked r used plan t.plan x → Went b K calls call (Ok x) t
    went_so (advanced.Working s' n) c =
        let w = came _ c.0 in
        let on = c.2 in (
          ap (λ p. p.1) w ∙ ap working (sym c.1),
          record {
            task = subst (λ (k : Task). OfTask k b) (sym (ap (λ (a : Asked C). a.task) on.asked)) task;
            held = used;
            is = ap (λ p. p.0) w ∙ (λ i. searching (wanted (sym on.asked i)) used (sym on.expanded i));
            number = length-take-le r.sizes.used t.rows room ∙ sym (ap (λ (z : Sizes). z.used) on.sizes);
            in_rows = λ _. ap (λ (z : Sizes). take z.used t.rows) on.sizes;
            in_queue = λ _. subst (λ (z : Sizes). Lined K.le used z.waiting t.queue) (sym on.sizes) lined;
            in_marks = λ _. subst (λ (k : Task). Zeros (take k.actions t.marks)) (sym (ap (λ (a : Asked C). a.task) on.asked)) no_marks;
            in_work = λ _. no_work;
          },
          promised b K lawful _,
        )
    went_so (advanced.Found e c₀ n) (i, out, n_is, c_is, ends, written) =
        let w = came _ out in
        let list = plan_of K.zero K.le used i in (
          ap (λ p. p.1) w ∙ (λ j. has_found (sym c_is j) (sym n_is j)),
          left_so e _ list ends (ap (λ p. p.0) w ∙ ap (λ x. ended (quest s) (found x list 0) r.expanded) (sym c_is)) written.first,
          promised b K lawful _,
        )
    went_so (advanced.NoPlan e n) c =
        let w = came _ c.0 in
        (ap (λ p. p.1) w ∙ ap has_none (sym c.1), left_so e NoPlan [] c.2 (ap (λ p. p.0) w) refl, promised b K lawful _)
    went_so (advanced.Full e n) c =
        let w = came _ c.0 in
        (ap (λ p. p.1) w ∙ ap is_full (sym c.1), left_so e Full [] c.2 (ap (λ p. p.0) w) refl, promised b K lawful _)

-- the plan list after some steps
module _ {C : Type 0} (K : Charges C) (a : Asked C) (r : Ran) (used : List (Row C)) (plan plan' : List ℕ) where
  nothing : plan' ≡ plan → Written [] plan plan'
  nothing e = record { first = refl; rest = e }

  pub listed_so : (x : Advanced C) → Concluded K.zero K.le a r used plan plan' x → Written (plan_at K used (outcome_of r.progress)) plan plan'
  listed_so (advanced.Working s n) c = subst (λ o. Written (plan_at K used o) plan plan') (sym c.0) (nothing c.3)
  listed_so (advanced.Found e c₀ n) (i, out, n_is, c_is, ends, written) = subst (λ o. Written (plan_at K used o) plan plan') (sym out) written
  listed_so (advanced.NoPlan e n) c = subst (λ o. Written (plan_at K used o) plan plan') (sym c.0) (nothing c.3)
  listed_so (advanced.Full e n) c = subst (λ o. Written (plan_at K used o) plan plan') (sym c.0) (nothing c.3)

  -- past the rows nothing is written
  pub kept_past : (x : Advanced C) → Concluded K.zero K.le a r used plan plan' x → drop a.limits.capacity plan' ≡ drop a.limits.capacity plan
  kept_past (advanced.Working s n) c = ap (drop a.limits.capacity) c.3
  kept_past (advanced.Found e c₀ n) (i, out, n_is, c_is, ends, written) = later (length (plan_of K.zero K.le used i)) a.limits.capacity plan' plan (omega (arith, ends.planned, e.few, ap (λ (x : Asked C). x.limits.capacity) ends.asked)) written.rest
  kept_past (advanced.NoPlan e n) c = ap (drop a.limits.capacity) c.3
  kept_past (advanced.Full e n) c = ap (drop a.limits.capacity) c.3
