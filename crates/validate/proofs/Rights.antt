-- A walk ends in the goal exactly where its actions are a plan.
use Rattle.std.proofs.Common.{◌≡◌, ℕ, ◌≤◌, Bool, true, false, not, ltb, List, [], ◌∷◌, ◌++◌, length, is_some, Some, None, Option, Ok, Err, Result, sym, refl, ap, ◌∙◌, arith}
use Rattle.std.proofs.lemmas.Bool.{cond-true, cond-false, and_parts, and_from, le-ltb}
use Rattle.task.specs.declared.data.Atom.{Atom}
use Rattle.task.specs.Settings.{met, unmet}
use Rattle.task.specs.Benches.{Act, Bench, act, world, Plan}
use Rattle.task.proofs.Meets.{met_unmet, not_same}
use Rattle.tariff.specs.declared.charge.Pressed.{Pressed}
use Rattle.tariff.specs.Charges.{Charges}
use Rattle.tariff.specs.Time.{time}
use Rattle.tariff.specs.Presses.{pressing}
use Rattle.tariff.specs.Totals.{charge_of}
use Rattle.validate.specs.declared.data.Standing.{Standing}
use Rattle.validate.specs.Walks.{Said, finished, not_applicable, no_action, too_many, done, by_unmet, tried, moved, said_of, steps, standing, walked}
use Rattle.validate.specs.Right.{Ends, WalksRight}

plus_zero : {C : Type 0} (K : Charges C) (c : C) → K.plus c K.zero ≡ c
plus_zero K c = K.plus_comm c K.zero ∙ K.zero_plus c

-- what is said once it has cost w, and the actions to come cost more
abbrev over : Bench → Standing → List ℕ → Said
over b w numbers = finished true (time.plus w.costs.time (charge_of time b.actions numbers)) (pressing.plus w.costs.presses (charge_of pressing b.actions numbers))

no_unmet : (s : List ℕ) (atoms : List Atom) (o : Option Atom) → unmet s atoms ≡ o → met s atoms ≡ true → o ≡ None
no_unmet s atoms None e h = refl
no_unmet s atoms (Some a) e h = absurd (let t : true ≡ not (met s atoms) = ap is_some (sym e) ∙ met_unmet s atoms in let u = ap not h in let z : ◌≡◌ {A = ℕ} 0 1 = cc in omega arith)

all_met : (s : List ℕ) (atoms : List Atom) → unmet s atoms ≡ None → met s atoms ≡ true
all_met s atoms e = not_same (met s atoms) true (sym (met_unmet s atoms) ∙ ap is_some e)

module _ (b : Bench) where
  can_go : (w : Standing) (k : ℕ) → (world b).can w.setting k ≡ true → tried b w k ≡ Ok (act b k)
  can_go w k h =
      let parts = and_parts (ltb k (length b.actions)) (met w.setting (act b k).conditions) h in
      cond-true _ _ _ parts.0 ∙ ap (λ o. by_unmet o w.step k (act b k)) (no_unmet w.setting (act b k).conditions _ refl parts.1)

  further : (w : Standing) (k : ℕ) (more : List ℕ) → over b (moved w (act b k)) more ≡ over b w (k ∷ more)
  further w k more = λ i. finished true (time.plus_assoc w.costs.time (time.charge (act b k)) (charge_of time b.actions more) i) (pressing.plus_assoc w.costs.presses (pressing.charge (act b k)) (charge_of pressing b.actions more) i)

  pub all_said : (w : Standing) (numbers : List ℕ) → Plan (world b) w.setting numbers → Ends (steps b w numbers) (over b w numbers)
  all_said w [] plan = ([], λ i. finished (plan i) (sym (plus_zero time w.costs.time) i) (sym (plus_zero pressing w.costs.presses) i) ∷ [])
  all_said w (k ∷ more) plan =
      let rest = all_said (moved w (act b k)) more plan.1 in
      let line = done k (act b k) (moved w (act b k)).costs.time (moved w (act b k)).costs.presses in
      (line ∷ rest.0, ap (λ o. said_of o w k (λ next. steps b next more)) (can_go w k plan.0) ∙ ap (λ l. line ∷ l) (rest.1 ∙ ap (λ x. rest.0 ++ x ∷ []) (further w k more)))

  -- an action that was done could be done
  record Done (w : Standing) (k : ℕ) (a : Act) : Type 0 where
    could : (world b).can w.setting k ≡ true
    is : a ≡ act b k

  was_done : (w : Standing) (k : ℕ) (a : Act) → tried b w k ≡ Ok a → Done w k a
  was_done w k a e = at (ltb k (length b.actions)) (unmet w.setting (act b k).conditions) refl refl
    where
      at : (known : Bool) (o : Option Atom) → ltb k (length b.actions) ≡ known → unmet w.setting (act b k).conditions ≡ o → Done w k a
      at true None f g =
          let same : Ok (act b k) ≡ Ok a = sym (cond-true _ _ _ f ∙ ap (λ o. by_unmet o w.step k (act b k)) g) ∙ e in
          record { could = and_from _ _ f (all_met w.setting (act b k).conditions g); is = cc }
      at true (Some atom) f g =
          let same : Err (not_applicable w.step k atom) ≡ Ok a = sym (cond-true _ _ _ f ∙ ap (λ o. by_unmet o w.step k (act b k)) g) ∙ e in
          absurd (let z : ◌≡◌ {A = ℕ} 0 1 = cc in omega arith)
      at false o f g =
          let same : Err (no_action w.step k) ≡ Ok a = sym (cond-false _ _ _ f) ∙ e in
          absurd (let z : ◌≡◌ {A = ℕ} 0 1 = cc in omega arith)

  -- no walk stops with a last line of its own
  not_over : (w : Standing) (k : ℕ) (t : ℕ) (p : Pressed) → tried b w k ≡ Err (finished true t p) → ⊥
  not_over w k t p e = at (ltb k (length b.actions)) (unmet w.setting (act b k).conditions) refl refl
    where
      at : (known : Bool) (o : Option Atom) → ltb k (length b.actions) ≡ known → unmet w.setting (act b k).conditions ≡ o → ⊥
      at true None f g =
          let same : Ok (act b k) ≡ Err (finished true t p) = sym (cond-true _ _ _ f ∙ ap (λ o. by_unmet o w.step k (act b k)) g) ∙ e in
          let z : ◌≡◌ {A = ℕ} 0 1 = cc in omega arith
      at true (Some atom) f g =
          let same : Err (not_applicable w.step k atom) ≡ Err (finished true t p) = sym (cond-true _ _ _ f ∙ ap (λ o. by_unmet o w.step k (act b k)) g) ∙ e in
          let z : ◌≡◌ {A = ℕ} 0 1 = cc in omega arith
      at false o f g =
          let same : Err (no_action w.step k) ≡ Err (finished true t p) = sym (cond-false _ _ _ f) ∙ e in
          let z : ◌≡◌ {A = ℕ} 0 1 = cc in omega arith

  -- the actions are a plan, and the last line has their charges
  record Reaches (w : Standing) (numbers : List ℕ) (t : ℕ) (p : Pressed) : Type 0 where
    plan : Plan (world b) w.setting numbers
    time_is : t ≡ time.plus w.costs.time (charge_of time b.actions numbers)
    presses_is : p ≡ pressing.plus w.costs.presses (charge_of pressing b.actions numbers)

  -- a line that stands alone is the last one
  alone : (s x : Said) (front : List Said) → s ∷ [] ≡ front ++ x ∷ [] → s ≡ x
  alone s x [] e = cc
  alone s x (y ∷ []) e = absurd (let z : ◌≡◌ {A = ℕ} 0 1 = cc in omega arith)
  alone s x (y ∷ (y' ∷ front)) e = absurd (let z : ◌≡◌ {A = ℕ} 0 1 = cc in omega arith)

  arrives : (w : Standing) (numbers : List ℕ) (t : ℕ) (p : Pressed) → Ends (steps b w numbers) (finished true t p) → Reaches w numbers t p
  arrives w [] t p (front, e) =
      let same = alone (finished (met w.setting b.goal) w.costs.time w.costs.presses) (finished true t p) front e in
      let t_is : t ≡ w.costs.time = cc in
      let p_is : p ≡ w.costs.presses = cc in
      record { plan = cc; time_is = t_is ∙ sym (plus_zero time w.costs.time); presses_is = p_is ∙ sym (plus_zero pressing w.costs.presses) }
  arrives w (k ∷ more) t p (front, e) = at (tried b w k) refl front e (arrives (moved w (act b k)) more t p)
    where
      last : Said
      last = finished true t p

      on : (a : Act) (front : List Said) → a ≡ act b k → steps b (moved w a) more ≡ front ++ finished true t p ∷ [] → (Ends (steps b (moved w (act b k)) more) (finished true t p) → Reaches (moved w (act b k)) more t p) → Reaches (moved w (act b k)) more t p
      on a front is e go = go (front, ap (λ x. steps b (moved w x) more) (sym is) ∙ e)

      back : (world b).can w.setting k ≡ true → Reaches (moved w (act b k)) more t p → Reaches w (k ∷ more) t p
      back could r = record {
        plan = (could, r.plan);
        time_is = r.time_is ∙ time.plus_assoc w.costs.time (time.charge (act b k)) (charge_of time b.actions more);
        presses_is = r.presses_is ∙ pressing.plus_assoc w.costs.presses (pressing.charge (act b k)) (charge_of pressing b.actions more);
      }

      at : (o : Result Act Said) → tried b w k ≡ o → (front : List Said) → said_of (tried b w k) w k (λ next. steps b next more) ≡ front ++ finished true t p ∷ [] → (Ends (steps b (moved w (act b k)) more) (finished true t p) → Reaches (moved w (act b k)) more t p) → Reaches w (k ∷ more) t p
      at (Err s) f front e go =
          let same = alone s (finished true t p) front (ap (λ o. said_of o w k (λ next. steps b next more)) (sym f) ∙ e) in
          absurd (not_over w k t p (f ∙ ap Err same))
      at (Ok a) f [] e go =
          let same = ap (λ o. said_of o w k (λ next. steps b next more)) (sym f) ∙ e in
          absurd (let z : ◌≡◌ {A = ℕ} 0 1 = cc in omega arith)
      at (Ok a) f (y ∷ front) e go =
          let same = ap (λ o. said_of o w k (λ next. steps b next more)) (sym f) ∙ e in
          let d = was_done w k a f in
          back d.could (on a front d.is (cc) go)

pub walks_right : WalksRight
walks_right = record { a_plan = plan_of; every_plan = said_of_plan }
  where
    plan_of : (b : Bench) (s numbers : List ℕ) (t : ℕ) (p : Pressed) → Ends (walked b s numbers) (finished true t p) → Plan (world b) s numbers × (t ≡ charge_of time b.actions numbers) × (p ≡ charge_of pressing b.actions numbers)
    plan_of b s numbers t p (front, e) = at (ltb 65536 (length numbers)) refl
      where
        at : (many : Bool) → ltb 65536 (length numbers) ≡ many → Plan (world b) s numbers × (t ≡ charge_of time b.actions numbers) × (p ≡ charge_of pressing b.actions numbers)
        at true f =
            let same = alone b too_many (finished true t p) front (sym (cond-true _ _ _ f) ∙ e) in
            absurd (let z : ◌≡◌ {A = ℕ} 0 1 = cc in omega arith)
        at false f =
            let r = arrives b (standing s) numbers t p (front, sym (cond-false _ _ _ f) ∙ e) in
            (r.plan, r.time_is ∙ time.zero_plus (charge_of time b.actions numbers), r.presses_is ∙ pressing.zero_plus (charge_of pressing b.actions numbers))

    said_of_plan : (b : Bench) (s numbers : List ℕ) → length numbers ≤ 65536 → Plan (world b) s numbers → Ends (walked b s numbers) (finished true (charge_of time b.actions numbers) (charge_of pressing b.actions numbers))
    said_of_plan b s numbers few plan =
        let r = all_said b (standing s) numbers plan in
        let zero : over b (standing s) numbers ≡ finished true (charge_of time b.actions numbers) (charge_of pressing b.actions numbers) = λ i. finished true (time.zero_plus (charge_of time b.actions numbers) i) (pressing.zero_plus (charge_of pressing b.actions numbers) i) in
        (r.0, cond-false _ _ _ (le-ltb 65536 (length numbers) few) ∙ r.1 ∙ ap (λ x. r.0 ++ x ∷ []) zero)
