-- The first fault of a record, and what holds of one without a fault.
use Rattle.std.proofs.Common.{◌≡◌, ℕ, ◌+◌, ◌-◌, ◌<◌, ◌≤◌, Bool, true, false, cond, ◌&&◌, ◌||◌, eqb, ltb, leb, List, [], ◌∷◌, length, get_or, Some, None, Ok, Err, Option, Result, MatchResult, IsErrAnd, refl, ap, ◌∙◌, arith}
use Rattle.std.proofs.lemmas.Result.{err_from_is_err_and}
use Rattle.std.proofs.lemmas.Bool.{cond-true, cond-false, and_from, le-leb, ne_eqb, and_parts, or_parts, ltb-true, ltb-false, leb-true, leb-false, eqb-false}
use Rattle.task.specs.declared.data.Atom.{Atom}
use Rattle.task.specs.declared.refusal.Fault.{Fault}
use Rattle.task.specs.declared.refusal.Fault.TheVariants.{TooMany, ValueCount, OutsideBench, NotRising, NoEffect, OverLimit, RepeatsCondition}
use Rattle.task.specs.declared.refusal.Refusal.{Refusal}
use Rattle.task.specs.Benches.{Act}
use Rattle.task.specs.Refusals.{refusal, refuse}
use Rattle.book.specs.Records.{Parts, variable_part, action_part, goal_part}
use Rattle.book.specs.Format.{or_fault, atoms_fault, act_fault, variable_fault, crowding, repeating, or_else, fault_in, unless}
use Rattle.book.specs.Reader.{Limited, LimitedAct}

-- what a check says of the fault
pub no_fault : (o : Option Fault) → Ok tt ≡ or_fault o → None ≡ o
no_fault None e = refl
no_fault (Some f) e = cc

-- a check's answer, where its fault is to be refused at a place
abbrev pub placed : {X : Type 0} → Result X Fault → ℕ → Result X Refusal
placed (Ok x) at = Ok x
placed (Err f) at = refuse f at

-- what `map_err` answers with a closure that makes the refusal
pub map_err_is : {X : Type 0} (o : Result X Fault) (r : Result X Refusal) (at : ℕ) (post : Fault → Refusal → Type 0) → MatchResult o (λ x. r ≡ Ok x) (λ f. IsErrAnd r (post f)) → ((f : Fault) (e : Refusal) → post f e → e ≡ refusal f at) → r ≡ placed o at
map_err_is (Ok x) r at post h k = h
map_err_is (Err f) r at post h k = let p = err_from_is_err_and r h in p.1 ∙ ap (λ e. Err e) (k f p.0 p.2)

pub none_placed : (o : Option Fault) (at : ℕ) → Ok tt ≡ placed (or_fault o) at → None ≡ o
none_placed None at e = refl
none_placed (Some f) at e = cc

pub fault_placed : {X : Type 0} (o : Option Fault) (at : ℕ) (x : X) (e : Refusal) → Err e ≡ placed (or_fault o) at → Err e ≡ unless o at x
fault_placed None at x e h = cc
fault_placed (Some f) at x e h = cc

some_none : {X : Type 0} (x : X) → Some x ≡ None → ⊥
some_none x e = let z : ◌≡◌ {A = ℕ} 0 1 = cc in omega arith

-- a test that leaves no fault
passed : (t : Bool) (o : Option Fault) (f : Fault) → cond t o (Some f) ≡ None → (t ≡ true) × (o ≡ None)
passed true o f e = (refl, e)
passed false o f e = absurd (some_none f e)

cleared : (t : Bool) (o : Option Fault) (f : Fault) → cond t (Some f) o ≡ None → (t ≡ false) × (o ≡ None)
cleared true o f e = absurd (some_none f e)
cleared false o f e = (refl, e)

neither : (o p : Option Fault) → or_else o p ≡ None → (o ≡ None) × (p ≡ None)
neither (Some f) p e = absurd (some_none f e)
neither None p e = (refl, e)

pub record FineAtom (sizes : List ℕ) (floor : ℕ) (a : Atom) (more : List Atom) : Type 0 where
  pub variable : a.variable < length sizes
  pub value : a.value < get_or sizes a.variable 0
  pub rises : floor ≤ a.variable
  pub on : atoms_fault sizes (a.variable + 1) more ≡ None

pub fine_atom : (sizes : List ℕ) (floor : ℕ) (a : Atom) (more : List Atom) → atoms_fault sizes floor (a ∷ more) ≡ None → FineAtom sizes floor a more
fine_atom sizes floor a more e =
    let p = passed (ltb a.variable (length sizes) && ltb a.value (get_or sizes a.variable 0)) (cond (leb floor a.variable) (atoms_fault sizes (a.variable + 1) more) (Some NotRising)) OutsideBench e in
    let q = passed (leb floor a.variable) (atoms_fault sizes (a.variable + 1) more) NotRising p.1 in
    let s = and_parts (ltb a.variable (length sizes)) (ltb a.value (get_or sizes a.variable 0)) p.0 in
    record { variable = ltb-true _ _ s.0; value = ltb-true _ _ s.1; rises = leb-true _ _ q.0; on = q.1 }

-- rising atoms of a bench are no more than its variables
pub few_atoms : (sizes : List ℕ) (floor : ℕ) (atoms : List Atom) → atoms_fault sizes floor atoms ≡ None → length atoms ≤ length sizes - floor
few_atoms sizes floor [] e = omega arith
few_atoms sizes floor (a ∷ more) e =
    let f = fine_atom sizes floor a more e in
    omega (arith, few_atoms sizes (a.variable + 1) more f.on)

pub record FineAct (sizes : List ℕ) (count : ℕ) (a : Act) : Type 0 where
  pub room : count < 1024
  pub limited : LimitedAct a
  pub some_effect : 1 ≤ length a.effects
  pub conditions : atoms_fault sizes 0 a.conditions ≡ None
  pub effects : atoms_fault sizes 0 a.effects ≡ None
  pub apart : repeating a.conditions a.effects ≡ false

pub fine_act : (sizes : List ℕ) (count : ℕ) (a : Act) → fault_in sizes count (action_part a) ≡ None → FineAct sizes count a
fine_act sizes count a e =
    let last : Option Fault = cond (repeating a.conditions a.effects) (Some RepeatsCondition) None in
    let p = cleared (crowding count a.conditions a.effects) (act_fault sizes a) TooMany e in
    let c = or_parts (leb 1024 count) (ltb 16 (length a.conditions) || ltb 16 (length a.effects)) p.0 in
    let d = or_parts (ltb 16 (length a.conditions)) (ltb 16 (length a.effects)) c.1 in
    let q = passed (leb a.tenths 1000000 && leb a.presses 1000) (cond (eqb (length a.effects) 0) (Some NoEffect) (or_else (atoms_fault sizes 0 a.conditions) (or_else (atoms_fault sizes 0 a.effects) last))) OverLimit p.1 in
    let l = and_parts (leb a.tenths 1000000) (leb a.presses 1000) q.0 in
    let n = cleared (eqb (length a.effects) 0) (or_else (atoms_fault sizes 0 a.conditions) (or_else (atoms_fault sizes 0 a.effects) last)) NoEffect q.1 in
    let u = neither (atoms_fault sizes 0 a.conditions) (or_else (atoms_fault sizes 0 a.effects) last) n.1 in
    let v = neither (atoms_fault sizes 0 a.effects) last u.1 in
    record {
      room = leb-false 1024 count c.0;
      limited = record { tenths = leb-true _ _ l.0; presses = leb-true _ _ l.1; few_conditions = ltb-false _ _ d.0; few_effects = ltb-false _ _ d.1 };
      some_effect = omega (arith, eqb-false (length a.effects) 0 n.0);
      conditions = u.0;
      effects = v.0;
      apart = (cleared (repeating a.conditions a.effects) None RepeatsCondition v.1).0;
    }

pub fine_action : (sizes : List ℕ) (a : Act) → a.tenths ≤ 1000000 → a.presses ≤ 1000 → (length a.effects ≡ 0 → ⊥) → atoms_fault sizes 0 a.conditions ≡ None → atoms_fault sizes 0 a.effects ≡ None → repeating a.conditions a.effects ≡ false → act_fault sizes a ≡ None
fine_action sizes a tenths presses some conditions effects apart =
    let last : Option Fault = cond (repeating a.conditions a.effects) (Some RepeatsCondition) None in
    cond-true _ _ (Some OverLimit) (and_from _ _ (le-leb a.tenths 1000000 tenths) (le-leb a.presses 1000 presses))
    ∙ cond-false _ (Some NoEffect) _ (ne_eqb (length a.effects) 0 some)
    ∙ (λ i. or_else (conditions i) (or_else (effects i) last))
    ∙ cond-false _ (Some RepeatsCondition) _ apart

pub record FineVariable (count n : ℕ) : Type 0 where
  pub room : count < 64
  pub some : 1 ≤ n
  pub few : n ≤ 32

pub fine_variable : (count n : ℕ) → variable_fault count n ≡ None → FineVariable count n
fine_variable count n e =
    let p = passed (ltb count 64) (cond (leb 1 n && leb n 32) None (Some ValueCount)) TooMany e in
    let q = passed (leb 1 n && leb n 32) None ValueCount p.1 in
    let s = and_parts (leb 1 n) (leb n 32) q.0 in
    record { room = ltb-true _ _ p.0; some = leb-true _ _ s.0; few = leb-true _ _ s.1 }

pub limited : (sizes : List ℕ) (count : ℕ) (p : Parts) → fault_in sizes count p ≡ None → Limited p
limited sizes count (variable_part n) e = tt
limited sizes count (action_part a) e = (fine_act sizes count a e).limited
limited sizes count (goal_part atoms) e = tt
