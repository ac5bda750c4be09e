-- What it means that a call is not refused.
use Rattle.std.proofs.Common.{◌≡◌, ℕ, ◌<◌, ◌≤◌, Bool, true, false, cond, ◌&&◌, eqb, ltb, leb, List, length, Some, None, Option, refl}
use Rattle.std.proofs.lemmas.Bool.{and_parts, ltb-true, ltb-false, leb-true, eqb-true}
use Rattle.task.specs.declared.refusal.Refusal.{Refusal}
use Rattle.task.specs.Settings.{outside}
use Rattle.task.specs.Benches.{Bench, SettingOf}
use Rattle.search.specs.Session.{Lengths, short, start_outside, start_fault, begin_fault, end_fault, take_fault, End, found}
use Rattle.search.proofs.Benches.{setting_of}

-- a test that refuses was not met, and what follows does not refuse either
pub passed : {X : Type 0} (b : Bool) (r : X) (more : Option X) → cond b (Some r) more ≡ None → (b ≡ false) × (more ≡ None)
passed true r more h = absurd cc
passed false r more h = (refl, h)

pub came : {X : Type 0} (b : Bool) (r : X) (more : Option X) → cond b more (Some r) ≡ None → (b ≡ true) × (more ≡ None)
came true r more h = (refl, h)
came false r more h = absurd cc

pub long_enough : (table need have : ℕ) (more : Option Refusal) → short table need have more ≡ None → (need ≤ have) × (more ≡ None)
long_enough table need have more h = let p = passed (ltb have need) _ more h in (ltb-false have need p.0, p.1)

-- a Begin that is not refused
pub record Ready (b : Bench) (s : List ℕ) (l : Lengths) : Type 0 where
  pub some_row : 0 < l.rows
  pub few : l.rows ≤ 65535
  pub queue : l.rows ≤ l.queue
  pub plan : l.rows ≤ l.plan
  pub marks : length b.actions ≤ l.marks
  pub work : 4096 ≤ l.work
  pub start : SettingOf b s

none_started : (o : Option ℕ) → start_outside o ≡ None → o ≡ None
none_started None e = refl
none_started (Some v) e = absurd cc

start_in : (b : Bench) (s : List ℕ) → start_fault b s ≡ None → SettingOf b s
start_in b s e = let p = came (eqb (length s) 64) 64 (outside b.sizes 0 s) (none_started (cond (eqb (length s) 64) (outside b.sizes 0 s) (Some 64)) e) in setting_of b s (eqb-true (length s) 64 p.0) p.1

pub ready : (b : Bench) (s : List ℕ) (l : Lengths) → begin_fault b s l ≡ None → Ready b s l
ready b s l e =
    let a = came (ltb 0 l.rows && leb l.rows 65535) _ _ e in
    let n = and_parts (ltb 0 l.rows) (leb l.rows 65535) a.0 in
    let q = long_enough 3 l.rows l.queue _ a.1 in
    let p = long_enough 4 l.rows l.plan _ q.1 in
    let m = long_enough 5 (length b.actions) l.marks _ p.1 in
    let w = long_enough 6 4096 l.work _ m.1 in
    record { some_row = ltb-true 0 l.rows n.0; few = leb-true l.rows 65535 n.1; queue = q.0; plan = p.0; marks = m.0; work = w.0; start = start_in b s w.1 }

-- a Take that is not refused
pub record Takable {C : Type 0} (b : Bench) (capacity : ℕ) (e : End C) (l : Lengths) : Type 0 where
  pub actions : length b.actions ≤ l.actions
  pub plan : capacity ≤ l.plan
  pub left : end_fault e ≡ None

pub takable : {C : Type 0} (b : Bench) (capacity : ℕ) (e : End C) (l : Lengths) → take_fault b capacity e l ≡ None → Takable b capacity e l
takable b capacity e l h =
    let a = long_enough 1 (length b.actions) l.actions _ h in
    let p = long_enough 4 capacity l.plan _ a.1 in
    record { actions = a.0; plan = p.0; left = p.1 }

pub step_left : {C : Type 0} (c : C) (plan : List ℕ) (k : ℕ) → end_fault (found c plan k) ≡ None → k < length plan
step_left c plan k e = ltb-true k (length plan) (came (ltb k (length plan)) _ None e).0
