-- The bench of an accepted book is lawful.
use Rattle.std.proofs.Common.{◌≡◌, ℕ, zero, suc, ◌+◌, ◌<◌, ◌≤◌, Bool, true, false, cond, List, [], ◌∷◌, ◌++◌, length, drop, Some, None, Ok, sym, refl, ap, ◌∙◌, subst, arith}
use Rattle.std.specs.List.{AllByRecursion}
use Rattle.std.proofs.ByRecursion.{All-push}
use Rattle.std.proofs.lemmas.List.{length_push}
use Rattle.std.proofs.lemmas.Bool.{or_parts}
use Rattle.task.specs.declared.data.Atom.{Atom}
use Rattle.task.specs.declared.refusal.Fault.TheVariants.{WrongLength}
use Rattle.task.specs.Settings.{some_atom}
use Rattle.task.specs.Benches.{Act, Bench, Rising, Inside, LawfulAct, Lawful, alike}
use Rattle.task.specs.Refusals.{refuse}
use Rattle.book.specs.declared.records.Kind.{Kind}
use Rattle.book.specs.declared.records.Kind.TheVariants as kind
use Rattle.book.specs.declared.Stage.{Stage}
use Rattle.book.specs.declared.Stage.TheVariants as stage
use Rattle.book.specs.Records.{Parts, variable_part, action_part, goal_part, parts_of}
use Rattle.book.specs.Format.{stage_after, atoms_fault, repeating, fault_in, grown, Reading, step_of, run, start, parse}
use Rattle.book.specs.Print.{kind_in}
use Rattle.book.proofs.Faults.{fine_atom, fine_act, fine_variable}
use Rattle.book.proofs.Accepted.{ok_same, then_ok, Admitted, admits, ended}

-- atoms without a fault are of the bench and rise
abbrev From : ℕ → Atom → Type 0
From floor a = floor ≤ a.variable

inside : (sizes : List ℕ) (floor : ℕ) (atoms : List Atom) → atoms_fault sizes floor atoms ≡ None → AllByRecursion (Inside sizes) atoms
inside sizes floor [] e = tt
inside sizes floor (a ∷ more) e =
    let f = fine_atom sizes floor a more e in
    ((f.variable, f.value), inside sizes (a.variable + 1) more f.on)

above : (sizes : List ℕ) (floor low : ℕ) (atoms : List Atom) → atoms_fault sizes floor atoms ≡ None → low < floor → AllByRecursion (λ b. low < b.variable) atoms
above sizes floor low [] e h = tt
above sizes floor low (a ∷ more) e h =
    let f = fine_atom sizes floor a more e in
    (omega (arith, f.rises), above sizes (a.variable + 1) low more f.on (omega (arith, f.rises)))

rising : (sizes : List ℕ) (floor : ℕ) (atoms : List Atom) → atoms_fault sizes floor atoms ≡ None → Rising atoms
rising sizes floor [] e = tt
rising sizes floor (a ∷ more) e =
    let f = fine_atom sizes floor a more e in
    (above sizes (a.variable + 1) a.variable more f.on (omega arith), rising sizes (a.variable + 1) more f.on)

apart : (conditions effects : List Atom) → repeating conditions effects ≡ false → AllByRecursion (λ e. some_atom (alike e) conditions ≡ false) effects
apart conditions [] h = tt
apart conditions (e ∷ more) h =
    let p = or_parts (some_atom (alike e) conditions) (repeating conditions more) h in
    (p.0, apart conditions more p.1)

lawful_act : (sizes : List ℕ) (count : ℕ) (a : Act) → fault_in sizes count (action_part a) ≡ None → LawfulAct sizes a
lawful_act sizes count a e =
    let f = fine_act sizes count a e in
    record {
      tenths = f.limited.tenths;
      presses = f.limited.presses;
      few_conditions = f.limited.few_conditions;
      few_effects = f.limited.few_effects;
      some_effect = f.some_effect;
      conditions_inside = inside sizes 0 a.conditions f.conditions;
      conditions_rise = rising sizes 0 a.conditions f.conditions;
      effects_inside = inside sizes 0 a.effects f.effects;
      effects_rise = rising sizes 0 a.effects f.effects;
      apart = apart a.conditions a.effects f.apart;
    }

-- what the stage says of the bench so far
abbrev Staged : Stage → Bench → Type 0
Staged stage.Variables b = (b.actions ≡ []) × (b.goal ≡ [])
Staged stage.Actions b = (1 ≤ length b.sizes) × (b.actions ≡ []) × (b.goal ≡ [])
Staged stage.Goal b = 1 ≤ length b.sizes
Staged stage.Done b = 1 ≤ length b.sizes

record Sound (s : Stage) (b : Bench) : Type 0 where
  few_variables : length b.sizes ≤ 64
  sizes : AllByRecursion (λ n. (1 ≤ n) × (n ≤ 32)) b.sizes
  few_actions : length b.actions ≤ 1024
  acts : AllByRecursion (LawfulAct b.sizes) b.actions
  goal_inside : AllByRecursion (Inside b.sizes) b.goal
  goal_rises : Rising b.goal
  staged : Staged s b

pub some_none : {X : Type 0} (x : X) → None ≡ Some x → ⊥
some_none x e = let z : ◌≡◌ {A = ℕ} 0 1 = cc in omega arith

pub some_same : {X : Type 0} (x y : X) → Some x ≡ Some y → x ≡ y
some_same x y e = cc

-- before and after a record that may stand
variable_stands : (s t : Stage) (b : Bench) → stage_after s kind.Variable ≡ Some t → Staged s b → (stage.Actions ≡ t) × (b.actions ≡ []) × (b.goal ≡ [])
variable_stands stage.Variables t b e h = (some_same _ _ e, h.0, h.1)
variable_stands stage.Actions t b e h = (some_same _ _ e, h.1, h.2)
variable_stands stage.Goal t b e h = absurd (some_none _ e)
variable_stands stage.Done t b e h = absurd (some_none _ e)

action_stands : (s t : Stage) (b : Bench) → stage_after s kind.Action ≡ Some t → Staged s b → (stage.Goal ≡ t) × (1 ≤ length b.sizes)
action_stands stage.Variables t b e h = absurd (some_none _ e)
action_stands stage.Actions t b e h = (some_same _ _ e, h.0)
action_stands stage.Goal t b e h = (some_same _ _ e, h)
action_stands stage.Done t b e h = absurd (some_none _ e)

goal_stands : (s t : Stage) (b : Bench) → stage_after s kind.Goal ≡ Some t → Staged s b → (stage.Done ≡ t) × (1 ≤ length b.sizes)
goal_stands stage.Variables t b e h = absurd (some_none _ e)
goal_stands stage.Actions t b e h = (some_same _ _ e, h.0)
goal_stands stage.Goal t b e h = (some_same _ _ e, h)
goal_stands stage.Done t b e h = absurd (some_none _ e)

held : (t : Bool) (x p : Parts) (at : ℕ) → cond t (Ok x) (refuse WrongLength at) ≡ Ok p → x ≡ p
held true x p at e = ok_same _ _ e
held false x p at e = absurd (let z : ◌≡◌ {A = ℕ} 0 1 = cc in omega arith)

pub same_kind : (k : Kind) (body : List ℕ) (at : ℕ) (p : Parts) → parts_of k body at ≡ Ok p → k ≡ kind_in p
same_kind kind.Variable body at p e = ap kind_in (held _ _ p at e)
same_kind kind.Action body at p e = ap kind_in (held _ _ p at e)
same_kind kind.Goal body at p e = ap kind_in (held _ _ p at e)

stays : (s t : Stage) (b : Bench) (p : Parts) → Sound s b → stage_after s (kind_in p) ≡ Some t → fault_in b.sizes (length b.actions) p ≡ None → Sound t (grown b p)
stays s t b (variable_part n) h e f =
    let v = fine_variable (length b.sizes) n f in
    let w = variable_stands s t b e h.staged in
    subst (λ z. Sound z (grown b (variable_part n))) w.0 (record {
      few_variables = omega (arith, length_push b.sizes n, v.room);
      sizes = All-push _ b.sizes n h.sizes (v.some, v.few);
      few_actions = h.few_actions;
      acts = subst (AllByRecursion (LawfulAct (b.sizes ++ n ∷ []))) (sym w.1) tt;
      goal_inside = subst (AllByRecursion (Inside (b.sizes ++ n ∷ []))) (sym w.2) tt;
      goal_rises = h.goal_rises;
      staged = (omega (arith, length_push b.sizes n), w.1, w.2);
    })
stays s t b (action_part a) h e f =
    let w = action_stands s t b e h.staged in
    subst (λ z. Sound z (grown b (action_part a))) w.0 (record {
      few_variables = h.few_variables;
      sizes = h.sizes;
      few_actions = omega (arith, length_push b.actions a, (fine_act b.sizes (length b.actions) a f).room);
      acts = All-push _ b.actions a h.acts (lawful_act b.sizes (length b.actions) a f);
      goal_inside = h.goal_inside;
      goal_rises = h.goal_rises;
      staged = w.1;
    })
stays s t b (goal_part atoms) h e f =
    let w = goal_stands s t b e h.staged in
    subst (λ z. Sound z (grown b (goal_part atoms))) w.0 (record {
      few_variables = h.few_variables;
      sizes = h.sizes;
      few_actions = h.few_actions;
      acts = h.acts;
      goal_inside = inside b.sizes 0 atoms f;
      goal_rises = rising b.sizes 0 atoms f;
      staged = w.1;
    })

step_stays : (σ : Reading) (bytes : List ℕ) (at : ℕ) (next : Reading × ℕ) → Sound σ.stage σ.bench → Admitted σ bytes at next → Sound next.0.stage next.0.bench
step_stays σ bytes at next h a =
    subst (λ z. Sound z.0.stage z.0.bench) (sym a.leads)
    (stays σ.stage a.stage σ.bench a.parts h (ap (stage_after σ.stage) (sym (same_kind a.head.kind _ at a.parts a.is_parts)) ∙ a.is_stage) a.fine)

run_stays : (fuel : ℕ) (σ τ : Reading) (bytes : List ℕ) (at : ℕ) → Sound σ.stage σ.bench → run fuel σ bytes at ≡ Ok τ → Sound τ.stage τ.bench
unfolding run
run_stays zero σ τ bytes at h e = subst (λ z. Sound z.stage z.bench) (ok_same _ _ e) h
run_stays (suc n) σ τ [] at h e = subst (λ z. Sound z.stage z.bench) (ok_same _ _ e) h
run_stays (suc n) σ τ (x ∷ xs) at h e =
    let p = then_ok (step_of σ (x ∷ xs) at) (λ p. run n p.0 (drop p.1 (x ∷ xs)) (at + p.1)) τ e in
    run_stays n p.0.0 τ (drop p.0.1 (x ∷ xs)) (at + p.0.1) (step_stays σ (x ∷ xs) at p.0 h (admits σ (x ∷ xs) at p.0 p.1)) p.2

pub lawful : (book : List ℕ) (b : Bench) → parse book ≡ Ok b → Lawful b
lawful book b e =
    let z = ended book b e in
    let none : Sound stage.Variables start.bench = record { few_variables = omega arith; sizes = tt; few_actions = omega arith; acts = tt; goal_inside = tt; goal_rises = tt; staged = (refl, refl) } in
    let h = run_stays (length book) start z.last book 0 none z.is in
    let some : 1 ≤ length z.last.bench.sizes = subst (λ s. Staged s z.last.bench) z.done h.staged in
    subst Lawful z.bench (record {
      some_variable = some;
      few_variables = h.few_variables;
      sizes = h.sizes;
      few_actions = h.few_actions;
      acts = h.acts;
      goal_inside = h.goal_inside;
      goal_rises = h.goal_rises;
    })
