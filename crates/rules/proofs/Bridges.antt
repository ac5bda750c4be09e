-- What a member calls for, by actions and by atoms.
use Rattle.std.proofs.Common.{◌≡◌, ℕ, ◌<◌, ◌≤◌, Bool, true, false, cond, ◌||◌, eqb, List, [], ◌∷◌, length, get_or, take, Some, None, Option, sym, refl, ap, ◌∙◌, subst, inl, inr, arith}
use Rattle.std.proofs.lemmas.Bool.Decides.{nat_tests}
use Rattle.std.proofs.lemmas.List.{get_or-take, length-take}
use Rattle.std.specs.List.{AllByRecursion}
use Rattle.std.proofs.ByRecursion.{All-get_or, All-weaker}
use Rattle.std.proofs.lemmas.Bool.{or_cases, or_left, or_right, eqb-true, eq-eqb}
use Rattle.task.specs.declared.data.Atom.{Atom}
use Rattle.task.specs.declared.data.Action.{Action}
use Rattle.task.specs.declared.data.Task.{Task}
use Rattle.task.specs.Settings.{holding, unmet, listed, sibling, some_atom, clash}
use Rattle.task.specs.Benches.{Act, Bench, idle, act, bench_of, alike, achieving, Inside, LawfulAct, Lawful}
use Rattle.rules.specs.Marks.{Marked, Zeros}
use Rattle.rules.specs.Rules.{Sized}
use Rattle.rules.specs.Sets.{wants, called, calls, stubborn}
use Rattle.rules.specs.Grows.{stubborn_smallest, closed_along}
use Rattle.rules.specs.Queues.{act_at}
use Rattle.rules.specs.Waits.{place, beside, asks, touches, Wrote, Covers, Waiting, Swept}
use Rattle.rules.proofs.Closings.{within, marks_are, bench_length}
use Rattle.rules.proofs.Passes.{find, due_from}
use Rattle.rules.proofs.Writes.{wrote_new}

unmet_among : (P : Atom → Type 0) (s : List ℕ) (cs : List Atom) (c : Atom) → AllByRecursion P cs → unmet s cs ≡ Some c → P c
unmet_among P s [] c all e = absurd (let z : ◌≡◌ {A = ℕ} 0 1 = cc in omega arith)
unmet_among P s (d ∷ cs) c all e = by (holding s d) (unmet_among P s cs c all.1) e
  where
    by : (x : Bool) → (unmet s cs ≡ Some c → P c) → cond x (unmet s cs) (Some d) ≡ Some c → P c
    by true ih e = ih e
    by false ih e = let same : d ≡ c = cc in subst P same all.0

-- where each variable has so many values
module _ (sizes : List ℕ) where
  -- an atom that has a byte of its own
  abbrev Small : Atom → Type 0
  Small a = (a.variable < 64) × (a.value < 32) × (a.value < get_or sizes a.variable 0) × (get_or sizes a.variable 0 ≤ 32)

  record SmallAct (a : Act) : Type 0 where
    conditions : AllByRecursion Small a.conditions
    effects : AllByRecursion Small a.effects

  module _ (b : Bench) (lawful : Lawful b) (same : (v : ℕ) → v < length b.sizes → get_or b.sizes v 0 ≡ get_or sizes v 0) where
    small : (a : Atom) → Inside b.sizes a → Small a
    small a h =
        let n = All-get_or (λ n. (1 ≤ n) × (n ≤ 32)) b.sizes a.variable 0 h.0 lawful.sizes in
        let q = same a.variable h.0 in
        (omega (arith, h.0, lawful.few_variables), omega (arith, h.1, n.1), omega (arith, h.1, q), omega (arith, n.1, q))

    small_act : (k : ℕ) → k < length b.actions → SmallAct (act b k)
    small_act k low =
        let l = All-get_or (LawfulAct b.sizes) b.actions k idle low lawful.acts in
        record { conditions = All-weaker (Inside b.sizes) Small small (act b k).conditions l.conditions_inside; effects = All-weaker (Inside b.sizes) Small small (act b k).effects l.effects_inside }

    small_goal : AllByRecursion Small b.goal
    small_goal = All-weaker (Inside b.sizes) Small small b.goal lawful.goal_inside

  -- siblings lie beside each other in a collection
  beside_from : (from : ℕ) (e c : Atom) → Small e → sibling e c ≡ true → beside sizes from c (place from e) ≡ true
  beside_from from e c near h =
      let same : e.variable ≡ c.variable = grind (arith, nat_tests) in
      let q = ap (λ v. get_or sizes v 0) same in
      grind (arith, nat_tests)

  beside_sibling : (from : ℕ) (e c : Atom) (x : ℕ) → Small e → Small c → place from e ≡ x → beside sizes from c x ≡ true → sibling e c ≡ true
  beside_sibling from e c x small near is h = grind (arith, nat_tests)

  sibling_sym : (e c : Atom) → sibling e c ≡ true → sibling c e ≡ true
  sibling_sym e c h = grind (arith, nat_tests)

  -- the two collections lie apart
  beside_low : (c : Atom) (x : ℕ) → Small c → beside sizes 0 c x ≡ true → x < 2048
  beside_low c x near h = grind (arith, nat_tests)

  beside_high : (c : Atom) (x : ℕ) → beside sizes 2048 c x ≡ true → 2048 ≤ x
  beside_high c x h = grind (arith, nat_tests)

  -- who achieves an atom touches its byte, and the other way round
  achieving_touches : (a : Act) (c : Atom) → SmallAct a → achieving a c ≡ true → touches a (place 0 c) ≡ true
  achieving_touches a c small h =
      let f = find Small (λ e. alike e c) a.effects small.effects h in
      let p = f.passes in
      or_left _ _ (f.again (λ e. eqb (place 0 e) (place 0 c)) (grind (arith, nat_tests)))

  touches_achieving : (a : Act) (c : Atom) (x : ℕ) → SmallAct a → Small c → eqb (place 0 c) x ≡ true → touches a x ≡ true → achieving a c ≡ true
  touches_achieving a c x small near at h =
      let is = eqb-true _ _ at in
      elim (or_cases (some_atom (λ e. eqb (place 0 e) x) a.effects) (some_atom (λ c. eqb (place 2048 c) x) a.conditions) h) [
        | inl q ↦ (let f = find Small (λ e. eqb (place 0 e) x) a.effects small.effects q in let p = eqb-true _ _ f.passes in let small = f.holds in f.again (λ e. alike e c) (grind (arith, nat_tests)))
        | inr q ↦ (let f = find Small (λ c. eqb (place 2048 c) x) a.conditions small.conditions q in let p = eqb-true _ _ f.passes in absurd (omega (arith, near.0, near.1)))
      ]

  -- an effect of one lies beside an atom of the other
  effect_clash : (a : Act) (cs : List Atom) (x : ℕ) → SmallAct a → AllByRecursion Small cs → some_atom (λ c. beside sizes 0 c x) cs ≡ true → touches a x ≡ true → clash a.effects cs ≡ true
  effect_clash a cs x small near h t =
      let g = find Small (λ c. beside sizes 0 c x) cs near h in
      elim (or_cases (some_atom (λ e. eqb (place 0 e) x) a.effects) (some_atom (λ c. eqb (place 2048 c) x) a.conditions) t) [
        | inl q ↦ (let f = find Small (λ e. eqb (place 0 e) x) a.effects small.effects q in f.again (λ e. some_atom (sibling e) cs) (g.again (sibling f.atom) (beside_sibling 0 f.atom g.atom x f.holds g.holds (eqb-true _ _ f.passes) g.passes)))
        | inr q ↦ (let f = find Small (λ c. eqb (place 2048 c) x) a.conditions small.conditions q in let i = eqb-true _ _ f.passes in absurd (omega (arith, beside_low g.atom x g.holds g.passes)))
      ]

  condition_clash : (a : Act) (es : List Atom) (x : ℕ) → SmallAct a → some_atom (λ e. beside sizes 2048 e x) es ≡ true → AllByRecursion Small es → touches a x ≡ true → clash es a.conditions ≡ true
  condition_clash a es x small h near t =
      let g = find Small (λ e. beside sizes 2048 e x) es near h in
      elim (or_cases (some_atom (λ e. eqb (place 0 e) x) a.effects) (some_atom (λ c. eqb (place 2048 c) x) a.conditions) t) [
        | inl q ↦ (let f = find Small (λ e. eqb (place 0 e) x) a.effects small.effects q in let i = eqb-true _ _ f.passes in absurd (omega (arith, f.holds.0, f.holds.1, beside_high g.atom x g.passes)))
        | inr q ↦ (let f = find Small (λ c. eqb (place 2048 c) x) a.conditions small.conditions q in g.again (λ e. some_atom (sibling e) a.conditions) (f.again (sibling g.atom) (sibling_sym f.atom g.atom (beside_sibling 2048 f.atom g.atom x f.holds g.holds (eqb-true _ _ f.passes) g.passes))))
      ]

  -- what touches a byte that a member asks for is called for
  asks_called : (o : Option Atom) (m a : Act) (x : ℕ) → ((c : Atom) → o ≡ Some c → Small c) → SmallAct m → SmallAct a → asks sizes o m x ≡ true → touches a x ≡ true → called o m a ≡ true
  asks_called (Some c) m a x near sm sa h t = touches_achieving a c x sa (near c refl) h t
  asks_called None m a x near sm sa h t =
      elim (or_cases (some_atom (λ c. beside sizes 0 c x) m.conditions) (some_atom (λ e. beside sizes 0 e x) m.effects || some_atom (λ e. beside sizes 2048 e x) m.effects) h) [
        | inl q ↦ or_left (clash a.effects m.conditions) (clash a.effects m.effects || clash m.effects a.conditions) (effect_clash a m.conditions x sa sm.conditions q t)
        | inr r ↦ elim (or_cases (some_atom (λ e. beside sizes 0 e x) m.effects) (some_atom (λ e. beside sizes 2048 e x) m.effects) r) [
          | inl q ↦ or_right (clash a.effects m.conditions) (clash a.effects m.effects || clash m.effects a.conditions) (or_left (clash a.effects m.effects) (clash m.effects a.conditions) (effect_clash a m.effects x sa sm.effects q t))
          | inr q ↦ or_right (clash a.effects m.conditions) (clash a.effects m.effects || clash m.effects a.conditions) (or_right (clash a.effects m.effects) (clash m.effects a.conditions) (condition_clash a m.effects x sa q sm.effects t))
        ]
      ]

  -- a byte by which what is called for is known
  record Known (o : Option Atom) (m a : Act) : Type 0 where
    byte : ℕ
    low : byte < 4096
    asked : asks sizes o m byte ≡ true
    touched : touches a byte ≡ true

  clash_effect : (a : Act) (cs : List Atom) → SmallAct a → AllByRecursion Small cs → clash a.effects cs ≡ true → (x : ℕ) × (x < 4096) × (some_atom (λ c. beside sizes 0 c x) cs ≡ true) × (touches a x ≡ true)
  clash_effect a cs small near h =
      let f = find Small (λ e. some_atom (sibling e) cs) a.effects small.effects h in
      let g = find Small (sibling f.atom) cs near f.passes in
      let x = place 0 f.atom in
      (x, omega (arith, f.holds.0, f.holds.1), g.again (λ c. beside sizes 0 c x) (beside_from 0 f.atom g.atom f.holds g.passes), or_left _ _ (f.again (λ e. eqb (place 0 e) x) (eq-eqb _ _ refl)))

  clash_condition : (a : Act) (es : List Atom) → SmallAct a → AllByRecursion Small es → clash es a.conditions ≡ true → (x : ℕ) × (x < 4096) × (some_atom (λ e. beside sizes 2048 e x) es ≡ true) × (touches a x ≡ true)
  clash_condition a es small near h =
      let f = find Small (λ e. some_atom (sibling e) a.conditions) es near h in
      let g = find Small (sibling f.atom) a.conditions small.conditions f.passes in
      let x = place 2048 g.atom in
      (x, omega (arith, g.holds.0, g.holds.1), f.again (λ e. beside sizes 2048 e x) (beside_from 2048 g.atom f.atom g.holds (sibling_sym f.atom g.atom g.passes)), or_right _ _ (g.again (λ c. eqb (place 2048 c) x) (eq-eqb _ _ refl)))

  called_asks : (o : Option Atom) (m a : Act) → ((c : Atom) → o ≡ Some c → Small c) → SmallAct m → SmallAct a → called o m a ≡ true → Known o m a
  called_asks (Some c) m a near sm sa h = record { byte = place 0 c; low = omega (arith, (near c refl).0, (near c refl).1); asked = eq-eqb _ _ refl; touched = achieving_touches a c sa h }
  called_asks None m a near sm sa h =
      elim (or_cases (clash a.effects m.conditions) (clash a.effects m.effects || clash m.effects a.conditions) h) [
        | inl q ↦ (let k = clash_effect a m.conditions sa sm.conditions q in record { byte = k.0; low = k.1; asked = or_left _ _ k.2; touched = k.3 })
        | inr r ↦ elim (or_cases (clash a.effects m.effects) (clash m.effects a.conditions) r) [
          | inl q ↦ (let k = clash_effect a m.effects sa sm.effects q in record { byte = k.0; low = k.1; asked = or_right _ _ (or_left _ _ k.2); touched = k.3 })
          | inr q ↦ (let k = clash_condition a m.effects sa sm.effects q in record { byte = k.0; low = k.1; asked = or_right (some_atom (λ c. beside sizes 0 c k.0) m.conditions) _ (or_right (some_atom (λ e. beside sizes 0 e k.0) m.effects) _ k.2); touched = k.3 })
        ]
      ]

-- from the first unmet goal atom on, until no action is due
pub sweep_closes : (task : Task) (table : List Action) (s : List ℕ) (g : Atom) {marks work work' marks'' work'' : List ℕ} → Lawful (bench_of task table) → Sized task table (length marks) (length work) → Zeros marks → Zeros work → unmet s (listed task.goal) ≡ Some g
    → Wrote (eqb (place 0 g)) work work' → Swept task.sizes s (take task.actions table) marks work' marks'' work'' → Marked (stubborn (bench_of task table) s) marks''
sweep_closes task table s g {marks} {work} {work'} {marks''} {work''} lawful sized zeros clear first wrote sw = marks_are b s marks'' (sw.as_many ∙ sized.0 ∙ sym count) sw.bits start along (λ k l m. after.marked (stubborn b s) cover k m)
  where
    b : Bench
    b = bench_of task table

    acts : List Action
    acts = take task.actions table

    count : length b.actions ≡ task.actions
    count = bench_length task table sized.1

    root : ℕ → Bool
    root x = eqb (place 0 g) x

    same : (v : ℕ) → v < length b.sizes → get_or b.sizes v 0 ≡ get_or task.sizes v 0
    same v low = get_or-take task.variables task.sizes v 0 (omega (arith, low, length-take task.variables task.sizes))

    as_small : (k : ℕ) → k < task.actions → SmallAct task.sizes (act_at acts k)
    as_small k low = small_act task.sizes b lawful same k (subst (λ n. k < n) (sym count) low)

    near : Small task.sizes g
    near = unmet_among (Small task.sizes) s b.goal g (small_goal task.sizes b lawful same) first

    nearer : (k : ℕ) → k < task.actions → (c : Atom) → unmet s (act_at acts k).conditions ≡ Some c → Small task.sizes c
    nearer k low c e = unmet_among (Small task.sizes) s (act_at acts k).conditions c (as_small k low).conditions e

    before : Waiting root task.sizes s acts marks work'
    before = record {
      roots = λ x l r. wrote.bytes x (subst (λ n. x < n) wrote.as_many l) ∙ ap (λ c. cond c 1 (get_or work x 0)) r;
      asked = λ k x l m e. absurd (omega (arith, zeros k (within marks k m)));
      marked = λ member cov k m. absurd (omega (arith, zeros k (within marks k m)));
      served = λ member cov x e i l t.
          let low = subst (λ n. x < n) wrote.as_many (within work' x e) in
          elim (wrote_new _ wrote x low e) [ inl o ↦ absurd (omega (arith, clear x low)) | inr r ↦ cov.start i x l r t ];
    }

    after : Waiting root task.sizes s acts marks'' work''
    after = sw.keeps root before

    at : {k : ℕ} → k < length marks'' → k < task.actions
    at {k} l = subst (λ n. k < n) (sw.as_many ∙ sized.0) l

    cover : Covers root task.sizes s acts (length marks'') (stubborn b s)
    cover = record {
      start = λ i x l r t. (stubborn_smallest b s).closed.goals g first i (touches_achieving task.sizes (act_at acts i) g x (as_small i (at l)) near r t);
      along = λ j i x l h m e t.
          closed_along b s (stubborn b s) (stubborn_smallest b s).closed j i m
          (asks_called task.sizes (unmet s (act_at acts j).conditions) (act_at acts j) (act_at acts i) x (nearer j (at l)) (as_small j (at l)) (as_small i (at h)) e t);
    }

    room : {x : ℕ} → x < 4096 → x < length work''
    room {x} l = subst (λ n. x < n) (sym (sw.room ∙ wrote.as_many ∙ sized.2)) l

    -- an action that touches a byte that waits is marked
    serve : (i x : ℕ) → i < task.actions → get_or work'' x 0 ≡ 1 → touches (act_at acts i) x ≡ true → get_or marks'' i 0 ≡ 1
    serve i x low on t = sw.all i (subst (λ n. i < n) (sym sized.0) low) (due_from work'' (act_at acts i) x on t)

    start : (i : ℕ) → i < length b.actions → wants (unmet s b.goal) (act b i) ≡ true → get_or marks'' i 0 ≡ 1
    start i l e =
        let low = subst (λ n. i < n) count l in
        serve i (place 0 g) low (after.roots (place 0 g) (room (omega (arith, near.0, near.1))) (eq-eqb _ _ refl))
        (achieving_touches task.sizes (act_at acts i) g (as_small i low) (ap (λ o. wants o (act b i)) (sym first) ∙ e))

    along : (j i : ℕ) → i < length b.actions → get_or marks'' j 0 ≡ 1 → calls b s j i ≡ true → get_or marks'' i 0 ≡ 1
    along j i l m e =
        let low = subst (λ n. i < n) count l in
        let lower = at (within marks'' j m) in
        let k = called_asks task.sizes (unmet s (act_at acts j).conditions) (act_at acts j) (act_at acts i) (nearer j lower) (as_small j lower) (as_small i low) e in
        serve i k.byte low (after.asked j k.byte (room k.low) m k.asked) k.touched
