-- What is due, and passes over the actions.
use Rattle.std.proofs.Common.{◌≡◌, ℕ, ◌+◌, ◌-◌, ◌<◌, ◌≤◌, Bool, true, false, cond, eqb, List, [], ◌∷◌, length, get_or, set, sum, sym, refl, ap, ◌∙◌, subst, inl, inr, arith, length-set, get_or-set_other}
use Rattle.std.specs.List.{AllByRecursion}
use Rattle.std.proofs.lemmas.Bool.{both_ways, or_cases, or_left, or_right, eqb-true, eq-eqb, cases_eq, cases_Bool}
use Rattle.std.proofs.ByRecursion.{All-set, sum_by_le}
use Rattle.std.proofs.lemmas.List.Sums.{sum_by-set}
use Rattle.task.specs.declared.data.Atom.{Atom}
use Rattle.task.specs.declared.data.Action.{Action}
use Rattle.task.specs.Settings.{unmet, some_atom}
use Rattle.task.specs.Benches.{Act}
use Rattle.rules.specs.Queues.{act_at}
use Rattle.rules.specs.Waits.{place, waits, due, asks, asking, touches, Wrote, Covers, Waiting, Handled, Passed}
use Rattle.rules.proofs.Closings.{within}
use Rattle.rules.proofs.Writes.{wrote_stays, wrote_new}

-- an atom that passes a test, from a list with a property
pub record Found (P : Atom → Type 0) (test : Atom → Bool) (atoms : List Atom) : Type 0 where
  pub atom : Atom
  pub holds : P atom
  pub passes : test atom ≡ true
  pub again : (other : Atom → Bool) → other atom ≡ true → some_atom other atoms ≡ true

pub find : (P : Atom → Type 0) (test : Atom → Bool) (atoms : List Atom) → AllByRecursion P atoms → some_atom test atoms ≡ true → Found P test atoms
find P test [] all e = absurd (both_ways _ refl e)
find P test (a ∷ more) all e =
    elim (or_cases (test a) (some_atom test more) e) [
      | inl q ↦ record { atom = a; holds = all.0; passes = q; again = λ other h. or_left _ _ h }
      | inr q ↦ (let f = find P test more all.1 q in record { atom = f.atom; holds = f.holds; passes = f.passes; again = λ other h. or_right _ _ (f.again other h) })
    ]

plain : (atoms : List Atom) → AllByRecursion (λ _. Unit {0}) atoms
plain [] = tt
plain (a ∷ more) = (tt, plain more)

-- an action is due where it touches a byte that is 1
pub due_at : (work : List ℕ) (a : Act) → due work a ≡ true → (x : ℕ) × (get_or work x 0 ≡ 1) × (touches a x ≡ true)
due_at work a e =
    elim (or_cases (some_atom (waits work 0) a.effects) (some_atom (waits work 2048) a.conditions) e) [
      | inl q ↦ (let f = find (λ _. Unit {0}) (waits work 0) a.effects (plain a.effects) q in (place 0 f.atom, eqb-true _ _ f.passes, or_left _ _ (f.again (λ e. eqb (place 0 e) (place 0 f.atom)) (eq-eqb _ _ refl))))
      | inr q ↦ (let f = find (λ _. Unit {0}) (waits work 2048) a.conditions (plain a.conditions) q in (place 2048 f.atom, eqb-true _ _ f.passes, or_right _ _ (f.again (λ e. eqb (place 2048 e) (place 2048 f.atom)) (eq-eqb _ _ refl))))
    ]

pub due_from : (work : List ℕ) (a : Act) (x : ℕ) → get_or work x 0 ≡ 1 → touches a x ≡ true → due work a ≡ true
due_from work a x on e =
    elim (or_cases (some_atom (λ e. eqb (place 0 e) x) a.effects) (some_atom (λ c. eqb (place 2048 c) x) a.conditions) e) [
      | inl q ↦ (let f = find (λ _. Unit {0}) (λ e. eqb (place 0 e) x) a.effects (plain a.effects) q in or_left _ _ (f.again (waits work 0) (eq-eqb _ _ (ap (λ y. get_or work y 0) (eqb-true _ _ f.passes) ∙ on))))
      | inr q ↦ (let f = find (λ _. Unit {0}) (λ e. eqb (place 2048 e) x) a.conditions (plain a.conditions) q in or_right _ _ (f.again (waits work 2048) (eq-eqb _ _ (ap (λ y. get_or work y 0) (eqb-true _ _ f.passes) ∙ on))))
    ]

module _ (sizes s : List ℕ) (table : List Action) where
  -- one more action marked
  module _ (marks work work' : List ℕ) (number : ℕ) (low : number < length marks) (is_due : due work (act_at table number) ≡ true) (wrote : Wrote (asks sizes (unmet s (act_at table number).conditions) (act_at table number)) work work') (root : ℕ → Bool) (w : Waiting root sizes s table marks work) where
    joins : (member : ℕ → Bool) → Covers root sizes s table (length marks) member → member number ≡ true
    joins member cov = let d = due_at work (act_at table number) is_due in w.served member cov d.0 d.1 number low d.2

    back : {member : ℕ → Bool} → Covers root sizes s table (length (set marks number 1)) member → Covers root sizes s table (length marks) member
    back {member} cov = subst (λ n. Covers root sizes s table n member) (length-set marks number 1) cov

    old : (k : ℕ) → (k ≡ number → ⊥) → get_or (set marks number 1) k 0 ≡ 1 → get_or marks k 0 ≡ 1
    old k other e = sym (get_or-set_other marks number k 1 0 other) ∙ e

    lower : {x : ℕ} → x < length work' → x < length work
    lower {x} l = subst (λ n. x < n) wrote.as_many l

    pub waiting_more : Waiting root sizes s table (set marks number 1) work'
    waiting_more = record {
      roots = λ x l r. wrote_stays _ wrote x (lower l) (w.roots x (lower l) r);
      asked = λ k x l m e.
          elim (cases_eq k number) [
            | inl q ↦ wrote.bytes x (lower l) ∙ ap (λ b. cond b 1 (get_or work x 0)) (subst (λ y. asking sizes s table y x ≡ true) q e)
            | inr q ↦ wrote_stays _ wrote x (lower l) (w.asked k x (lower l) (old k q m) e)
          ];
      marked = λ member cov k m. elim (cases_eq k number) [ inl q ↦ subst (λ y. member y ≡ true) (sym q) (joins member (back cov)) | inr q ↦ w.marked member (back cov) k (old k q m) ];
      served = λ member cov x e i l t.
          let l' = subst (λ n. i < n) (length-set marks number 1) l in
          elim (wrote_new _ wrote x (lower (within work' x e)) e) [
            | inl o ↦ w.served member (back cov) x o i l' t
            | inr a ↦ (back cov).along number i x low l' (joins member (back cov)) a t
          ];
    }

  module _ {marks work marks' work' : List ℕ} {more : Bool} (i : ℕ) (p : Passed sizes s table i marks work more marks' work') where
    no_less : sum marks ≤ sum marks'
    no_less = elim (cases_Bool more) [ inl e ↦ omega (arith, p.some e) | inr e ↦ (let q = ap sum (p.none e).0 in omega arith) ]

    pub passed_more : {marks'' work'' : List ℕ} (a : Act) → act_at table i ≡ a → i < length marks → Handled sizes s a i marks' work' marks'' work'' true → Passed sizes s table (i + 1) marks work true marks'' work''
    passed_more {marks''} {work''} a is low handled =
        let h = subst (λ (b : Act). Handled sizes s b i marks' work' marks'' work'' true) (sym is) handled in
        let lower = subst (λ n. i < n) (sym p.as_many) low in
        let grown = sum_by-set (λ x. x) marks' i 1 0 lower in
        subst (λ m. Passed sizes s table (i + 1) marks work true m work'') (sym h.2)
        (record {
          as_many = length-set marks' i 1 ∙ p.as_many;
          room = h.3.as_many ∙ p.room;
          bits = All-set (λ x. x ≤ 1) marks' i 1 (omega arith) p.bits;
          keeps = λ root w. waiting_more marks' work' work'' i lower h.1 h.3 root (p.keeps root w);
          some = λ e. omega (arith, no_less, grown, h.0);
          none = λ e. absurd (both_ways _ e refl);
        })

    pub passed_skip : {marks'' work'' : List ℕ} (a : Act) → act_at table i ≡ a → Handled sizes s a i marks' work' marks'' work'' false → Passed sizes s table (i + 1) marks work more marks'' work''
    passed_skip {marks''} {work''} a is handled =
        let h = subst (λ (b : Act). Handled sizes s b i marks' work' marks'' work'' false) (sym is) handled in
        subst (λ m. Passed sizes s table (i + 1) marks work more m work'') (sym h.0)
        (subst (λ v. Passed sizes s table (i + 1) marks work more marks' v) (sym h.1)
        (record {
          as_many = p.as_many;
          room = p.room;
          bits = p.bits;
          keeps = p.keeps;
          some = p.some;
          none = λ e. (let n = p.none e in (n.0, n.1, λ k l d. elim (cases_eq k i) [ inl q ↦ subst (λ y. get_or marks y 0 ≡ 1) (sym q) (ap (λ m. get_or m i 0) (sym n.0) ∙ h.2 (ap (λ v. due v (act_at table i)) n.1 ∙ subst (λ y. due work (act_at table y) ≡ true) q d)) | inr q ↦ n.2 k (omega arith) d ]));
        }))

  -- passes one after another
  pub record Sweeping (marks work marks' work' : List ℕ) : Type 0 where
    pub as_many : length marks' ≡ length marks
    pub room : length work' ≡ length work
    pub bits : AllByRecursion (λ x. x ≤ 1) marks'
    pub keeps : (root : ℕ → Bool) → Waiting root sizes s table marks work → Waiting root sizes s table marks' work'

  module _ {marks work marks' work' marks'' work'' : List ℕ} {more : Bool} (g : Sweeping marks work marks' work') (p : Passed sizes s table (length marks') marks' work' more marks'' work'') where
    pub sweeping_less : more ≡ true → length marks - sum marks'' < length marks - sum marks'
    sweeping_less e = omega (arith, sum_by_le (λ x. x) 1 marks'' p.bits, p.some e, p.as_many, g.as_many)
