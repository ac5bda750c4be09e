-- One more in line.
use Rattle.std.proofs.Common.{◌≡◌, ℕ, ◌+◌, ◌<◌, ◌≤◌, Bool, true, false, eqb, ◌≢◌, List, length, get_or, set, sum, sym, ap, ◌∙◌, subst, inl, inr, arith, length-set, get_or-set_other, get_or-set_same}
use Rattle.std.specs.List.{AllByRecursion}
use Rattle.std.proofs.lemmas.Bool.{both_ways, eqb-true, eq-eqb, cases_eq}
use mathlib.Core.Logic.{∥∥₁_elim}
use Rattle.std.proofs.lemmas.Grind.{common_steps}
use Rattle.std.specs.Coded.{le_prop}
use Rattle.std.proofs.Math.Nat.{ℕ_set}
use Rattle.std.proofs.Math.Bool.{Bool-set}
use Rattle.std.proofs.ByRecursion.{All-from_get_or, All-get_or, All-set, sum_by_le}
use Rattle.std.proofs.lemmas.List.Sums.{sum_by-set}
use Rattle.std.proofs.lemmas.List.{get_or-map}
use Rattle.task.specs.declared.data.Action.{Action}
use Rattle.task.specs.Benches.{act_of, idle}
use Rattle.rules.specs.Marks.{Zeros}
use Rattle.rules.specs.Sets.{some_below}
use Rattle.rules.specs.Grows.{some_from, some_at}
use Rattle.rules.specs.Queues.{act_at, number_at, lined_up, Line, Joined}

number_same : (work : List ℕ) (p number : ℕ) → length work ≡ 4096 → p < 2048 → number_at (lined_up work p number) p ≡ number
number_same work p number room low = grind (arith, common_steps)

number_other : (work : List ℕ) (p q number : ℕ) → p < 2048 → q < 2048 → q ≢ p → number_at (lined_up work p number) q ≡ number_at work q
number_other work p q number low lower apart = grind (arith, common_steps)

-- a line whose proof is hidden in its type
pub line_had : {marks work : List ℕ} {tail : ℕ} → ∥ Line marks work tail ∥₁ → Line marks work tail
line_had {marks} {work} {tail} h = record {
  room = ∥∥₁_elim h (ℕ_set _ _) (λ l. l.room);
  few = ∥∥₁_elim h le_prop (λ l. l.few);
  bits = All-from_get_or (λ x. x ≤ 1) marks 0 (λ i low. ∥∥₁_elim h le_prop (λ l. All-get_or (λ x. x ≤ 1) marks i 0 low l.bits));
  counted = ∥∥₁_elim h (ℕ_set _ _) (λ l. l.counted);
  listed = λ k low e. (let x = some_at (λ p. eqb (number_at work p) k) tail (found k low e) in (x.0, x.1, eqb-true _ _ x.2));
  valid = λ p low. (∥∥₁_elim h le_prop (λ l. (l.valid p low).0), ∥∥₁_elim h (ℕ_set _ _) (λ l. (l.valid p low).1));
}
  where
    found : (k : ℕ) → k < length marks → get_or marks k 0 ≡ 1 → some_below (λ p. eqb (number_at work p) k) tail ≡ true
    found k low e = ∥∥₁_elim h (Bool-set _ _) (λ l. let x = l.listed k low e in some_from (λ p. eqb (number_at work p) k) tail x.0 x.1 (eq-eqb _ _ x.2))

-- nobody in line
pub line_none : {marks work : List ℕ} → length work ≡ 4096 → length marks ≤ 1024 → Zeros marks → ∥ Line marks work 0 ∥₁
line_none {marks} room few zeros = ∣ record {
  room = room;
  few = few;
  bits = All-from_get_or (λ x. x ≤ 1) marks 0 (λ i l. omega (arith, zeros i l));
  counted = (let h = sum_by_le (λ x. x) 0 marks (All-from_get_or (λ x. x ≤ 0) marks 0 (λ i l. omega (arith, zeros i l))) in omega arith);
  listed = λ k l e. absurd (omega (arith, zeros k l));
  valid = λ p h. absurd (omega arith);
} ∣₁

pub tail_low : {marks work : List ℕ} {tail : ℕ} → Line marks work tail → tail ≤ length marks
tail_low {marks} l = let h = sum_by_le (λ x. x) 1 marks l.bits in omega (arith, l.counted)

module _ {marks work : List ℕ} {tail number : ℕ} (l : Line marks work tail) (low : number < length marks) (off : get_or marks number 0 ≡ 1 → ⊥) where
  was : get_or marks number 0 ≡ 0
  was = let h = All-get_or (λ x. x ≤ 1) marks number 0 low l.bits in omega arith

  more : sum (set marks number 1) ≡ tail + 1
  more = let h = sum_by-set (λ x. x) marks number 1 0 low in omega (arith, l.counted, was)

  bits : AllByRecursion (λ x. x ≤ 1) (set marks number 1)
  bits = All-set (λ x. x ≤ 1) marks number 1 (omega arith) l.bits

  pub tail_room : tail < length marks
  tail_room = let h = sum_by_le (λ x. x) 1 (set marks number 1) bits in omega (arith, more, length-set marks number 1)

  at_other : (k : ℕ) → (k ≡ number → ⊥) → get_or (set marks number 1) k 0 ≡ get_or marks k 0
  at_other k d = get_or-set_other marks number k 1 0 d

  at_same : get_or (set marks number 1) number 0 ≡ 1
  at_same = get_or-set_same marks number 1 0 low

  stays : (k : ℕ) → get_or marks k 0 ≡ 1 → get_or (set marks number 1) k 0 ≡ 1
  stays k e = elim (cases_eq k number) [ inl q ↦ subst (λ x. get_or (set marks number 1) x 0 ≡ 1) (sym q) at_same | inr q ↦ at_other k q ∙ e ]

  narrow : tail < 2048
  narrow = omega (arith, tail_room, l.few)

  here : number_at (lined_up work tail number) tail ≡ number
  here = number_same work tail number l.room narrow

  there : (p : ℕ) → p < tail → number_at (lined_up work tail number) p ≡ number_at work p
  there p h = number_other work tail p number narrow (omega (arith, narrow)) (omega arith)

  pub joined_new : Joined (eqb number) (length marks) marks work tail (set marks number 1) (lined_up work tail number) (tail + 1)
  joined_new = record {
    line = record {
      room = length-set _ _ _ ∙ length-set _ _ _ ∙ l.room;
      few = simp length-set l.few;
      bits = bits;
      counted = sym more;
      listed = λ k h e. listed k (subst (λ x. k < x) (length-set marks number 1) h) e;
      valid = valid;
    };
    as_many = length-set marks number 1;
    longer = omega arith;
    kept = there;
    stay = stays;
    new = λ k h e. elim (cases_eq k number) [ inl q ↦ inr (eq-eqb number k (sym q)) | inr q ↦ inl (sym (at_other k q) ∙ e) ];
    all = λ k h e. subst (λ x. get_or (set marks number 1) x 0 ≡ 1) (eqb-true number k e) at_same;
  }
    where
      listed : (k : ℕ) → k < length marks → get_or (set marks number 1) k 0 ≡ 1 → (p : ℕ) × (p < tail + 1) × (number_at (lined_up work tail number) p ≡ k)
      listed k h e =
          elim (cases_eq k number) [
            | inl q ↦ (tail, omega arith, here ∙ sym q)
            | inr q ↦ (let x = l.listed k h (sym (at_other k q) ∙ e) in (x.0, omega (arith, x.1), there x.0 x.1 ∙ x.2))
          ]

      valid : (p : ℕ) → p < tail + 1 → (number_at (lined_up work tail number) p < length (set marks number 1)) × (get_or (set marks number 1) (number_at (lined_up work tail number) p) 0 ≡ 1)
      valid p h =
          elim (cases_eq p tail) [
            | inl q ↦ subst (λ x. (number_at (lined_up work tail number) x < length (set marks number 1)) × (get_or (set marks number 1) (number_at (lined_up work tail number) x) 0 ≡ 1)) (sym q) (subst (λ y. (y < length (set marks number 1)) × (get_or (set marks number 1) y 0 ≡ 1)) (sym here) (simp length-set low, at_same))
            | inr q ↦ (let v = l.valid p (omega arith) in subst (λ y. (y < length (set marks number 1)) × (get_or (set marks number 1) y 0 ≡ 1)) (sym (there p (omega arith))) (simp length-set v.0, stays _ v.1))
          ]

-- the line with one more
pub line_more : {marks work : List ℕ} {tail number : ℕ} → Line marks work tail → number < length marks → (get_or marks number 0 ≡ 1 → ⊥) → ∥ Line (set marks number 1) (lined_up work tail number) (tail + 1) ∥₁
line_more l low off = ∣ (joined_new l low off).line ∣₁

-- a pass over the actions, in which those that pass a test join
module _ (test : ℕ → Bool) (i : ℕ) {marks work marks' work' : List ℕ} {tail tail' : ℕ} (j : Joined test i marks work tail marks' work' tail') where
  pub joined_more : {marks'' work'' : List ℕ} {tail'' : ℕ} → i < length marks → test i ≡ true → Joined (eqb i) (length marks') marks' work' tail' marks'' work'' tail'' → Joined test (i + 1) marks work tail marks'' work'' tail''
  joined_more low passes m = record {
    line = m.line;
    as_many = m.as_many ∙ j.as_many;
    longer = omega (arith, j.longer, m.longer);
    kept = λ p h. m.kept p (omega (arith, j.longer)) ∙ j.kept p h;
    stay = λ k e. m.stay k (j.stay k e);
    new = λ k h e. elim (m.new k (subst (λ x. k < x) (sym j.as_many) h) e) [ inl o ↦ j.new k h o | inr q ↦ inr (subst (λ x. test x ≡ true) (eqb-true i k q) passes) ];
    all = λ k h e. elim (cases_eq k i) [ inl q ↦ m.all k (subst (λ x. x < length marks') (sym q) (subst (λ x. i < x) (sym j.as_many) low)) (eq-eqb i k (sym q)) | inr q ↦ m.stay k (j.all k (omega arith) e) ];
  }

  pub joined_skip : test i ≡ false → Joined test (i + 1) marks work tail marks' work' tail'
  joined_skip fails = record {
    line = j.line;
    as_many = j.as_many;
    longer = j.longer;
    kept = j.kept;
    stay = j.stay;
    new = j.new;
    all = λ k h e. elim (cases_eq k i) [ inl q ↦ absurd (both_ways _ fails (subst (λ x. test x ≡ true) q e)) | inr q ↦ j.all k (omega arith) e ];
  }

-- an action as the table has it
pub act_read : (table : List Action) (i : ℕ) (a : Action) → i < length table → a ≡ get_or table i a → act_at table i ≡ act_of a
act_read table i a low is = get_or-map act_of table i a idle low ∙ ap act_of (sym is)

-- what the methods of the line stand on
pub ruleset lines = (line_had, line_none, line_more, tail_low, tail_room, joined_new)
