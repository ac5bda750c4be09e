-- Along the line, each member once.
use Rattle.std.proofs.Common.{◌≡◌, ℕ, ◌+◌, ◌<◌, ◌≤◌, Bool, true, cond, List, length, get_or, take, Some, None, sym, ap, ◌∙◌, subst, inl, inr, arith}
use Rattle.task.specs.declared.data.Atom.{Atom}
use Rattle.task.specs.declared.data.Action.{Action}
use Rattle.task.specs.declared.data.Task.{Task}
use Rattle.task.specs.Settings.{unmet, listed}
use Rattle.task.specs.Benches.{Bench, act, bench_of, achieving}
use Rattle.rules.specs.Marks.{Marked, Zeros}
use Rattle.rules.specs.Rules.{Sized}
use Rattle.rules.specs.Sets.{wants, calls, stubborn}
use Rattle.rules.specs.Grows.{stubborn_smallest, stubborn_goal, closed_along, none_met}
use Rattle.std.proofs.lemmas.Bool.{cases_eq}
use Rattle.rules.specs.Queues.{act_at, calling, number_at, Line, Joined, Spread}
use Rattle.rules.proofs.Closings.{within, marks_are, bench_length}

-- the members before the head have been served
pub record Going (call : ℕ → ℕ → Bool) (marks₀ marks work : List ℕ) (head tail : ℕ) : Type 0 where
  pub line : Line marks work tail
  pub passed : head ≤ tail
  pub as_many : length marks ≡ length marks₀
  pub stay : (k : ℕ) → get_or marks₀ k 0 ≡ 1 → get_or marks k 0 ≡ 1
  pub served : (p : ℕ) → p < head → (i : ℕ) → i < length marks₀ → call (number_at work p) i ≡ true → get_or marks i 0 ≡ 1
  pub least : (member : ℕ → Bool) → ((k : ℕ) → get_or marks₀ k 0 ≡ 1 → member k ≡ true) → ((j i : ℕ) → j < length marks₀ → i < length marks₀ → member j ≡ true → call j i ≡ true → member i ≡ true) → (k : ℕ) → k < length marks₀ → get_or marks k 0 ≡ 1 → member k ≡ true

module _ {call : ℕ → ℕ → Bool} {marks₀ marks work : List ℕ} {head tail : ℕ} (g : Going call marks₀ marks work head tail) where
  pub going_more : {marks' work' : List ℕ} {tail' : ℕ} → head < tail → Joined (call (number_at work head)) (length marks) marks work tail marks' work' tail' → Going call marks₀ marks' work' (head + 1) tail'
  going_more {marks'} {work'} {tail'} low j = record {
    line = j.line;
    passed = omega (arith, j.longer);
    as_many = j.as_many ∙ g.as_many;
    stay = λ k e. j.stay k (g.stay k e);
    served = served;
    least = λ member from along k h e.
        elim (j.new k (subst (λ x. k < x) (sym g.as_many) h) e) [
          | inl o ↦ g.least member from along k h o
          | inr q ↦ (let v = g.line.valid head low in let l = subst (λ x. number_at work head < x) g.as_many v.0 in along (number_at work head) k l h (g.least member from along (number_at work head) l v.1) q)
        ];
  }
    where
      served : (p : ℕ) → p < head + 1 → (i : ℕ) → i < length marks₀ → call (number_at work' p) i ≡ true → get_or marks' i 0 ≡ 1
      served p h i l e =
          let e' = subst (λ x. call x i ≡ true) (j.kept p (omega (arith, g.passed))) e in
          elim (cases_eq p head) [
            | inl q ↦ j.all i (subst (λ x. i < x) (sym g.as_many) l) (subst (λ x. call (number_at work x) i ≡ true) q e')
            | inr q ↦ j.stay i (g.served p (omega arith) i l e')
          ]

  pub going_all : tail ≤ head → Spread call marks₀ marks
  going_all far = record {
    as_many = g.as_many;
    bits = g.line.bits;
    stay = g.stay;
    along = λ j i l m e. (let x = g.line.listed j (within marks j m) m in g.served x.0 (omega (arith, x.1)) i l (subst (λ y. call y i ≡ true) (sym x.2) e));
    least = g.least;
  }

module _ (task : Task) (table : List Action) (s : List ℕ) where
  -- where the goal holds, no mark is the set's
  pub none_closes : (marks : List ℕ) → Zeros marks → unmet s (listed task.goal) ≡ None → Marked (stubborn (bench_of task table) s) marks
  none_closes marks zeros holds k low = zeros k low ∙ ap (λ x. cond x 1 0) (sym (stubborn_goal (bench_of task table) s (none_met s (listed task.goal) holds) k))

  -- from the achievers of the first unmet goal atom on, along the calls
  pub spread_closes : {marks work marks' work' marks'' : List ℕ} {tail' : ℕ} (g : Atom) → Sized task table (length marks) (length work) → Zeros marks → unmet s (listed task.goal) ≡ Some g
      → Joined (λ k. achieving (act_at (take task.actions table) k) g) (length marks) marks work 0 marks' work' tail' → Spread (calling s (take task.actions table)) marks' marks'' → Marked (stubborn (bench_of task table) s) marks''
  spread_closes {marks} {work} {marks'} {work'} {marks''} g sized zeros first j sp = marks_are b s marks'' (many ∙ sym count) sp.bits start along inside
    where
      b : Bench
      b = bench_of task table

      count : length b.actions ≡ task.actions
      count = bench_length task table sized.1

      many : length marks'' ≡ task.actions
      many = sp.as_many ∙ j.as_many ∙ sized.0

      start : (i : ℕ) → i < length b.actions → wants (unmet s b.goal) (act b i) ≡ true → get_or marks'' i 0 ≡ 1
      start i l e =
          let h = subst (λ x. i < x) count l in
          sp.stay i (j.all i (subst (λ x. i < x) (sym sized.0) h) (ap (λ o. wants o (act b i)) (sym first) ∙ e))

      along : (p i : ℕ) → i < length b.actions → get_or marks'' p 0 ≡ 1 → calls b s p i ≡ true → get_or marks'' i 0 ≡ 1
      along p i l m e =
          let h = subst (λ x. i < x) count l in
          sp.along p i (subst (λ x. i < x) (sym (j.as_many ∙ sized.0)) h) m e

      from : (k : ℕ) → get_or marks' k 0 ≡ 1 → stubborn b s k ≡ true
      from k m =
          let l = within marks' k m in
          let h = subst (λ x. k < x) j.as_many l in
          elim (j.new k h m) [
            | inl o ↦ absurd (omega (arith, zeros k h))
            | inr q ↦ (stubborn_smallest b s).closed.goals g first k q
          ]

      inside : (k : ℕ) → k < length marks'' → get_or marks'' k 0 ≡ 1 → stubborn b s k ≡ true
      inside k low =
          sp.least (stubborn b s) from
          (λ p i l h m e. closed_along b s (stubborn b s) (stubborn_smallest b s).closed p i m e)
          k
          (subst (λ x. k < x) sp.as_many low)
