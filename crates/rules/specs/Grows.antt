-- The computed set is the smallest closed one.
use Rattle.std.specs.Prelude.{◌≡◌, ℕ, zero, suc, ◌+◌, ◌<◌, ◌≤◌, Bool, true, false, cond, ◌&&◌, ◌⊎◌, List, [], ◌∷◌, length, Some, None, Option, slice_index_or, refl}
use Rattle.std.proofs.Common.{sym, ◌∙◌, ap, subst, inl, inr, arith}
use Rattle.std.proofs.lemmas.List.FromFn.{length-map-range_with_len, get_or-map-range_with_len}
use Rattle.std.proofs.lemmas.List.{get_or_past}
use Rattle.std.proofs.lemmas.Bool.{and_parts, and_from, or_cases, or_left, or_right, cases_Bool, cases_eq, cases_lt, both_ways}
use Rattle.task.specs.declared.data.Atom.{Atom}
use Rattle.task.specs.Settings.{holding, met, unmet, clash}
use Rattle.task.specs.Benches.{Act, Bench, act, idle, achieving, interfering}
use Rattle.rules.specs.Sets.{Closed, Smallest, wants, called, calls, some_below, each, grown, stubborn}

pub some_from : (f : ℕ → Bool) (k j : ℕ) → j < k → f j ≡ true → some_below f k ≡ true
some_from f zero j l e = absurd (omega arith)
some_from f (suc k) j l e = elim (cases_eq j k) [ inl q ↦ or_left _ _ (subst (λ x. f x ≡ true) q e) | inr q ↦ or_right _ _ (some_from f k j (omega arith) e) ]

pub some_at : (f : ℕ → Bool) (k : ℕ) → some_below f k ≡ true → (j : ℕ) × (j < k) × (f j ≡ true)
some_at f zero e = absurd (both_ways _ refl e)
some_at f (suc k) e = elim (or_cases _ _ e) [ inl q ↦ (k, omega arith, q) | inr q ↦ (let x = some_at f k q in (x.0, omega (arith, x.1), x.2)) ]

-- how many there are below a number
abbrev count : (ℕ → Bool) → ℕ → ℕ
count f zero = 0
count f (suc k) = cond (f k) 1 0 + count f k

bit : (x : Bool) → cond {A = ℕ} x 1 0 ≤ 1
bit true = omega arith
bit false = omega arith

bits : (x y : Bool) → (x ≡ true → y ≡ true) → cond {A = ℕ} x 1 0 ≤ cond y 1 0
bits false y h = omega arith
bits true y h = rw (h refl) (omega arith)

count_le : (f : ℕ → Bool) (k : ℕ) → count f k ≤ k
count_le f zero = omega arith
count_le f (suc k) = omega (arith, bit (f k), count_le f k)

count_mono : (f g : ℕ → Bool) (k : ℕ) → ((i : ℕ) → f i ≡ true → g i ≡ true) → count f k ≤ count g k
count_mono f g zero h = omega arith
count_mono f g (suc k) h = omega (arith, bits (f k) (g k) (h k), count_mono f g k h)

count_strict : (f g : ℕ → Bool) (k i : ℕ) → ((i : ℕ) → f i ≡ true → g i ≡ true) → i < k → f i ≡ false → g i ≡ true → count f k < count g k
count_strict f g zero i h l e q = absurd (omega arith)
count_strict f g (suc k) i h l e q =
    elim (cases_eq i k) [
      | inl x ↦ (let a = ap {B = ℕ} (λ v. cond v 1 0) (subst (λ n. f n ≡ false) x e) in let c = ap {B = ℕ} (λ v. cond v 1 0) (subst (λ n. g n ≡ true) x q) in omega (arith, count_mono f g k h))
      | inr x ↦ omega (arith, bits (f k) (g k) (h k), count_strict f g k i h (omega arith) e q)
    ]

look_new : (f g : ℕ → Bool) (k : ℕ) → ((i : ℕ) → i < k → g i ≡ true → f i ≡ true) ⊎ ((i : ℕ) × (i < k) × (f i ≡ false) × (g i ≡ true))
look_new f g zero = inl (λ i l e. absurd (omega arith))
look_new f g (suc k) = by (look_new f g k) (cases_Bool (f k)) (cases_Bool (g k))
  where
    by : ((i : ℕ) → i < k → g i ≡ true → f i ≡ true) ⊎ ((i : ℕ) × (i < k) × (f i ≡ false) × (g i ≡ true)) → (f k ≡ true) ⊎ (f k ≡ false) → (g k ≡ true) ⊎ (g k ≡ false)
        → ((i : ℕ) → i < suc k → g i ≡ true → f i ≡ true) ⊎ ((i : ℕ) × (i < suc k) × (f i ≡ false) × (g i ≡ true))
    by (inr x) m n = inr (x.0, omega (arith, x.1), x.2, x.3)
    by (inl h) (inl m) n = inl (λ i l e. elim (cases_eq i k) [ inl q ↦ subst (λ x. f x ≡ true) (sym q) m | inr q ↦ h i (omega arith) e ])
    by (inl h) (inr m) (inl n) = inr (k, omega arith, m, n)
    by (inl h) (inr m) (inr n) = inl (λ i l e. elim (cases_eq i k) [ inl q ↦ absurd (both_ways _ n (subst (λ x. g x ≡ true) q e)) | inr q ↦ h i (omega arith) e ])

-- past the last there is no action
idle_past : (b : Bench) (i : ℕ) → length b.actions ≤ i → act b i ≡ idle
idle_past b i h = get_or_past b.actions i idle h

pub achieving_low : (b : Bench) (i : ℕ) (c : Atom) → achieving (act b i) c ≡ true → i < length b.actions
achieving_low b i c e =
    elim (cases_lt i (length b.actions)) [ inl l ↦ l | inr h ↦ absurd (both_ways _ (ap (λ x. achieving x c) (idle_past b i h)) e) ]

clash_nil : (es : List Atom) → clash es [] ≡ false
clash_nil [] = refl
clash_nil (e ∷ es) = clash_nil es

pub interfering_low : (b : Bench) (i : ℕ) (member : Act) → interfering (act b i) member ≡ true → i < length b.actions
interfering_low b i member e =
    elim (cases_lt i (length b.actions)) [
      | inl l ↦ l
      | inr h ↦ absurd (both_ways _ (ap (λ x. interfering x member) (idle_past b i h) ∙ clash_nil member.effects) e)
    ]

-- where one is first unmet, not all are met, and the other way round
pub unmet_none : (s : List ℕ) (cs : List Atom) → met s cs ≡ true → unmet s cs ≡ None
unmet_none s [] e = refl
unmet_none s (c ∷ cs) e =
    let k = and_parts (holding s c) (met s cs) e in
    ap (λ x. cond x (unmet s cs) (Some c)) k.0 ∙ unmet_none s cs k.1

pub none_met : (s : List ℕ) (cs : List Atom) → unmet s cs ≡ None → met s cs ≡ true
none_met s [] e = refl
none_met s (c ∷ cs) e = by (holding s c) (none_met s cs) e
  where
    by : (x : Bool) → (unmet s cs ≡ None → met s cs ≡ true) → cond x (unmet s cs) (Some c) ≡ None → (x && met s cs) ≡ true
    by true ih e = ih e
    by false ih e = absurd (let z : ◌≡◌ {A = ℕ} 0 1 = cc in omega arith)

module _ (b : Bench) (s : List ℕ) where
  abbrev n : ℕ
  n = length b.actions

  abbrev has : ℕ → ℕ → Bool
  has k i = slice_index_or (grown b s k) i false

  each_at : (test : ℕ → Bool) (i : ℕ) → i < n → slice_index_or (each b test) i false ≡ test i
  each_at test i l = get_or-map-range_with_len test 0 n i i false l (omega arith)

  each_low : (test : ℕ → Bool) (i : ℕ) → slice_index_or (each b test) i false ≡ true → i < n
  each_low test i e =
      elim (cases_lt i n) [ inl l ↦ l | inr h ↦ absurd (both_ways _ (get_or_past (each b test) i false (subst (λ x. x ≤ i) (sym (length-map-range_with_len test 0 n)) h)) e) ]

  each_is : (test : ℕ → Bool) (i : ℕ) → slice_index_or (each b test) i false ≡ true → test i ≡ true
  each_is test i e = sym (each_at test i (each_low test i e)) ∙ e

  low : (k i : ℕ) → has k i ≡ true → i < n
  low zero i e = each_low _ i e
  low (suc k) i e = each_low _ i e

  grows : (k i : ℕ) → has k i ≡ true → has (suc k) i ≡ true
  grows k i e = each_at _ i (low k i e) ∙ or_left _ _ e

  step : (k j i : ℕ) → has k j ≡ true → i < n → calls b s j i ≡ true → has (suc k) i ≡ true
  step k j i m l e = each_at _ i l ∙ or_right _ _ (some_from (λ j. has k j && calls b s j i) n j (low k j m) (and_from _ _ m e))

  -- a member of a later round was one before, or is called for
  came : (k i : ℕ) → has (suc k) i ≡ true → (has k i ≡ true) ⊎ ((j : ℕ) × (has k j ≡ true) × (calls b s j i ≡ true))
  came k i e =
      elim (or_cases _ _ (each_is _ i e)) [
        | inl q ↦ inl q
        | inr q ↦ (let x = some_at (λ j. has k j && calls b s j i) n q in let y = and_parts (has k x.0) (calls b s x.0 i) x.2 in inr (x.0, y.0, y.1))
      ]

  abbrev Stable : ℕ → Type 0
  Stable k = (i : ℕ) → has (suc k) i ≡ true → has k i ≡ true

  stable_or : (k : ℕ) → Stable k ⊎ (k ≤ count (has k) n)
  stable_or zero = inr (omega arith)
  stable_or (suc k) = by (stable_or k)
    where
      next : Stable k → Stable (suc k)
      next st i e = elim (came (suc k) i e) [ inl q ↦ q | inr q ↦ step k q.0 i (st q.0 q.1) (low (suc (suc k)) i e) q.2 ]

      by : Stable k ⊎ (k ≤ count (has k) n) → Stable (suc k) ⊎ (suc k ≤ count (has (suc k)) n)
      by (inl st) = inl (next st)
      by (inr c) =
          elim (look_new (has k) (has (suc k)) n) [
            | inl h ↦ inl (next (λ i e. h i (low (suc k) i e) e))
            | inr x ↦ inr (let d = count_strict (has k) (has (suc k)) n x.0 (grows k) x.1 x.2 x.3 in omega arith)
          ]

  closed_under : (j i : ℕ) → i < n → has (suc n) j ≡ true → calls b s j i ≡ true → has (suc n) i ≡ true
  closed_under j i l m e = elim (stable_or (suc n)) [ inl st ↦ st i (step (suc n) j i m l e) | inr c ↦ absurd (omega (arith, count_le (has (suc n)) n)) ]

  from_start : (k i : ℕ) → i < n → wants (unmet s b.goal) (act b i) ≡ true → has k i ≡ true
  from_start zero i l e = each_at _ i l ∙ e
  from_start (suc k) i l e = grows k i (from_start k i l e)

  -- a set that has what the goal wants and what its members call for is closed
  pub closed_by : (member : ℕ → Bool)
      → ((i : ℕ) → i < n → wants (unmet s b.goal) (act b i) ≡ true → member i ≡ true)
      → ((j i : ℕ) → i < n → member j ≡ true → calls b s j i ≡ true → member i ≡ true)
      → Closed b s member
  closed_by member start along = record {
    goals = λ g e i a. start i (achieving_low b i g a) (ap (λ o. wants o (act b i)) e ∙ a);
    enablers = λ j m c e i a. along j i (achieving_low b i c a) m (ap (λ o. called o (act b j) (act b i)) e ∙ a);
    interferers = λ j m e i a. along j i (interfering_low b i (act b j) a) m (ap (λ o. called o (act b j) (act b i)) (unmet_none s (act b j).conditions e) ∙ a);
  }

  -- and the other way round
  pub closed_start : (member : ℕ → Bool) → Closed b s member → (i : ℕ) → wants (unmet s b.goal) (act b i) ≡ true → member i ≡ true
  closed_start member c i = by (unmet s b.goal) refl
    where
      by : (o : Option Atom) → unmet s b.goal ≡ o → wants o (act b i) ≡ true → member i ≡ true
      by None q e = absurd (both_ways _ refl e)
      by (Some g) q e = c.goals g q i e

  pub closed_along : (member : ℕ → Bool) → Closed b s member → (j i : ℕ) → member j ≡ true → calls b s j i ≡ true → member i ≡ true
  closed_along member c j i m = by (unmet s (act b j).conditions) refl
    where
      by : (o : Option Atom) → unmet s (act b j).conditions ≡ o → called o (act b j) (act b i) ≡ true → member i ≡ true
      by None q e = c.interferers j m (none_met s (act b j).conditions q) i e
      by (Some x) q e = c.enablers j m x q i e

  inside : (other : ℕ → Bool) → Closed b s other → (k i : ℕ) → has k i ≡ true → other i ≡ true
  inside other c zero i e = closed_start other c i (each_is _ i e)
  inside other c (suc k) i e = elim (came k i e) [ inl q ↦ inside other c k i q | inr q ↦ closed_along other c q.0 i (inside other c k q.0 q.1) q.2 ]

  pub stubborn_smallest : Smallest b s (stubborn b s)
  unfolding stubborn
  stubborn_smallest = record {
    closed = closed_by (has (suc n)) (from_start (suc n)) (λ j i l m e. closed_under j i l m e);
    least = λ other c. inside other c (suc n);
  }

  -- in a goal setting the set is empty
  pub stubborn_goal : met s b.goal ≡ true → (i : ℕ) → stubborn b s i ≡ false
  stubborn_goal on i = by (stubborn b s i) refl
    where
      none : Closed b s (λ k. false)
      none = closed_by (λ k. false) (λ i l e. absurd (both_ways _ (ap (λ o. wants o (act b i)) (unmet_none s b.goal on)) e)) (λ j i l m e. m)

      by : (x : Bool) → stubborn b s i ≡ x → x ≡ false
      by true e = sym (stubborn_smallest.least (λ k. false) none i e)
      by false e = refl
