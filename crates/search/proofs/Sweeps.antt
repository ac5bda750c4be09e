-- One action of a sweep, and the sweep so far.
use Rattle.std.proofs.Common.{◌≡◌, ℕ, ◌+◌, ◌-◌, ◌<◌, ◌≤◌, Bool, true, false, cond, ◌&&◌, eqb, List, [], length, get_or, take, drop, set, Ok, Err, Result, sym, refl, ap, ◌∙◌, subst, add-one, arith}
use Rattle.std.specs.Result.{IsErr}
use Rattle.std.proofs.lemmas.Bool.{cond-true, cond-false}
use Rattle.task.specs.declared.data.Action.{Action}
use Rattle.task.specs.declared.data.Task.{Task}
use Rattle.task.specs.Benches.{Act, Bench, act, act_of, bench_of}
use Rattle.task.proofs.Tables.{act_at}
use Rattle.tariff.specs.Charges.{Charges}
use Rattle.tariff.specs.Totals.{SumOfFew, and_act}
use Rattle.search.specs.declared.data.Row.{Row}
use Rattle.search.specs.declared.entry.Entry.{Entry}
use Rattle.search.specs.declared.sizes.Full.{Full}
use Rattle.search.specs.declared.sizes.Limits.{Limits}
use Rattle.search.specs.declared.sizes.Sizes.{Sizes}
use Rattle.search.specs.declared.sizes.Source.{Source}
use Rattle.search.specs.Rows.{on, over, shut}
use Rattle.search.specs.Steps.{Problem, problem, row_at, relaxed, onward, sweep, expand, Addable}
use Rattle.search.specs.Lined.{Lined}
use Rattle.search.specs.Counts.{Grew, posed, swept, byte_marked}
use Rattle.search.proofs.Placings.{rest_more}
use Rattle.search.proofs.Sums.{never}
use Rattle.search.proofs.Runs.{sweep_over, sweep_marks}

module _ {C : Type 0} (P : Problem C) (marks : ℕ → Bool) (i : ℕ) (s : List ℕ) (c : C) (rows : List (Row C)) (k : ℕ) where
  pub onward_offered : (marks k && P.world.can s k) ≡ true → relaxed P i s c rows k ≡ onward P marks i s c (on rows) k
  onward_offered e = sym (cond-true (marks k && P.world.can s k) (relaxed P i s c rows k) (on rows) e)

  pub onward_not : (marks k && P.world.can s k) ≡ false → on rows ≡ onward P marks i s c (on rows) k
  onward_not e = sym (cond-false (marks k && P.world.can s k) (relaxed P i s c rows k) (on rows) e)

pub grew_same : (capacity : ℕ) (s : Sizes) → s.used ≤ capacity → s.waiting ≤ s.used → Grew capacity 0 s s
grew_same capacity s u w = record { more = omega arith; within = u; waiting = w; even = omega arith }

pub grew_then : {capacity m n : ℕ} {s t u : Sizes} → Grew capacity m s t → Grew capacity n t u → Grew capacity (m + n) s u
grew_then a z = record { more = omega (arith, a.more, z.more); within = z.within; waiting = z.waiting; even = omega (arith, a.even, z.even) }

-- the tables after the actions below a number
pub record Sweeping {C : Type 0} (b : Bench) (K : Charges C) (limits : Limits C) (marks : List ℕ) (source : Source C) (rows₀ rows : List (Row C)) (queue₀ queue : List (Entry C)) (sizes₀ sizes : Sizes) (k : ℕ) : Type 0 where
  pub rows_are : (start : List ℕ) → Addable (problem b K (posed start limits)) source.charge
      → on (take sizes.used rows) ≡ sweep (problem b K (posed start limits)) (byte_marked marks) source.row source.setting source.charge (take sizes₀.used rows₀) k
  pub grew : Grew limits.capacity 0 sizes₀ sizes
  pub rest : drop sizes.used rows ≡ drop sizes.used rows₀
  pub lined : Lined K.le (take sizes₀.used rows₀) sizes₀.waiting queue₀ → Lined K.le (take sizes.used rows) sizes.waiting queue

-- the tables after the actions, or those that were tried until no row was left
pub record Spread {C : Type 0} (task : Task) (table : List Action) (K : Charges C) (limits : Limits C) (marks : List ℕ) (source : Source C) (rows rows' : List (Row C)) (queue queue' : List (Entry C)) (sizes sizes' : Sizes) (answer : Result (Unit {0}) Full) : Type 0 where
  pub rows_are : (start : List ℕ) → Addable (problem (bench_of task table) K (posed start limits)) source.charge
      → swept answer (take sizes'.used rows') ≡ sweep (problem (bench_of task table) K (posed start limits)) (byte_marked marks) source.row source.setting source.charge (take sizes.used rows) task.actions
  pub grew : Grew limits.capacity 0 sizes sizes'
  pub rest : drop sizes'.used rows' ≡ drop sizes'.used rows
  pub lined : Lined K.le (take sizes.used rows) sizes.waiting queue → Lined K.le (take sizes'.used rows') sizes'.waiting queue'

module _ {C : Type 0} (P : Problem C) (marks : ℕ → Bool) (i : ℕ) (s : List ℕ) (c : C) (rows₀ rows : List (Row C)) (k : ℕ) (so_far : on rows ≡ sweep P marks i s c rows₀ k) where
  -- one action more
  pub one_more : onward P marks i s c (on rows) k ≡ sweep P marks i s c rows₀ (k + 1)
  one_more = ap (λ w. onward P marks i s c w k) so_far ∙ ap (sweep P marks i s c rows₀) (sym (add-one k))

  -- where no row was left, the rest of the actions change nothing
  pub no_more : (rows' : List (Row C)) (n : ℕ) → k < n → over rows' ≡ onward P marks i s c (on rows) k → over rows' ≡ sweep P marks i s c rows₀ n
  no_more rows' n h e =
      let m : (n - (k + 1)) + (k + 1) ≡ n = omega arith in
      sym (ap (sweep P marks i s c rows₀) (sym m) ∙ sweep_over P marks i s c rows₀ rows' (k + 1) (n - (k + 1)) (sym (e ∙ one_more)))

-- one action tried
pub record Tried {C : Type 0} (b : Bench) (K : Charges C) (limits : Limits C) (marks : List ℕ) (source : Source C) (rows rows' : List (Row C)) (queue queue' : List (Entry C)) (sizes sizes' : Sizes) (k : ℕ) (a : Act) (answer : Result (Unit {0}) Full) : Type 0 where
  pub rows_are : (start : List ℕ) → SumOfFew K (and_act K source.charge a)
      → swept answer (take sizes'.used rows') ≡ onward (problem b K (posed start limits)) (byte_marked marks) source.row source.setting source.charge (on (take sizes.used rows)) k
  pub grew : Grew limits.capacity 0 sizes sizes'
  pub rest : drop sizes'.used rows' ≡ drop sizes'.used rows
  pub lined : Lined K.le (take sizes.used rows) sizes.waiting queue → Lined K.le (take sizes'.used rows') sizes'.waiting queue'

pub swept_full : {C : Type 0} (answer : Result (Unit {0}) Full) (rows : List (Row C)) → IsErr answer → swept answer rows ≡ over rows
swept_full (Ok x) rows h = absurd (never h refl)
swept_full (Err e) rows h = refl

module _ {C : Type 0} (b : Bench) (K : Charges C) (limits : Limits C) (marks : List ℕ) (source : Source C) (rows₀ rows rows' : List (Row C)) (queue₀ queue queue' : List (Entry C)) (sizes₀ sizes sizes' : Sizes) (k : ℕ) (a : Act) (answer : Result (Unit {0}) Full) (is : act b k ≡ a) (low : k < length b.actions) (was : Sweeping b K limits marks source rows₀ rows queue₀ queue sizes₀ sizes k) (now : Tried b K limits marks source rows rows' queue queue' sizes sizes' k a answer) where
  sum_of : Addable (problem b K (posed [] limits)) source.charge → SumOfFew K (and_act K source.charge a)
  sum_of few = subst (λ (x : Act). SumOfFew K (and_act K source.charge x)) is (few k low)

  grown : Grew limits.capacity 0 sizes₀ sizes'
  grown = grew_then was.grew now.grew

  stays : drop sizes'.used rows' ≡ drop sizes'.used rows₀
  stays = now.rest ∙ rest_more sizes.used sizes'.used _ _ now.grew.more was.rest

  pub sweeps_on : answer ≡ Ok tt → Sweeping b K limits marks source rows₀ rows' queue₀ queue' sizes₀ sizes' (k + 1)
  sweeps_on ok = record {
    rows_are = λ start few.
        ap (λ x. swept x (take sizes'.used rows')) (sym ok) ∙ now.rows_are start (sum_of few)
        ∙ one_more (problem b K (posed start limits)) (byte_marked marks) source.row source.setting source.charge (take sizes₀.used rows₀) (take sizes.used rows) k (was.rows_are start few);
    grew = grown;
    rest = stays;
    lined = λ p. now.lined (was.lined p);
  }

  -- no row was left
  pub sweeps_full : IsErr answer → (start : List ℕ) (n : ℕ) → k < n → Addable (problem b K (posed start limits)) source.charge
      → over (take sizes'.used rows') ≡ sweep (problem b K (posed start limits)) (byte_marked marks) source.row source.setting source.charge (take sizes₀.used rows₀) n
  sweeps_full full start n h few =
      no_more (problem b K (posed start limits)) (byte_marked marks) source.row source.setting source.charge (take sizes₀.used rows₀) (take sizes.used rows) k (was.rows_are start few) (take sizes'.used rows') n h
      (sym (swept_full answer (take sizes'.used rows') full) ∙ now.rows_are start (sum_of few))

  pub sweep_grew : Grew limits.capacity 0 sizes₀ sizes'
  sweep_grew = grown

  pub sweep_stays : drop sizes'.used rows' ≡ drop sizes'.used rows₀
  sweep_stays = stays

eqb_bit : (t : Bool) → eqb (cond {A = ℕ} t 1 0) 1 ≡ t
eqb_bit true = refl
eqb_bit false = refl

pub bit_marked : (xs : List ℕ) (k : ℕ) (t : Bool) → get_or xs k 0 ≡ cond t 1 0 → byte_marked xs k ≡ t
bit_marked xs k t e = ap (λ n. eqb n 1) e ∙ eqb_bit t

-- an action of the task, read in its table
module _ (task : Task) (table : List Action) (enough : task.actions ≤ length table) (k : ℕ) (low : k < task.actions) (x : Action) (is : x ≡ get_or table k x) where
  pub read_act : act (bench_of task table) k ≡ act_of x
  read_act = act_at task table enough k x low ∙ ap act_of (sym is)

-- a row's own setting and charge, and the bytes that its rule has set
pub expand_is : {C : Type 0} (P : Problem C) (marking : List ℕ → ℕ → Bool) (bytes : List ℕ) (rows : List (Row C)) (i : ℕ) (s : List ℕ) (c : C) (n : ℕ)
    → (row_at P rows i).setting ≡ s → (row_at P rows i).charge ≡ c → P.count ≡ n → ((k : ℕ) → k < n → byte_marked bytes k ≡ marking s k)
    → sweep P (byte_marked bytes) i s c (set rows i (shut (row_at P rows i))) n ≡ expand P marking rows i
expand_is P marking bytes rows i s c n is_s is_c all same =
    sweep_marks P (byte_marked bytes) (marking s) i s c (set rows i (shut (row_at P rows i))) n same
    ∙ (λ z. sweep P (marking (sym is_s z)) i (sym is_s z) (sym is_c z) (set rows i (shut (row_at P rows i))) (sym all z))
