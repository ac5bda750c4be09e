-- The steps of a search on its tables, so far.
use Rattle.std.proofs.Common.{◌≡◌, ℕ, suc, ◌+◌, ◌<◌, ◌≤◌, Bool, false, List, length, get_or, take, drop, Some, Ok, Err, Result, unwrap_or, sym, refl, ap, ◌∙◌, subst, add-one, arith, get_or-take}
use Rattle.std.specs.List.{AllByRecursion}
use Rattle.std.specs.Result.{result_err}
use Rattle.std.proofs.ByRecursion.{All-get_or}
use Rattle.task.specs.Benches.{Bench, Lawful, SettingOf, world}
use Rattle.tariff.specs.Charges.{Charges}
use Rattle.search.specs.declared.data.Row.{Row}
use Rattle.search.specs.declared.entry.Entry.{Entry}
use Rattle.search.specs.declared.sizes.Limits.{Limits}
use Rattle.search.specs.declared.sizes.Progress.{Progress}
use Rattle.search.specs.declared.sizes.Progress.TheVariants.{Going}
use Rattle.search.specs.declared.sizes.Sizes.{Sizes}
use Rattle.search.specs.declared.sizes.Source.{Source}
use Rattle.search.specs.Rows.{on, over, blank, row}
use Rattle.search.specs.Steps.{Quest, problem, row_at, least_open, expand, State, advance, Addable, going, crowded}
use Rattle.search.specs.Lined.{Lined}
use Rattle.search.specs.Counts.{posed, outcome_of, stepped, Sound}
use Rattle.search.proofs.Placings.{rest_more}
use Rattle.search.proofs.Runs.{step_on}

-- k steps are left of k₀, and n rows are expanded
pub record Running {C : Type 0} (b : Bench) (K : Charges C) (limits : Limits C) (marking : List ℕ → ℕ → Bool) (rows₀ rows : List (Row C)) (queue₀ queue : List (Entry C)) (sizes₀ sizes : Sizes) (n₀ n k₀ k : ℕ) : Type 0 where
  pub more : sizes₀.used ≤ sizes.used
  pub rest : drop sizes.used rows ≡ drop sizes.used rows₀
  pub lined : Lined K.le (take sizes₀.used rows₀) sizes₀.waiting queue₀ → Lined K.le (take sizes.used rows) sizes.waiting queue
  pub same : (start : List ℕ) → Lawful b → Sound b K (posed start limits) marking (take sizes₀.used rows₀) n₀ → Lined K.le (take sizes₀.used rows₀) sizes₀.waiting queue₀
      → advance (problem b K (posed start limits)) marking k₀ (take sizes₀.used rows₀) n₀ ≡ advance (problem b K (posed start limits)) marking k (take sizes.used rows) n
  pub sound : (start : List ℕ) → Lawful b → Sound b K (posed start limits) marking (take sizes₀.used rows₀) n₀ → Lined K.le (take sizes₀.used rows₀) sizes₀.waiting queue₀
      → Sound b K (posed start limits) marking (take sizes.used rows) n

-- one step
pub record Step {C : Type 0} (b : Bench) (K : Charges C) (limits : Limits C) (marking : List ℕ → ℕ → Bool) (rows rows' : List (Row C)) (queue queue' : List (Entry C)) (sizes sizes' : Sizes) (n n' : ℕ) (answer : Result (Unit {0}) Progress) : Type 0 where
  pub more : sizes.used ≤ sizes'.used
  pub ran : (start : List ℕ) → Lawful b → Sound b K (posed start limits) marking (take sizes.used rows) n → Lined K.le (take sizes.used rows) sizes.waiting queue
      → (k : ℕ) → advance (problem b K (posed start limits)) marking (k + 1) (take sizes.used rows) n ≡ stepped answer (advance (problem b K (posed start limits)) marking k) (take sizes'.used rows') n'
  pub rest : drop sizes'.used rows' ≡ drop sizes'.used rows
  pub lined : Lined K.le (take sizes.used rows) sizes.waiting queue → Lined K.le (take sizes'.used rows') sizes'.waiting queue'

pub running_none : {C : Type 0} (b : Bench) (K : Charges C) (limits : Limits C) (marking : List ℕ → ℕ → Bool) (rows : List (Row C)) (queue : List (Entry C)) (sizes : Sizes) (n k : ℕ) → Running b K limits marking rows rows queue queue sizes sizes n n k k
running_none b K limits marking rows queue sizes n k = record { more = omega arith; rest = refl; lined = λ p. p; same = λ start lawful sound lined. refl; sound = λ start lawful sound lined. sound }

module _ {C : Type 0} (b : Bench) (K : Charges C) (limits : Limits C) (marking : List ℕ → ℕ → Bool) (rows₀ rows rows' : List (Row C)) (queue₀ queue queue' : List (Entry C)) (sizes₀ sizes sizes' : Sizes) (n₀ n n' k₀ k : ℕ) (answer : Result (Unit {0}) Progress) (was : Running b K limits marking rows₀ rows queue₀ queue sizes₀ sizes n₀ n k₀ (k + 1)) (now : Step b K limits marking rows rows' queue queue' sizes sizes' n n' answer) where
  pub running_more : sizes₀.used ≤ sizes'.used
  running_more = omega (arith, was.more, now.more)

  pub running_rest : drop sizes'.used rows' ≡ drop sizes'.used rows₀
  running_rest = now.rest ∙ rest_more sizes.used sizes'.used _ _ now.more was.rest

  pub running_lined : Lined K.le (take sizes₀.used rows₀) sizes₀.waiting queue₀ → Lined K.le (take sizes'.used rows') sizes'.waiting queue'
  running_lined p = now.lined (was.lined p)

  goes : (start : List ℕ) → Lawful b → Sound b K (posed start limits) marking (take sizes₀.used rows₀) n₀ → Lined K.le (take sizes₀.used rows₀) sizes₀.waiting queue₀
      → (j : ℕ) → advance (problem b K (posed start limits)) marking (j + 1) (take sizes.used rows) n ≡ stepped answer (advance (problem b K (posed start limits)) marking j) (take sizes'.used rows') n'
  goes start lawful sound lined = now.ran start lawful (was.sound start lawful sound lined) (was.lined lined)

  -- the search goes on
  pub running_on : answer ≡ Ok tt → Running b K limits marking rows₀ rows' queue₀ queue' sizes₀ sizes' n₀ n' k₀ k
  running_on ok = record {
    more = running_more;
    rest = running_rest;
    lined = running_lined;
    same = λ start lawful sound lined.
        was.same start lawful sound lined ∙ goes start lawful sound lined k ∙ ap (λ y. stepped y (advance (problem b K (posed start limits)) marking k) (take sizes'.used rows') n') ok;
    sound = λ start lawful sound lined j.
        subst (λ (st : State C). AllByRecursion (λ (r : Row C). SettingOf b r.setting × Addable (problem b K (posed start limits)) r.charge) st.rows)
        (goes start lawful sound lined j ∙ ap (λ y. stepped y (advance (problem b K (posed start limits)) marking j) (take sizes'.used rows') n') ok)
        (was.sound start lawful sound lined (j + 1));
  }

  -- the search ended
  pub running_ends : (start : List ℕ) → Lawful b → Sound b K (posed start limits) marking (take sizes₀.used rows₀) n₀ → Lined K.le (take sizes₀.used rows₀) sizes₀.waiting queue₀
      → (end : Progress) → answer ≡ Err end → advance (problem b K (posed start limits)) marking k₀ (take sizes₀.used rows₀) n₀ ≡ record { rows = take sizes'.used rows'; count = n'; outcome = outcome_of end }
  running_ends start lawful sound lined end e =
      was.same start lawful sound lined ∙ goes start lawful sound lined k ∙ ap (λ y. stepped y (advance (problem b K (posed start limits)) marking k) (take sizes'.used rows') n') e

module _ {C : Type 0} (b : Bench) (K : Charges C) (q : Quest C) (marking : List ℕ → ℕ → Bool) (rows : List (Row C)) (n i : ℕ) (first : least_open (problem b K q) rows ≡ Some i) (off : (world b).goal (row_at (problem b K q) rows i).setting ≡ false) where
  -- a row was expanded, and the search goes on
  pub goes_on : (rows' : List (Row C)) → on rows' ≡ expand (problem b K q) marking rows i → (j : ℕ) → advance (problem b K q) marking (suc j) rows n ≡ advance (problem b K q) marking j rows' (n + 1)
  goes_on rows' e j = step_on (problem b K q) marking rows n i first j (on rows') off (sym e) ∙ ap (advance (problem b K q) marking j rows') (sym (add-one n))

  -- no row was left
  pub ends_full : (rows' : List (Row C)) → over rows' ≡ expand (problem b K q) marking rows i → (j : ℕ) → advance (problem b K q) marking (suc j) rows n ≡ record { rows = rows'; count = n + 1; outcome = crowded }
  ends_full rows' e j = step_on (problem b K q) marking rows n i first j (over rows') off (sym e) ∙ ap (λ m. (let s : State C = record { rows = rows'; count = m; outcome = crowded } in s)) (sym (add-one n))

-- the row that is expanded has a setting of the bench, and any action's charge can be added to its own
pub source_sound : {C : Type 0} (b : Bench) (K : Charges C) (q : Quest C) (marking : List ℕ → ℕ → Bool) (rows : List (Row C)) (n i : ℕ) (s : List ℕ) (c : C) → Sound b K q marking rows n → i < length rows
    → (row_at (problem b K q) rows i).setting ≡ s → (row_at (problem b K q) rows i).charge ≡ c → SettingOf b s × Addable (problem b K q) c
source_sound b K q marking rows n i s c sound low is_s is_c =
    let h = All-get_or (λ (r : Row _). SettingOf b r.setting × Addable (problem b K q) r.charge) rows i (blank K.zero K.le) low (sound 0) in
    (subst (SettingOf b) is_s h.0, subst (Addable (problem b K q)) is_c h.1)

-- a used row, read in the table
pub source_is : {C : Type 0} (K : Charges C) (rows : List (Row C)) (n : ℕ) (source : Source C) → source.row < n
    → ((d : Row C) → ((get_or rows source.row d).setting ≡ source.setting) × ((get_or rows source.row d).charge ≡ source.charge))
    → ((row K.zero K.le (take n rows) source.row).setting ≡ source.setting) × ((row K.zero K.le (take n rows) source.row).charge ≡ source.charge)
source_is K rows n source low at =
    let d = blank K.zero K.le in
    let is = get_or-take n rows source.row d low in
    (ap (λ r. r.setting) is ∙ (at d).0, ap (λ r. r.charge) is ∙ (at d).1)

-- how the search stands after the steps
pub stands_so : {C : Type 0} (answer : Result (Unit {0}) Progress) (rows : List (Row C)) (n : ℕ) → stepped answer (λ rows n. record { rows = rows; count = n; outcome = going }) rows n ≡ record { rows = rows; count = n; outcome = outcome_of (unwrap_or (result_err answer) Going) }
stands_so (Ok x) rows n = refl
stands_so (Err e) rows n = refl
