-- Laws of the charge of a row of action numbers.
use Rattle.std.proofs.Common.{◌≡◌, ℕ, zero, suc, ◌+◌, ◌<◌, ◌≤◌, Bool, true, false, cond, ltb, List, [], ◌∷◌, ◌++◌, map, length, get_or, take, drop, Some, None, Option, Err, sym, refl, ap, ◌∙◌, subst, arith}
use Rattle.std.specs.Prelude.{nat_le}
use Rattle.std.specs.List.{AllByRecursion, position, position_from}
use Rattle.std.proofs.lemmas.List.{map-append, take_more, take-append-drop, get_or-map, length-map, length-take}
use Rattle.std.proofs.lemmas.Iterator.Adapters.{position_from-zero}
use Rattle.std.proofs.lemmas.Bool.{ltb-true, ltb-false, le-leb, lt-leb, le-ltb, cond-true, cond-false}
use Rattle.task.specs.declared.data.Action.{Action}
use Rattle.task.specs.Benches.{Act, act_of, idle}
use Rattle.tariff.specs.declared.charge.TotalError.TheVariants.{TooMany}
use Rattle.tariff.specs.Charges.{Charges, Billable}
use Rattle.tariff.specs.Totals.{SumOfFew, Adding, sum, named, charge_of, and_act, against, stray, unless, totalled}

-- each action of a table may be charged
pub table_billable : (table : List Action) → AllByRecursion Billable (map act_of table)
table_billable [] = tt
table_billable (a ∷ more) = (a.limits, table_billable more)

idle_billable : Billable idle
idle_billable = (omega arith, omega arith)

-- each action that a number names is one of the table's, or idle
pub act_billable : (acts : List Act) (k : ℕ) → AllByRecursion Billable acts → Billable (get_or acts k idle)
act_billable [] k all = idle_billable
act_billable (a ∷ more) zero all = all.0
act_billable (a ∷ more) (suc k) all = act_billable more k all.1

pub named_billable : (acts : List Act) (numbers : List ℕ) → AllByRecursion Billable acts → AllByRecursion Billable (named acts numbers)
named_billable acts [] all = tt
named_billable acts (k ∷ more) all = (act_billable acts k all, named_billable acts more all)

-- a number below the limit at each place, if none is stray
pub none_stray : (limit i : ℕ) (numbers : List ℕ) → stray limit i numbers ≡ None → (k : ℕ) → k < length numbers → get_or numbers k 0 < limit
none_stray limit i [] none k h = absurd (omega arith)
none_stray limit i (n ∷ more) none k h = at (ltb n limit) refl k h (none_stray limit (i + 1) more)
  where
    at : (b : Bool) → ltb n limit ≡ b → (k : ℕ) → k < length (n ∷ more) → (stray limit (i + 1) more ≡ None → (k : ℕ) → k < length more → get_or more k 0 < limit) → get_or (n ∷ more) k 0 < limit
    at true e zero h rec = ltb-true n limit e
    at true e (suc k) h rec = rec (sym (cond-true _ _ _ e) ∙ none) k (omega arith)
    at false e k h rec = absurd (let is = sym (cond-false (ltb n limit) (stray limit (i + 1) more) (Some i) e) ∙ none in let z : ◌≡◌ {A = ℕ} 0 1 = cc in omega arith)

-- the first stray number, by the library's word
pub position_is_stray : (limit i : ℕ) (numbers : List ℕ) → position_from (λ k. nat_le limit k) i numbers ≡ stray limit i numbers
position_is_stray limit i [] = refl
position_is_stray limit i (k ∷ more) = at (ltb k limit) refl (position_is_stray limit (i + 1) more)
  where
    at : (t : Bool) → ltb k limit ≡ t → position_from (λ k. nat_le limit k) (i + 1) more ≡ stray limit (i + 1) more → position_from (λ k. nat_le limit k) i (k ∷ more) ≡ stray limit i (k ∷ more)
    at true e rec = cond-false _ _ _ (lt-leb limit k (ltb-true k limit e)) ∙ rec ∙ sym (cond-true _ _ _ e)
    at false e rec = cond-true _ _ _ (le-leb limit k (ltb-false k limit e)) ∙ sym (cond-false _ _ _ e)

pub stray_is_position : (limit : ℕ) (numbers : List ℕ) → stray limit 0 numbers ≡ position (λ k. nat_le limit k) numbers
stray_is_position limit numbers = sym (position_is_stray limit 0 numbers) ∙ sym (position_from-zero (λ k. nat_le limit k) numbers)

module _ {C : Type 0} (le : C → C → Bool) (bound c : C) where
  pub was_over : None ≡ against le bound c → le c bound ≡ false
  was_over e = at (le c bound) e
    where
      at : (t : Bool) → None ≡ cond t (Some c) None → t ≡ false
      at true h = absurd (let z : ◌≡◌ {A = ℕ} 0 1 = cc in omega arith)
      at false h = refl

  pub was_within : (d : C) → Some d ≡ against le bound c → (d ≡ c) × (le c bound ≡ true)
  was_within d e = at (le c bound) e
    where
      at : (t : Bool) → Some d ≡ cond t (Some c) None → (d ≡ c) × (t ≡ true)
      at true h = (cc, refl)
      at false h = absurd (let z : ◌≡◌ {A = ℕ} 0 1 = cc in omega arith)

module _ {C : Type 0} (K : Charges C) where
  pub plus_zero : (a : C) → K.plus a K.zero ≡ a
  plus_zero a = K.plus_comm a K.zero ∙ K.zero_plus a

  -- a charge is at most its sum with another
  pub le_more : (a b : C) → K.le a (K.plus a b) ≡ true
  le_more a b = (λ i. K.le (sym (K.zero_plus a) i) (K.plus_comm a b i)) ∙ K.le_plus K.zero b a ∙ K.zero_le b

  pub sum_append : (xs ys : List Act) → sum K (xs ++ ys) ≡ K.plus (sum K xs) (sum K ys)
  sum_append [] ys = sym (K.zero_plus (sum K ys))
  sum_append (a ∷ xs) ys = ap (K.plus (K.charge a)) (sum_append xs ys) ∙ sym (K.plus_assoc (K.charge a) (sum K xs) (sum K ys))

  module _ (acts : List Act) where
    pub charge_append : (xs ys : List ℕ) → charge_of K acts (xs ++ ys) ≡ K.plus (charge_of K acts xs) (charge_of K acts ys)
    charge_append xs ys = ap (sum K) (map-append (λ k. get_or acts k idle) xs ys) ∙ sum_append (named acts xs) (named acts ys)

    -- one number more at the end
    pub charge_push : (xs : List ℕ) (k : ℕ) → charge_of K acts (xs ++ k ∷ []) ≡ and_act K (charge_of K acts xs) (get_or acts k idle)
    charge_push xs k = charge_append xs (k ∷ []) ∙ ap (K.plus (charge_of K acts xs)) (plus_zero (K.charge (get_or acts k idle)))

    pub charge_more : (numbers : List ℕ) (i : ℕ) → i < length numbers → charge_of K acts (take (i + 1) numbers) ≡ and_act K (charge_of K acts (take i numbers)) (get_or acts (get_or numbers i 0) idle)
    charge_more numbers i h = ap (charge_of K acts) (take_more numbers i 0 h) ∙ charge_push (take i numbers) (get_or numbers i 0)

    -- the front of a row of numbers costs at most the whole
    pub charge_front : (i : ℕ) (numbers : List ℕ) → K.le (charge_of K acts (take i numbers)) (charge_of K acts numbers) ≡ true
    charge_front i numbers =
        let whole : charge_of K acts numbers ≡ K.plus (charge_of K acts (take i numbers)) (charge_of K acts (drop i numbers)) = ap (charge_of K acts) (sym (take-append-drop i numbers)) ∙ charge_append (take i numbers) (drop i numbers) in
        ap (K.le (charge_of K acts (take i numbers))) whole ∙ le_more _ _

    -- up to 65,536 numbers come to a sum of charges
    pub charge_reached : (numbers : List ℕ) → AllByRecursion Billable acts → length numbers ≤ 65536 → SumOfFew K (charge_of K acts numbers)
    charge_reached numbers all few = record { acts = named acts numbers; few = simp length-map few; billable = named_billable acts numbers all; is = refl }

  le_not : (a b bound : C) (t : Bool) → K.le a b ≡ true → K.le a bound ≡ false → K.le b bound ≡ t → K.le b bound ≡ false
  le_not a b bound true h f e = absurd (let k = K.le_trans a b bound h e in let z : ◌≡◌ {A = ℕ} 0 1 = cc in omega arith)
  le_not a b bound false h f e = e

  -- what is over the bound stays over it
  pub over_stays : (a b bound : C) → K.le a b ≡ true → K.le a bound ≡ false → None ≡ against K.le bound b
  over_stays a b bound h f = sym (cond-false _ _ _ (le_not a b bound (K.le b bound) h f refl))

  -- against the greatest charge each such sum is held
  pub held : (c : C) → SumOfFew K c → against K.le K.greatest c ≡ Some c
  held c few = cond-true (K.le c K.greatest) (Some c) None (K.enough c few)

  -- the fold, one action on
  module _ (table : List Action) (numbers : List ℕ) (i : ℕ) (c : C) (action : Action) (within : i < length numbers) (known : get_or numbers i 0 < length table) (so_far : c ≡ charge_of K (map act_of table) (take i numbers)) (read : action ≡ get_or table (get_or numbers i 0) action) where
    pub fold_more : charge_of K (map act_of table) (take (i + 1) numbers) ≡ and_act K c (act_of action)
    fold_more =
        let named_act : get_or (map act_of table) (get_or numbers i 0) idle ≡ act_of action = get_or-map act_of table (get_or numbers i 0) action idle known ∙ ap act_of (sym read) in
        charge_more (map act_of table) numbers i within ∙ (λ j. and_act K (sym so_far j) (named_act j))

    pub fold_reached : length numbers ≤ 65536 → SumOfFew K (and_act K c (act_of action))
    fold_reached few =
        let short : length (take (i + 1) numbers) ≤ 65536 = simp length-take (omega arith) in
        subst (SumOfFew K) fold_more (charge_reached (map act_of table) (take (i + 1) numbers) (table_billable table) short)

    pub fold_over : (bound : C) → length numbers ≤ 65536 → Adding K c (act_of action) bound None → None ≡ against K.le bound (charge_of K (map act_of table) numbers)
    fold_over bound few answer =
        let over : K.le (and_act K c (act_of action)) bound ≡ false = was_over K.le bound (and_act K c (act_of action)) (answer (fold_reached few)) in
        over_stays (charge_of K (map act_of table) (take (i + 1) numbers)) (charge_of K (map act_of table) numbers) bound (charge_front (map act_of table) (i + 1) numbers) (ap (λ s. K.le s bound) fold_more ∙ over)

    pub fold_within : (bound d : C) → length numbers ≤ 65536 → Adding K c (act_of action) bound (Some d) → (d ≡ charge_of K (map act_of table) (take (i + 1) numbers)) × (K.le d bound ≡ true)
    fold_within bound d few answer =
        let put = was_within K.le bound (and_act K c (act_of action)) d (answer (fold_reached few)) in
        (put.0 ∙ sym fold_more, ap (λ s. K.le s bound) put.0 ∙ put.1)

  -- up to 65,536 numbers are answered by the sum, unless one of them is stray
  pub totalled_few : (table : List Action) (numbers : List ℕ) (bound : C) → length numbers ≤ 65536 → {o : Option ℕ} → o ≡ stray (length table) 0 numbers → {answer : Option C} → answer ≡ against K.le bound (charge_of K (map act_of table) numbers) → unless o answer ≡ totalled K (map act_of table) numbers bound
  totalled_few table numbers bound few strays sums =
      let acts = map act_of table in
      let place = strays ∙ ap (λ n. stray n 0 numbers) (sym (length-map table act_of)) in
      (λ i. unless (place i) (sums i)) ∙ sym (cond-false (ltb 65536 (length numbers)) (Err TooMany) (unless (stray (length acts) 0 numbers) (against K.le bound (charge_of K acts numbers))) (le-ltb 65536 (length numbers) few))
