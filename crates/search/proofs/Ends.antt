-- What each end of a search says, and that a search ends.
use Rattle.std.proofs.Common.{◌≡◌, ℕ, zero, suc, ◌<◌, ◌≤◌, Bool, true, false, cond, ◌⊎◌, List, [], ◌∷◌, ◌++◌, map, length, get_or, None, filter, sym, refl, ap, ◌∙◌, subst, inl, inr, append-nil, arith}
use lib.ListN.{length-map}
use Rattle.std.specs.List.{AllByRecursion}
use Rattle.std.proofs.ByRecursion.{All-push, All-map, All-from_get_or}
use Rattle.std.proofs.lemmas.List.{length_push}
use Rattle.std.proofs.lemmas.Bool.{cases_Bool}
use Rattle.task.specs.Benches.{Plan}
use Rattle.search.specs.declared.data.Row.{Row}
use Rattle.search.specs.Rows.{shuts, blank, plan_of}
use Rattle.search.specs.Steps.{Problem, cost, row_at}
use Rattle.search.specs.Promise.{Leads, Apart, Listed}
use Rattle.search.proofs.Sums.{never, not_le, le_plus_more, le_plus_right, total, perm_length, perm_total, total_push}
use Rattle.search.proofs.Traces.{Hop, Traced, root, hop, traced_led, traced_follow, leads_push}
use Rattle.search.proofs.RowFacts.{IsLeast, Least, shuts_le, shuts_lt, shuts_kept}
use Rattle.search.proofs.Invariant.{Inv, Overfull}
use Rattle.search.proofs.Expansion.{Known}

-- lists of settings from rows
abbrev pub settings : {C : Type 0} → List (Row C) → List (List ℕ)
settings rows = map (λ r. r.setting) rows

apart_push : (ss : List (List ℕ)) (t : List ℕ) → Apart ss → AllByRecursion (λ s. s ≡ t → ⊥) ss → Apart (ss ++ t ∷ [])
apart_push [] t a h = (tt, tt)
apart_push (s ∷ ss) t a h = (All-push (λ u. s ≡ u → ⊥) ss t a.0 h.0, apart_push ss t a.1 h.1)

module _ {C : Type 0} where
  all_rows : (Q : List ℕ → Type 0) (d : Row C) (rows : List (Row C)) → ((k : ℕ) → k < length rows → Q (get_or rows k d).setting) → AllByRecursion Q (settings rows)
  all_rows Q d rows h = All-map Q (λ r. r.setting) rows (All-from_get_or (λ r. Q r.setting) rows d h)

  apart_rows : (d : Row C) (rows : List (Row C)) → ((j k : ℕ) → j < length rows → k < length rows → (get_or rows j d).setting ≡ (get_or rows k d).setting → j ≡ k) → Apart (settings rows)
  apart_rows d [] h = tt
  apart_rows d (r ∷ rows) h = (
    all_rows (λ t. r.setting ≡ t → ⊥) d rows (λ k l e. let z = h 0 (suc k) (omega arith) (omega arith) e in omega arith),
    apart_rows d rows (λ j k lj lk e. let z = h (suc j) (suc k) (omega arith) (omega arith) e in omega arith),
  )

  all_kept : (Q : List ℕ → Type 0) (p : Row C → Bool) (rows : List (Row C)) → AllByRecursion Q (settings rows) → AllByRecursion Q (settings (filter p rows))
  all_kept Q p [] h = tt
  all_kept Q p (r ∷ rows) h = by (p r) (all_kept Q p rows h.1)
    where
      by : (b : Bool) → AllByRecursion Q (settings (filter p rows)) → AllByRecursion Q (settings (cond b (r ∷ filter p rows) (filter p rows)))
      by true ih = (h.0, ih)
      by false ih = ih

  apart_kept : (p : Row C → Bool) (rows : List (Row C)) → Apart (settings rows) → Apart (settings (filter p rows))
  apart_kept p [] h = tt
  apart_kept p (r ∷ rows) h = by (p r) (apart_kept p rows h.1)
    where
      by : (b : Bool) → Apart (settings (filter p rows)) → Apart (settings (cond b (r ∷ filter p rows) (filter p rows)))
      by true ih = (all_kept (λ t. r.setting ≡ t → ⊥) p rows h.0, ih)
      by false ih = ih

  -- the setting of a closed row is among those of the closed rows
  listed_shut : (d : Row C) (rows : List (Row C)) (k : ℕ) → k < length rows → (get_or rows k d).closed ≡ true → Listed (get_or rows k d).setting (settings (filter (λ r. r.closed) rows))
  listed_shut d [] k l e = absurd (omega arith)
  listed_shut d (r ∷ rows) zero l e = by r.closed e
    where
      by : (b : Bool) → b ≡ true → Listed r.setting (settings (cond b (r ∷ filter (λ r. r.closed) rows) (filter (λ r. r.closed) rows)))
      by true e = inl refl
      by false e = absurd cc
  listed_shut d (r ∷ rows) (suc k) l e = by r.closed (listed_shut d rows k (omega arith) e)
    where
      by : (b : Bool) → Listed (get_or rows k d).setting (settings (filter (λ r. r.closed) rows)) → Listed (get_or rows k d).setting (settings (cond b (r ∷ filter (λ r. r.closed) rows) (filter (λ r. r.closed) rows)))
      by true ih = inr ih
      by false ih = ih

module _ {C : Type 0} (P : Problem C) (Proper : List ℕ → Type 0) where
  abbrev le : C → C → Bool
  le = P.charges.le

  abbrev sum : List ℕ → C
  sum way = total P.charges P.act way

  abbrev none : Row C
  none = blank P.charges.zero P.charges.le

  -- an open row at no more than a charge
  pub record Met (rows : List (Row C)) (c : C) : Type 0 where
    pub at : ℕ
    pub low : at < length rows
    pub waits : (row_at P rows at).closed ≡ false
    pub cheap : le (row_at P rows at).charge c ≡ true

  met_under : {rows : List (Row C)} (c d : C) → le c d ≡ true → Met rows c → Met rows d
  met_under c d h m = record { at = m.at; low = m.low; waits = m.waits; cheap = P.charges.le_trans _ c d m.cheap h }

  -- for each plan from a row, within the bound, there is an open row at no more than its whole charge
  frontier : {some every : List ℕ → ℕ → Bool} {n : ℕ} (rows : List (Row C)) → Known P Proper some every n rows → (m : ℕ) (plan : List ℕ) → length plan ≤ m → (k : ℕ) → k < length rows → Plan P.world (row_at P rows k).setting plan
      → le (P.charges.plus (row_at P rows k).charge (sum plan)) P.quest.bound ≡ true → (b : Bool) → (row_at P rows k).closed ≡ b → Met rows (P.charges.plus (row_at P rows k).charge (sum plan))
  frontier rows v m plan fits k l p w false e = record { at = k; low = l; waits = e; cheap = le_plus_more P.charges _ _ }
  frontier rows v zero plan fits k l p w true e =
      let f = v.spread k l e tt in
      let x = f.law plan p in
      absurd (omega (arith, perm_length x.same))
  frontier rows v (suc m) plan fits k l p w true e =
      let K = P.charges in
      let f = v.spread k l e tt in
      let x = f.law plan p in
      let a = x.first in
      let c = (row_at P rows k).charge in
      let rest = sum x.rest in
      let d = K.plus c (cost P a) in
      let all : K.plus c (sum plan) ≡ K.plus d rest = ap (K.plus c) (perm_total K P.act x.same) ∙ sym (K.plus_assoc c (cost P a) rest) in
      let w' : K.le (K.plus d rest) P.quest.bound ≡ true = sym (ap (λ y. K.le y P.quest.bound) all) ∙ w in
      let o = f.covers a x.is_marked x.is_plan.0 (K.le_trans _ _ _ (le_plus_more K d rest) w') in
      let step : K.le (K.plus (row_at P rows o.at).charge rest) (K.plus d rest) ≡ true = le_plus_right K _ d rest o.cheap in
      let y = frontier rows v m x.rest (omega (arith, perm_length x.same)) o.at o.low (rw o.is x.is_plan.1) (K.le_trans _ _ _ step w') (row_at P rows o.at).closed refl in
      met_under (K.plus (row_at P rows o.at).charge rest) (K.plus c (sum plan)) (subst (λ z. K.le (K.plus (row_at P rows o.at).charge rest) z ≡ true) (sym all) step) y

  -- an open row for every plan from the start within the bound
  met_by : {some every : List ℕ → ℕ → Bool} {n : ℕ} (rows : List (Row C)) → Known P Proper some every n rows → (plan : List ℕ) → Plan P.world P.quest.start plan → le (sum plan) P.quest.bound ≡ true → Met rows (sum plan)
  met_by rows v plan p w =
      let K = P.charges in
      let e : K.plus (row_at P rows 0).charge (sum plan) ≡ sum plan = ap (λ x. K.plus x (sum plan)) v.inv.root_charge ∙ K.zero_plus (sum plan) in
      subst (Met rows) e (frontier rows v (length plan) plan (omega arith) 0 v.inv.some_row (rw v.inv.root_setting p) (rw e w) (row_at P rows 0).closed refl)

  -- a setting that offered actions reach within the bound is expanded, or there is an open row at no more than their charge
  swallowed : {some every : List ℕ → ℕ → Bool} {n : ℕ} (rows : List (Row C)) → Known P Proper some every n rows → (way t : List ℕ) (k : ℕ) → k < length rows → Leads P.world every (row_at P rows k).setting way t
      → le (P.charges.plus (row_at P rows k).charge (sum way)) P.quest.bound ≡ true → (b : Bool) → (row_at P rows k).closed ≡ b
      → Listed t (settings (filter (λ r. r.closed) rows)) ⊎ Met rows (P.charges.plus (row_at P rows k).charge (sum way))
  swallowed rows v way t k l h w false e = inr (record { at = k; low = l; waits = e; cheap = le_plus_more P.charges _ _ })
  swallowed rows v [] t k l h w true e = inl (subst (λ u. Listed u (settings (filter (λ r. r.closed) rows))) h (listed_shut none rows k l e))
  swallowed rows v (a ∷ way) t k l h w true e =
      let K = P.charges in
      let f = v.spread k l e tt in
      let c = (row_at P rows k).charge in
      let rest = sum way in
      let d = K.plus c (cost P a) in
      let assoc = K.plus_assoc c (cost P a) rest in
      let w' : K.le (K.plus d rest) P.quest.bound ≡ true = ap (λ y. K.le y P.quest.bound) assoc ∙ w in
      let o = f.covers a (f.wide a h.0) h.1 (K.le_trans _ _ _ (le_plus_more K d rest) w') in
      let step : K.le (K.plus (row_at P rows o.at).charge rest) (K.plus d rest) ≡ true = le_plus_right K _ d rest o.cheap in
      elim (swallowed rows v way t o.at o.low (rw o.is h.2) (K.le_trans _ _ _ step w') (row_at P rows o.at).closed refl) [
        | inl q ↦ inl q
        | inr y ↦ inr (met_under (K.plus (row_at P rows o.at).charge rest) (K.plus c (K.plus (cost P a) rest)) (subst (λ z. K.le (K.plus (row_at P rows o.at).charge rest) z ≡ true) assoc step) y)
      ]

  pub swallowed_by : {some every : List ℕ → ℕ → Bool} {n : ℕ} (rows : List (Row C)) → Known P Proper some every n rows → (way t : List ℕ) → Leads P.world every P.quest.start way t → le (sum way) P.quest.bound ≡ true
      → Listed t (settings (filter (λ r. r.closed) rows)) ⊎ Met rows (sum way)
  swallowed_by {every = every} rows v way t h w =
      let K = P.charges in
      let e : K.plus (row_at P rows 0).charge (sum way) ≡ sum way = ap (λ x. K.plus x (sum way)) v.inv.root_charge ∙ K.zero_plus (sum way) in
      subst (λ z. Listed t (settings (filter (λ r. r.closed) rows)) ⊎ Met rows z) e
      (swallowed rows v way t 0 v.inv.some_row (subst (λ u. Leads P.world every u way t) (sym v.inv.root_setting) h) (rw e w) (row_at P rows 0).closed refl)

  leads_plan : (marks : List ℕ → ℕ → Bool) (s way t : List ℕ) → Leads P.world marks s way t → P.world.goal t ≡ true → Plan P.world s way
  leads_plan marks s [] t l g = rw l g
  leads_plan marks s (a ∷ way) t l g = (l.1, leads_plan marks (P.world.next s a) way t l.2 g)

  -- a plan found: its charge, within the bound, and none costs less
  pub record Best (c : C) (plan : List ℕ) : Type 0 where
    pub is_plan : Plan P.world P.quest.start plan
    pub costs : c ≡ sum plan
    pub within : le c P.quest.bound ≡ true
    pub best : (other : List ℕ) → Plan P.world P.quest.start other → le c (sum other) ≡ true
    pub short : length plan < P.quest.capacity

  pub best_found : {some every : List ℕ → ℕ → Bool} {n : ℕ} (rows : List (Row C)) (i : ℕ) → Known P Proper some every n rows → IsLeast P.charges rows i → P.world.goal (row_at P rows i).setting ≡ true
      → Best (row_at P rows i).charge (plan_of P.charges.zero P.charges.le rows i)
  best_found {some} rows i v o g =
      let t = v.inv.traced i o.low in
      let l = traced_led P v.inv.root_setting v.inv.root_charge t.along in
      let f = traced_follow P t.along (length rows) (omega (arith, t.short, shuts_le rows)) [] ∙ append-nil t.path in
      record {
        is_plan = rw f (leads_plan some P.quest.start t.path _ l.leads g);
        costs = rw f (sym l.costs);
        within = v.inv.within i o.low;
        best = λ other p.
            elim (cases_Bool (le (sum other) P.quest.bound)) [
              | inl w ↦ (let m = met_by rows v other p w in P.charges.le_trans _ _ _ (o.least' m.at m.low m.waits) m.cheap)
              | inr w ↦ P.charges.le_trans _ _ _ (v.inv.within i o.low) (not_le P.charges _ _ w)
            ];
        short = rw f (omega (arith, t.short, shuts_lt rows i none o.low o.waits, v.inv.fits));
      }

  abbrev pub NoneWithin : Type 0
  NoneWithin = (plan : List ℕ) → Plan P.world P.quest.start plan → le (sum plan) P.quest.bound ≡ true → ⊥

  pub none_within : {some every : List ℕ → ℕ → Bool} {n : ℕ} (rows : List (Row C)) → Known P Proper some every n rows → Least P.charges rows None → NoneWithin
  none_within rows v o plan p w = let m = met_by rows v plan p w in never (o m.at m.low) m.waits

  -- reached by offered actions, within the bound
  pub record Near (marks : List ℕ → ℕ → Bool) (t : List ℕ) : Type 0 where
    pub way : List ℕ
    pub leads : Leads P.world marks P.quest.start way t
    pub within : le (sum way) P.quest.bound ≡ true

  near_row : {some : List ℕ → ℕ → Bool} {rows : List (Row C)} {level : C} → Inv P Proper some rows level → (k : ℕ) → k < length rows → Near some (row_at P rows k).setting
  near_row v k l =
      let t = v.traced k l in
      let d = traced_led P v.root_setting v.root_charge t.along in
      record { way = t.path; leads = d.leads; within = rw d.costs (v.within k l) }

  pub record TooManyRows (some : List ℕ → ℕ → Bool) : Type 0 where
    pub all : List (List ℕ)
    pub more : P.quest.capacity < length all
    pub apart : Apart all
    pub each : AllByRecursion (Near some) all

  pub too_many : {some : List ℕ → ℕ → Bool} {n : ℕ} (rows : List (Row C)) → Overfull P Proper some n rows → TooManyRows some
  too_many {some} rows o =
      let v = o.inv in
      let h = o.comes in
      let x = o.extra in
      let t = v.traced x.origin h.low in
      let d = traced_led P v.root_setting v.root_charge t.along in
      let es = ap (λ r. r.setting) h.from_is in
      record {
        all = settings rows ++ x.setting ∷ [];
        more = omega (arith, o.no_room, length_push (settings rows) x.setting, length-map rows (λ r. r.setting));
        apart = apart_push (settings rows) x.setting (apart_rows none rows v.apart) (all_rows (λ s. s ≡ x.setting → ⊥) none rows o.missing);
        each = All-push (Near some) (settings rows) x.setting (all_rows (Near some) none rows (near_row v))
            (record {
              way = t.path ++ x.action ∷ [];
              leads = rw h.is (leads_push P some P.quest.start t.path h.from.setting x.action (rw es at d.leads) h.marked h.can);
              within = rw (total_push P.charges P.act t.path x.action, d.costs, h.from_is, ← h.adds) o.within;
            });
      }

  -- the setting is the start, or one offered action leads to it from one of the settings
  abbrev pub NextTo : (List ℕ → ℕ → Bool) → List (List ℕ) → List ℕ → Type 0
  NextTo marks all t = (P.quest.start ≡ t) ⊎ ((s : List ℕ) × (k : ℕ) × Listed s all × (marks s k ≡ true) × (P.world.can s k ≡ true) × (P.world.next s k ≡ t))

  hop_beside : {some : List ℕ → ℕ → Bool} (rows : List (Row C)) (r : Row C) → Hop P some rows r → NextTo some (settings (filter (λ x. x.closed) rows)) r.setting
  hop_beside rows r h =
      inr (
        h.from.setting,
        r.action,
        subst (λ x. Listed x.setting (settings (filter (λ y. y.closed) rows))) h.from_is (listed_shut none rows r.origin h.low (ap (λ x. x.closed) h.from_is ∙ h.closed)),
        h.marked,
        h.can,
        sym h.is,
      )

  traced_beside : {some : List ℕ → ℕ → Bool} {rows : List (Row C)} {k : ℕ} {way : List ℕ} → (row_at P rows 0).setting ≡ P.quest.start → Traced P some rows k way → NextTo some (settings (filter (λ x. x.closed) rows)) (row_at P rows k).setting
  traced_beside e root = inl (sym e)
  traced_beside {some} {rows} e (hop r pos is h t) = subst (NextTo some (settings (filter (λ x. x.closed) rows))) (sym (ap (λ x. x.setting) is)) (hop_beside rows r h)

  pub record Spill (some : List ℕ → ℕ → Bool) (all : List (List ℕ)) : Type 0 where
    pub around : List (List ℕ)
    pub more : P.quest.capacity < length around
    pub apart : Apart around
    pub each : AllByRecursion (NextTo some all) around

  pub spill : {some : List ℕ → ℕ → Bool} {n : ℕ} (rows : List (Row C)) → Overfull P Proper some n rows → Spill some (settings (filter (λ r. r.closed) rows))
  spill {some} rows o =
      let v = o.inv in
      let x = o.extra in
      record {
        around = settings rows ++ x.setting ∷ [];
        more = omega (arith, o.no_room, length_push (settings rows) x.setting, length-map rows (λ r. r.setting));
        apart = apart_push (settings rows) x.setting (apart_rows none rows v.apart) (all_rows (λ s. s ≡ x.setting → ⊥) none rows o.missing);
        each = All-push (NextTo some (settings (filter (λ r. r.closed) rows))) (settings rows) x.setting
            (all_rows (NextTo some (settings (filter (λ r. r.closed) rows))) none rows (λ k l. traced_beside v.root_setting (v.traced k l).along)) (hop_beside rows x o.comes);
      }

  -- n different settings that were expanded
  pub record Tally (some : List ℕ → ℕ → Bool) (n : ℕ) (Also : List (List ℕ) → Type 0) : Type 0 where
    pub all : List (List ℕ)
    pub number : n ≡ length all
    pub apart : Apart all
    pub each : AllByRecursion (Near some) all
    pub also : Also all

  pub tally : {some : List ℕ → ℕ → Bool} {n : ℕ} {level : C} {Also : List (List ℕ) → Type 0} (rows : List (Row C)) → Inv P Proper some rows level → shuts rows ≡ n → Also (settings (filter (λ r. r.closed) rows)) → Tally some n Also
  tally {some} rows v e h = record {
    all = settings (filter (λ r. r.closed) rows);
    number = sym e ∙ shuts_kept rows;
    apart = apart_kept (λ r. r.closed) rows (apart_rows none rows v.apart);
    each = all_kept (Near some) (λ r. r.closed) rows (all_rows (Near some) none rows (near_row v));
    also = h;
  }
