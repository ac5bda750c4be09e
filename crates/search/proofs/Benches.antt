-- What a search takes for granted holds of a lawful bench.
use Rattle.std.proofs.Common.{◌≡◌, ℕ, zero, suc, ◌+◌, ◌<◌, ◌≤◌, Bool, true, false, cond, ◌&&◌, ltb, ◌≢◌, List, [], ◌∷◌, length, get_or, set, Some, None, refl, ap, ◌∙◌, inl, inr, add-zero, zero-add, arith, length-set, get_or-set_other, get_or-set_same}
use Rattle.std.specs.List.{AllByRecursion}
use Rattle.std.proofs.ByRecursion.{All-get_or}
use Rattle.std.proofs.lemmas.List.{get_or_default}
use Rattle.std.proofs.lemmas.Bool.{and_parts, cases_eq, ltb-true, lt-ltb}
use Rattle.task.specs.declared.data.Atom.{Atom}
use Rattle.task.specs.Settings.{assigned, outside, met}
use Rattle.task.specs.Benches.{Bench, world, act, idle, Lawful, LawfulAct, SettingOf, Inside}
use Rattle.tariff.specs.Charges.{Charges, Billable}
use Rattle.search.specs.Steps.{Quest, problem}
use Rattle.search.proofs.Invariant.{Sane}

module _ (b : Bench) where
  assigned_setting : length b.sizes ≤ 64 → (atoms : List Atom) (s : List ℕ) → AllByRecursion (Inside b.sizes) atoms → SettingOf b s → SettingOf b (assigned s atoms)
  assigned_setting few [] s inside h = h
  assigned_setting few (a ∷ more) s inside h = assigned_setting few more (set s a.variable a.value) inside.1 (record {
    places = length-set s a.variable a.value ∙ h.places;
    values = λ v l. elim (cases_eq v a.variable) [ inl e ↦ here v e | inr d ↦ there v l d ];
  })
    where
      here : (v : ℕ) → v ≡ a.variable → get_or (set s a.variable a.value) v 0 < get_or b.sizes v 1
      here v e =
          rw e
          (let low : a.variable < length s = omega (arith, inside.0.0, h.places) in
          let is = get_or-set_same s a.variable a.value 0 low in
          let size = get_or_default b.sizes a.variable 0 1 inside.0.0 in
          omega (arith, inside.0.1))

      there : (v : ℕ) → v < 64 → v ≢ a.variable → get_or (set s a.variable a.value) v 0 < get_or b.sizes v 1
      there v l d = rw (get_or-set_other s a.variable v a.value 0 d) (h.values v l)

  pub numbered : (s : List ℕ) (k : ℕ) → (world b).can s k ≡ true → k < length b.actions
  numbered s k e = ltb-true k (length b.actions) (and_parts (ltb k (length b.actions)) (met s (act b k).conditions) e).0

  -- an action with a number is applicable where its conditions hold
  pub can_met : (s : List ℕ) (k : ℕ) → k < length b.actions → (world b).can s k ≡ met s (act b k).conditions
  can_met s k l = ap (λ t. t && met s (act b k).conditions) (lt-ltb k (length b.actions) l)

  pub lawful_act : Lawful b → (k : ℕ) → k < length b.actions → LawfulAct b.sizes (act b k)
  lawful_act lawful k l = All-get_or (LawfulAct b.sizes) b.actions k idle l lawful.acts

  pub billable : Lawful b → (k : ℕ) → k < length b.actions → Billable (act b k)
  billable lawful k l = let a = lawful_act lawful k l in (a.tenths, a.presses)

  moves : Lawful b → (s : List ℕ) (k : ℕ) → SettingOf b s → (world b).can s k ≡ true → SettingOf b ((world b).next s k)
  moves lawful s k h e = assigned_setting lawful.few_variables (act b k).effects s (lawful_act lawful k (numbered s k e)).effects_inside h

  none_outside : (v : ℕ) (s : List ℕ) → outside b.sizes v s ≡ None → (w : ℕ) → w < length s → get_or s w 0 < get_or b.sizes (v + w) 1
  none_outside v [] e w l = absurd (omega arith)
  none_outside v (x ∷ more) e w l = at (ltb x (get_or b.sizes v 1)) refl e (none_outside (v + 1) more) w l
    where
      at : (t : Bool) → ltb x (get_or b.sizes v 1) ≡ t → cond t (outside b.sizes (v + 1) more) (Some v) ≡ None
          → (outside b.sizes (v + 1) more ≡ None → (w : ℕ) → w < length more → get_or more w 0 < get_or b.sizes ((v + 1) + w) 1) → (w : ℕ) → w < length (x ∷ more) → get_or (x ∷ more) w 0 < get_or b.sizes (v + w) 1
      at true t e ih zero l = rw (add-zero v) (ltb-true x (get_or b.sizes v 1) t)
      at true t e ih (suc w) l = let n : v + suc w ≡ (v + 1) + w = omega arith in rw n (ih e w (omega arith))
      at false t e ih w l = absurd cc

  pub setting_of : (s : List ℕ) → length s ≡ 64 → outside b.sizes 0 s ≡ None → SettingOf b s
  setting_of s n e = record { places = n; values = λ v l. let h = none_outside 0 s e v (omega arith) in rw zero-add at h }

  pub sane : {C : Type 0} (K : Charges C) (q : Quest C) → Lawful b → 0 < q.capacity → SettingOf b q.start → Sane (problem b K q) (SettingOf b)
  sane K q lawful room start = record { numbered = numbered; room = room; starts = start; moves = moves lawful }
