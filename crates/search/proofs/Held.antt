-- The sums that a search forms are of few actions.
use Rattle.std.proofs.Common.{◌≡◌, ℕ, ◌<◌, ◌≤◌, Bool, List, [], ◌∷◌, ◌++◌, map, length, drop, sym, refl, ap, ◌∙◌, arith, length-drop}
use lib.ListN.{length-map}
use Rattle.std.specs.List.{AllByRecursion}
use Rattle.std.proofs.ByRecursion.{All-push, All-map, All-weaker, All-drop, All-from_get_or}
use Rattle.std.proofs.lemmas.List.{length_push}
use Rattle.task.specs.Benches.{Bench, world, act, Plan, Lawful, SettingOf}
use Rattle.tariff.specs.Charges.{Charges, Reached, Billable}
use Rattle.rules.specs.Marks.{Marking}
use Rattle.search.specs.declared.data.Row.{Row}
use Rattle.search.specs.Rows.{blank}
use Rattle.search.specs.Steps.{Quest, problem, advance, row_at, Addable}
use Rattle.search.specs.Session.{Call, searching, ended, found, state, charge_of}
use Rattle.search.specs.Promise.{Leads, accepted}
use Rattle.search.proofs.Sums.{total_push}
use Rattle.search.proofs.RowFacts.{shuts_le}
use Rattle.search.proofs.Traces.{traced_led}
use Rattle.search.proofs.Invariant.{Inv}
use Rattle.search.proofs.Benches.{numbered, billable}
use Rattle.search.proofs.Promises.{live_ran, fits_at}

module _ {C : Type 0} (b : Bench) (K : Charges C) (lawful : Lawful b) where
  numbers_billed : (numbers : List ℕ) → AllByRecursion (λ k. k < length b.actions) numbers → AllByRecursion Billable (map (act b) numbers)
  numbers_billed numbers h = All-map Billable (act b) numbers (All-weaker (λ k. k < length b.actions) (λ k. Billable (act b k)) (billable b lawful) numbers h)

  leads_numbered : (marks : List ℕ → ℕ → Bool) (s way t : List ℕ) → Leads (world b) marks s way t → AllByRecursion (λ k. k < length b.actions) way
  leads_numbered marks s [] t h = tt
  leads_numbered marks s (k ∷ way) t h = (numbered b s k h.1, leads_numbered marks ((world b).next s k) way t h.2)

  -- each number of a plan names an action
  pub plan_numbered : (s plan : List ℕ) → Plan (world b) s plan → AllByRecursion (λ k. k < length b.actions) plan
  plan_numbered s [] p = tt
  plan_numbered s (k ∷ plan) p = (numbered b s k p.0, plan_numbered ((world b).next s k) plan p.1)

  row_addable : (q : Quest C) (some : List ℕ → ℕ → Bool) (rows : List (Row C)) (level : C) → q.capacity ≤ 65535 → Inv (problem b K q) (SettingOf b) some rows level → (i : ℕ) → i < length rows → Addable (problem b K q) (row_at (problem b K q) rows i).charge
  row_addable q some rows level few v i l a below =
      let t = v.traced i l in
      let d = traced_led (problem b K q) v.root_setting v.root_charge t.along in
      record {
        acts = map (act b) (t.path ++ a ∷ []);
        few = omega (arith, length-map (t.path ++ a ∷ []) (act b), length_push t.path a, t.short, shuts_le rows, v.fits);
        billable = numbers_billed (t.path ++ a ∷ []) (All-push (λ k. k < length b.actions) t.path a (leads_numbered some q.start t.path _ d.leads) below);
        is = ap (λ x. K.plus x (K.charge (act b a))) (sym d.costs) ∙ sym (total_push K (act b) t.path a);
      }

  -- after any steps of any rule, any action can be added to any row's charge
  pub always_addable : (calls : List (Call C)) (q : Quest C) (rows : List (Row C)) (n : ℕ) → state b K calls ≡ searching q rows n → (m : Marking) (j : ℕ) → AllByRecursion (λ r. Addable (problem b K q) r.charge) (advance (problem b K q) (m.marks b) j rows n).rows
  always_addable calls q rows n e m j =
      let live = fits_at b K lawful calls (searching q rows n) e in
      let r = live_ran b K lawful q (accepted b K calls) j m n rows live j in
      All-from_get_or (λ r. Addable (problem b K q) r.charge) (advance (problem b K q) (m.marks b) j rows n).rows (blank K.zero K.le)
      (row_addable q _ (advance (problem b K q) (m.marks b) j rows n).rows r.level live.few r.inv)

  -- a plan in hand has fewer actions than there are rows, each numbered, and what remains is a sum of few
  pub record Few (q : Quest C) (plan : List ℕ) (k : ℕ) : Type 0 where
    pub rows : q.capacity ≤ 65535
    pub short : length plan < q.capacity
    pub numbers : AllByRecursion (λ x. x < length b.actions) plan
    pub rest : Reached K.zero K.plus K.charge (charge_of b K (drop k plan))

  pub in_hand : (calls : List (Call C)) (q : Quest C) (c : C) (plan : List ℕ) (k n : ℕ) → state b K calls ≡ ended q (found c plan k) n → Few q plan k
  in_hand calls q c plan k n e =
      let h = fits_at b K lawful calls (ended q (found c plan k) n) e in
      let all = plan_numbered q.start plan h.1.is_plan in
      record {
        rows = h.0;
        short = h.1.short;
        numbers = all;
        rest = record {
          acts = map (act b) (drop k plan);
          few = omega (arith, length-map (drop k plan) (act b), length-drop k plan, h.0, h.1.short);
          billable = numbers_billed (drop k plan) (All-drop (λ x. x < length b.actions) k plan all);
          is = refl;
        };
      }
