-- How the origins of the rows lead back to row 0.
use Rattle.std.proofs.Common.{◌≡◌, ℕ, zero, suc, ◌<◌, ◌≤◌, Bool, true, eqb, List, [], ◌∷◌, ◌++◌, length, sym, refl, ap, ◌∙◌, subst, ap₂, append_assoc, arith, length-append}
use Rattle.std.proofs.lemmas.Bool.{ne_eqb, cond-false}
use Rattle.search.specs.declared.data.Row.{Row}
use Rattle.search.specs.Rows.{shut, follow}
use Rattle.search.specs.Steps.{Problem, cost, row_at}
use Rattle.search.specs.Promise.{Leads}
use Rattle.search.proofs.Sums.{total, total_push}

-- whatever the first test marks, the second marks
abbrev pub Wider : (List ℕ → ℕ → Bool) → (List ℕ → ℕ → Bool) → Type 0
Wider marks marks' = (s : List ℕ) (a : ℕ) → marks s a ≡ true → marks' s a ≡ true

module _ {C : Type 0} (P : Problem C) where
  -- the row r comes by its action, which is marked, from a closed row
  pub record Hop (marks : List ℕ → ℕ → Bool) (rows : List (Row C)) (r : Row C) : Type 0 where
    pub low : r.origin < length rows
    pub from : Row C
    pub from_is : row_at P rows r.origin ≡ from
    pub closed : from.closed ≡ true
    pub is : r.setting ≡ P.world.next from.setting r.action
    pub marked : marks from.setting r.action ≡ true
    pub can : P.world.can from.setting r.action ≡ true
    pub adds : r.charge ≡ P.charges.plus from.charge (cost P r.action)

  -- the origins lead from row k back to row 0, and these are the actions
  pub data Traced (marks : List ℕ → ℕ → Bool) (rows : List (Row C)) : ℕ → List ℕ → Type 0 where
    root : Traced marks rows 0 []
    hop : {k : ℕ} {way : List ℕ} (r : Row C) → 0 < k → shut (row_at P rows k) ≡ shut r → Hop marks rows r → Traced marks rows r.origin way → Traced marks rows k (way ++ r.action ∷ [])

  -- all closed rows are as they were
  pub record Keeps (rows rows' : List (Row C)) : Type 0 where
    pub longer : length rows ≤ length rows'
    pub closed : (k : ℕ) → k < length rows → (row_at P rows k).closed ≡ true → row_at P rows' k ≡ row_at P rows k

  pub keeps_refl : (rows : List (Row C)) → Keeps rows rows
  keeps_refl rows = record { longer = omega arith; closed = λ k l e. refl }

  module _ {marks marks' : List ℕ → ℕ → Bool} (wider : Wider marks marks') {rows rows' : List (Row C)} (keeps : Keeps rows rows') where
    pub hop_kept : {r : Row C} → Hop marks rows r → Hop marks' rows' r
    hop_kept {r} h = record {
      low = omega (arith, keeps.longer, h.low);
      from = h.from;
      from_is = keeps.closed r.origin h.low (ap (λ x. x.closed) h.from_is ∙ h.closed) ∙ h.from_is;
      closed = h.closed;
      is = h.is;
      marked = wider h.from.setting r.action h.marked;
      can = h.can;
      adds = h.adds;
    }

    pub traced_kept : {k : ℕ} {way : List ℕ} → shut (row_at P rows' k) ≡ shut (row_at P rows k) → Traced marks rows k way → Traced marks' rows' k way
    traced_kept q root = root
    traced_kept q (hop r pos is h t) =
        hop r pos (q ∙ is) (hop_kept h) (traced_kept (ap shut (keeps.closed r.origin h.low (ap (λ x. x.closed) h.from_is ∙ h.closed))) t)

  pub leads_push : (marks : List ℕ → ℕ → Bool) (s way t : List ℕ) (a : ℕ) → Leads P.world marks s way t → marks t a ≡ true → P.world.can t a ≡ true → Leads P.world marks s (way ++ a ∷ []) (P.world.next t a)
  leads_push marks s [] t a l m c = (rw l m, rw l c, ap (λ x. P.world.next x a) l)
  leads_push marks s (b ∷ way) t a l m c = (l.0, l.1, leads_push marks (P.world.next s b) way t a l.2 m c)

  -- the actions lead from the start to row k, at its charge
  pub record Led (marks : List ℕ → ℕ → Bool) (rows : List (Row C)) (k : ℕ) (way : List ℕ) : Type 0 where
    pub leads : Leads P.world marks P.quest.start way (row_at P rows k).setting
    pub costs : total P.charges P.act way ≡ (row_at P rows k).charge

  pub traced_led : {marks : List ℕ → ℕ → Bool} {rows : List (Row C)} {k : ℕ} {way : List ℕ} → (row_at P rows 0).setting ≡ P.quest.start → (row_at P rows 0).charge ≡ P.charges.zero → Traced marks rows k way → Led marks rows k way
  traced_led e f root = record { leads = sym e; costs = sym f }
  traced_led {marks} {rows} e f (hop {k = k} {way = way} r pos is h t) =
      let l = traced_led e f t in
      record {
        leads = subst (λ u. Leads P.world marks P.quest.start (way ++ r.action ∷ []) u) (sym h.is ∙ sym (ap (λ x. x.setting) is))
            (leads_push marks P.quest.start way h.from.setting r.action (subst (λ u. Leads P.world marks P.quest.start way u) (ap (λ x. x.setting) h.from_is) l.leads) h.marked h.can);
        costs =
            total_push P.charges P.act way r.action ∙ ap (λ x. P.charges.plus x (cost P r.action)) (l.costs ∙ ap (λ x. x.charge) h.from_is) ∙ sym h.adds
            ∙ sym (ap (λ x. x.charge) is);
      }

  -- following the origins gives these actions
  pub traced_follow : {marks : List ℕ → ℕ → Bool} {rows : List (Row C)} {k : ℕ} {way : List ℕ} → Traced marks rows k way → (fuel : ℕ) → length way ≤ fuel → (behind : List ℕ)
      → follow P.charges.zero P.charges.le fuel rows k behind ≡ way ++ behind
  traced_follow root zero h behind = refl
  traced_follow root (suc f) h behind = refl
  traced_follow (hop {way = way} r pos is h t) zero l behind = absurd (omega (arith, length-append way (r.action ∷ [])))
  traced_follow {marks} {rows} (hop {k = k} {way = way} r pos is h t) (suc f) l behind =
      let e = ne_eqb k 0 (omega arith) in
      cond-false (eqb k 0) behind _ e
      ∙ ap₂ (λ o a. follow P.charges.zero P.charges.le f rows o (a ∷ behind)) (ap (λ x. x.origin) is) (ap (λ x. x.action) is)
      ∙ traced_follow t f (omega (arith, length-append way (r.action ∷ []))) (r.action ∷ behind)
      ∙ sym (append_assoc way (r.action ∷ []) behind)
