-- What remains of a cheapest plan is a cheapest plan.
use Rattle.std.proofs.Common.{◌≡◌, ℕ, zero, suc, true, List, [], ◌∷◌, ◌++◌, take, drop, sym, ap, ◌∙◌, take-append-drop}
use Rattle.task.specs.Benches.{World, Plan}
use Rattle.search.specs.Steps.{Problem}
use Rattle.search.specs.Promise.{led}
use Rattle.search.proofs.Sums.{total, total_join, cancel_left}
use Rattle.search.proofs.Ends.{Best}

module _ (W : World (List ℕ)) where
  plan_rest : (s plan : List ℕ) (k : ℕ) → Plan W s plan → Plan W (led W s (take k plan)) (drop k plan)
  plan_rest s plan zero p = p
  plan_rest s [] (suc k) p = p
  plan_rest s (a ∷ plan) (suc k) p = plan_rest (W.next s a) plan k p.1

  plan_join : (s plan : List ℕ) (k : ℕ) (other : List ℕ) → Plan W s plan → Plan W (led W s (take k plan)) other → Plan W s (take k plan ++ other)
  plan_join s plan zero other p o = o
  plan_join s [] (suc k) other p o = o
  plan_join s (a ∷ plan) (suc k) other p o = (p.0, plan_join (W.next s a) plan k other p.1 o)

module _ {C : Type 0} (P : Problem C) (Proper : List ℕ → Type 0) (c : C) (plan : List ℕ) (best : Best P Proper c plan) (k : ℕ) where
  pub rest_plan : Plan P.world (led P.world P.quest.start (take k plan)) (drop k plan)
  rest_plan = plan_rest P.world P.quest.start plan k best.is_plan

  pub rest_least : (other : List ℕ) → Plan P.world (led P.world P.quest.start (take k plan)) other → P.charges.le (total P.charges P.act (drop k plan)) (total P.charges P.act other) ≡ true
  rest_least other p =
      let K = P.charges in
      let front = total K P.act (take k plan) in
      let whole : c ≡ K.plus front (total K P.act (drop k plan)) = best.costs ∙ ap (total K P.act) (sym (take-append-drop k plan)) ∙ total_join K P.act (take k plan) (drop k plan) in
      let h = best.best (take k plan ++ other) (plan_join P.world P.quest.start plan k other best.is_plan p) in
      cancel_left K front (total K P.act (drop k plan)) (total K P.act other)
      (sym (ap (λ x. K.le x (K.plus front (total K P.act other))) whole) ∙ sym (ap (K.le c) (total_join K P.act (take k plan) other)) ∙ h)
