-- What a Take comes to.
use Rattle.std.proofs.Common.{◌≡◌, ℕ, suc, ◌+◌, ◌<◌, ◌≤◌, ltb, List, [], ◌∷◌, map, length, get_or, take, drop, Some, None, Err, Result, sym, refl, ap, ◌∙◌, add-one, arith, length-drop, get_or-take}
use Rattle.std.specs.List.{between, AllByRecursion}
use Rattle.std.specs.Result.{result_unwrap_or}
use Rattle.std.proofs.ByRecursion.{All-drop}
use Rattle.std.proofs.lemmas.Slice.{between_is}
use Rattle.std.proofs.lemmas.Bool.{cond-true, cond-false, lt-ltb, le-ltb}
use Rattle.task.specs.declared.data.Action.{Action}
use Rattle.task.specs.Benches.{Act, act_of, Bench, Lawful}
use Rattle.tariff.specs.declared.charge.TotalError.{TotalError}
use Rattle.tariff.specs.declared.charge.TotalError.TheVariants.{TooMany}
use Rattle.tariff.specs.Charges.{Charges, Reached}
use Rattle.tariff.specs.Totals as totals
use Rattle.tariff.proofs.Totals.{held}
use Rattle.search.specs.declared.phase.Ended.{Ended}
use Rattle.search.specs.Session.{Lengths, ended, found, Call, taking, do_next, take_fault, taken, after, state, charge_of}
use Rattle.search.specs.Left.{ActionsLent, LeftEnded, CanTake, old_quest, end_of, sum_or_most}
use Rattle.search.proofs.Held.{in_hand}
use Rattle.search.proofs.Sessions.{take_by}

-- no number is past the limit
none_stray : (limit i : ℕ) (numbers : List ℕ) → AllByRecursion (λ k. k < limit) numbers → totals.stray limit i numbers ≡ None
none_stray limit i [] all = refl
none_stray limit i (k ∷ more) all = cond-true (ltb k limit) (totals.stray limit (i + 1) more) (Some i) (lt-ltb k limit all.0) ∙ none_stray limit (i + 1) more all.1

-- few actions of the table: their sum is the charge
exact : {C : Type 0} (K : Charges C) (acts : List Act) (numbers : List ℕ) → length numbers ≤ 65536 → AllByRecursion (λ k. k < length acts) numbers → Reached K.zero K.plus K.charge (totals.charge_of K acts numbers) → sum_or_most K acts numbers ≡ totals.charge_of K acts numbers
exact {C} K acts numbers few all reached =
    let sum = totals.charge_of K acts numbers in
    let last : Result C TotalError = totals.unless (totals.stray (length acts) 0 numbers) (totals.against K.le K.greatest sum) in
    ap (λ x. result_unwrap_or x K.greatest) (cond-false (ltb 65536 (length numbers)) (Err TooMany) last (le-ltb 65536 (length numbers) few))
    ∙ (λ i. result_unwrap_or (totals.unless (none_stray (length acts) 0 numbers all i) (held K sum reached i)) K.greatest)

module _ {C : Type 0} (b : Bench) (K : Charges C) (lawful : Lawful b) (calls : List (Call C)) (e : Ended C) (table : List Action) (list : List ℕ) (l : Lengths) (lent : ActionsLent e.asked.task b table) (left : LeftEnded b K calls e list) (can : CanTake e (length table) (length list)) (none : None ≡ take_fault b e.asked.limits.capacity (end_of e.ending left.plan e.taken) l) where
  abbrev plan : List ℕ
  plan = left.plan

  pub took : after b K (state b K calls) (taking l) ≡ (ended (old_quest e) (found can.step.charge plan (suc e.taken)) e.expanded, do_next (get_or plan e.taken 0) (charge_of b K (drop (suc e.taken) plan)))
  took = take_by b K calls (old_quest e) (end_of e.ending plan e.taken) e.expanded l left.is None none ∙ ap (λ x. taken b K (old_quest e) (end_of x plan e.taken) e.expanded) can.step.has

  pub phase_is : state b K (taking l ∷ calls) ≡ ended (old_quest e) (end_of e.ending plan (e.taken + 1)) e.expanded
  phase_is = ap (λ p. p.0) took ∙ (λ i. ended (old_quest e) (end_of (sym can.step.has i) plan (sym (add-one e.taken) i)) e.expanded)

  pub action_is : get_or list e.taken 0 ≡ get_or plan e.taken 0
  action_is = sym (get_or-take e.planned list e.taken 0 can.step.left) ∙ ap (λ x. get_or x e.taken 0) (left.in_list can.in_plan)

  rest_is : between (e.taken + 1) e.planned list ≡ drop (suc e.taken) plan
  rest_is = between_is list (e.taken + 1) e.planned ∙ ap (drop (e.taken + 1)) (left.in_list can.in_plan) ∙ ap (λ n. drop n plan) (add-one e.taken)

  pub remaining_is : sum_or_most K (map act_of (take e.asked.task.actions table)) (between (e.taken + 1) e.planned list) ≡ charge_of b K (drop (suc e.taken) plan)
  remaining_is =
      let few = in_hand b K lawful (taking l ∷ calls) (old_quest e) can.step.charge plan (suc e.taken) e.expanded (ap (λ p. p.0) took) in
      let short : length (drop (suc e.taken) plan) ≤ 65536 = omega (arith, length-drop (suc e.taken) plan, few.short, few.rows) in
      (λ i. sum_or_most K (ap (λ (x : Bench). x.actions) (lent can.in_actions) i) (rest_is i))
      ∙ exact K b.actions (drop (suc e.taken) plan) short (All-drop (λ x. x < length b.actions) (suc e.taken) plan few.numbers) few.rest
