-- What some steps come to: the phase, the answer and the plan list.
use Rattle.std.specs.Prelude.{◌≡◌, ℕ, Bool, List, [], length}
use Rattle.search.specs.declared.data.Row.{Row}
use Rattle.search.specs.declared.sizes.Ran.{Ran}
use Rattle.search.specs.declared.phase.Asked.{Asked}
use Rattle.search.specs.declared.phase.Search.{Search}
use Rattle.search.specs.declared.phase.Ending.{Ending}
use Rattle.search.specs.declared.phase.Ending.TheVariants.{Found, NoPlan, Full}
use Rattle.search.specs.declared.phase.Ended.{Ended}
use Rattle.search.specs.declared.phase.Advanced.{Advanced}
use Rattle.search.specs.declared.phase.Advanced.TheVariants as advanced
use Rattle.search.specs.Rows.{row, plan_of}
use Rattle.search.specs.Steps.{going, at_goal, exhausted, crowded}
use Rattle.search.specs.Counts.{outcome_of}
use Rattle.search.specs.Left.{Written}

-- the search goes on with these numbers
pub record GoesOn {C : Type 0} (a : Asked C) (r : Ran) (s : Search C) : Type 0 where
  pub asked : s.asked ≡ a
  pub sizes : s.sizes ≡ r.sizes
  pub expanded : s.expanded ≡ r.expanded

-- it ended so, with this plan
pub record EndsSo {C : Type 0} (a : Asked C) (count : ℕ) (how : Ending C) (list : List ℕ) (e : Ended C) : Type 0 where
  pub asked : e.asked ≡ a
  pub expanded : e.expanded ≡ count
  pub ending : e.ending ≡ how
  pub planned : e.planned ≡ length list
  pub taken : e.taken ≡ 0

-- the answer to an Advance, by how the search stands after its steps
abbrev pub Concluded : {C : Type 0} → C → (C → C → Bool) → Asked C → Ran → List (Row C) → List ℕ → List ℕ → Advanced C → Type 0
Concluded zero le a r rows plan plan' (advanced.Working s n) = (outcome_of r.progress ≡ going) × (n ≡ r.expanded) × GoesOn a r s × (plan' ≡ plan)
Concluded zero le a r rows plan plan' (advanced.Found e c n) =
    (i : ℕ) × (outcome_of r.progress ≡ at_goal i) × (n ≡ r.expanded) × (c ≡ (row zero le rows i).charge) × EndsSo a r.expanded (Found c) (plan_of zero le rows i) e × Written (plan_of zero le rows i) plan plan'
Concluded zero le a r rows plan plan' (advanced.NoPlan e n) = (outcome_of r.progress ≡ exhausted) × (n ≡ r.expanded) × EndsSo a r.expanded NoPlan [] e × (plan' ≡ plan)
Concluded zero le a r rows plan plan' (advanced.Full e n) = (outcome_of r.progress ≡ crowded) × (n ≡ r.expanded) × EndsSo a r.expanded Full [] e × (plan' ≡ plan)
