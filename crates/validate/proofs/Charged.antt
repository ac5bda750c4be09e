-- What a walk has cost, action by action.
use Rattle.std.proofs.Common.{◌≡◌, ℕ, ◌≤◌, List, [], ◌∷◌, refl, ap, ◌∙◌, arith}
use Rattle.task.specs.declared.data.Action.{Action}
use Rattle.task.specs.Benches.{Act, act_of}
use Rattle.tariff.specs.Charges.{Charges}
use Rattle.tariff.specs.Time.{time}
use Rattle.tariff.specs.Presses.{pressing}
use Rattle.tariff.specs.Totals.{sum, and_act, SumOfFew}
use Rattle.validate.specs.declared.data.Standing.{Standing}
use Rattle.validate.specs.Walks.{standing, moved, Counted}

-- one action more, put in front
and_front : {C : Type 0} (K : Charges C) (c : C) (acts : List Act) (a : Act) → c ≡ sum K acts → and_act K c a ≡ sum K (a ∷ acts)
and_front K c acts a e = ap (λ x. K.plus x (K.charge a)) e ∙ K.plus_comm (sum K acts) (K.charge a)

pub starts : (s : List ℕ) → Counted (standing s)
starts s = record { acts = []; billable = tt; long = refl; low = omega arith; time_is = refl; presses_is = refl }

module _ (w : Standing) (a : Action) (counted : Counted w) (low : w.step ≤ 65536) where
  pub time_few : SumOfFew time (and_act time w.costs.time (act_of a))
  time_few = record { acts = act_of a ∷ counted.acts; few = omega (arith, counted.long); billable = (a.limits, counted.billable); is = and_front time w.costs.time counted.acts (act_of a) counted.time_is }

  pub presses_few : SumOfFew pressing (and_act pressing w.costs.presses (act_of a))
  presses_few = record { acts = act_of a ∷ counted.acts; few = omega (arith, counted.long); billable = (a.limits, counted.billable); is = and_front pressing w.costs.presses counted.acts (act_of a) counted.presses_is }

  pub goes_on : Counted (moved w (act_of a))
  goes_on = record {
    acts = act_of a ∷ counted.acts;
    billable = (a.limits, counted.billable);
    long = omega (arith, counted.long);
    low = omega arith;
    time_is = and_front time w.costs.time counted.acts (act_of a) counted.time_is;
    presses_is = and_front pressing w.costs.presses counted.acts (act_of a) counted.presses_is;
  }
