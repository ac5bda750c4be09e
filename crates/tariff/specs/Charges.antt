-- What a tariff means: a kind of charge, and a charge for each action.
use Rattle.std.specs.Prelude.{◌≡◌, ◌≤◌, Bool, true, ◌||◌, List, [], ◌∷◌, length}
use Rattle.std.specs.List.{AllByRecursion}
use Rattle.task.specs.Benches.{Act}

-- an action may take up to 1,000,000 tenths and 1,000 presses
abbrev pub Billable : Act → Type 0
Billable a = (a.tenths ≤ 1000000) × (a.presses ≤ 1000)

-- the charges of a row of actions, added up
abbrev pub summed : {C : Type 0} → C → (C → C → C) → (Act → C) → List Act → C
summed zero plus charge [] = zero
summed zero plus charge (a ∷ more) = plus (charge a) (summed zero plus charge more)

-- a sum of up to 65,536 charges of actions
pub record Reached {C : Type 0} (zero : C) (plus : C → C → C) (charge : Act → C) (c : C) : Type 0 where
  pub acts : List Act
  pub few : length acts ≤ 65536
  pub billable : AllByRecursion Billable acts
  pub is : c ≡ summed zero plus charge acts

pub record Charges (C : Type 0) : Type 0 where
  pub zero : C
  pub plus : C → C → C
  pub le : C → C → Bool
  pub charge : Act → C
  pub le_trans : (a b c : C) → le a b ≡ true → le b c ≡ true → le a c ≡ true
  pub le_total : (a b : C) → (le a b || le b a) ≡ true
  pub le_antisym : (a b : C) → le a b ≡ true → le b a ≡ true → a ≡ b
  pub plus_assoc : (a b c : C) → plus (plus a b) c ≡ plus a (plus b c)
  pub plus_comm : (a b : C) → plus a b ≡ plus b a
  pub zero_plus : (a : C) → plus zero a ≡ a
  pub zero_le : (a : C) → le zero a ≡ true
  pub le_plus : (a b c : C) → le (plus a c) (plus b c) ≡ le a b
  -- a charge that no such sum exceeds, so that each of them is held
  pub greatest : C
  pub enough : (c : C) → Reached zero plus charge c → le c greatest ≡ true
