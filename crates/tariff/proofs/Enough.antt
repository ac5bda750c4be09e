-- No sum of up to 65,536 charges of actions exceeds the greatest charge, by either tariff.
use Rattle.std.specs.Prelude.{◌≡◌, ℕ, ◌+◌, true, nat_le}
use Rattle.tariff.specs.declared.charge.Pressed.{Pressed}
use Rattle.tariff.specs.Charges.{Reached}
use Rattle.tariff.specs.Time.{most_tenths, time}
use Rattle.tariff.specs.Presses.{pressed, both, upto, presses_of, most_presses, pressing}

pub time_enough : (c : ℕ) → Reached 0 ◌+◌ (λ a. a.tenths) c → nat_le c most_tenths ≡ true
time_enough = time.enough

pub presses_enough : (c : Pressed) → Reached (pressed 0 0) both presses_of c → upto c (pressed most_presses most_tenths) ≡ true
presses_enough = pressing.enough
