-- The tariff "Time": tenths of a second.
use Rattle.std.specs.Prelude.{◌≡◌, ℕ, ◌+◌, ◌*◌, ◌≤◌, Bool, true, false, ◌||◌, List, [], ◌∷◌, length, nat_le, refl}
use Rattle.std.proofs.Common.{sym, ◌∙◌, add_assoc, add_comm, zero-add, arith}
use Rattle.std.specs.List.{AllByRecursion}
use Rattle.std.proofs.lemmas.Bool.{leb-true, leb-false, le-leb, lt-leb, or_left, or_right}
use Rattle.task.specs.Benches.{Act}
use Rattle.tariff.specs.Charges.{Charges, Billable, summed}

-- what 65,536 actions take at most
abbrev pub most_tenths : ℕ
most_tenths = 65536 * 1000000

pub leb_trans : (a b c : ℕ) → nat_le a b ≡ true → nat_le b c ≡ true → nat_le a c ≡ true
leb_trans a b c h k = le-leb a c (omega (arith, leb-true a b h, leb-true b c k))

pub leb_total : (a b : ℕ) → (nat_le a b || nat_le b a) ≡ true
leb_total a b = at (nat_le a b) refl
  where
    at : (t : Bool) → nat_le a b ≡ t → (nat_le a b || nat_le b a) ≡ true
    at true e = or_left _ _ e
    at false e = or_right _ _ (le-leb b a (omega (arith, leb-false a b e)))

pub leb_antisym : (a b : ℕ) → nat_le a b ≡ true → nat_le b a ≡ true → a ≡ b
leb_antisym a b h k = omega (arith, leb-true a b h, leb-true b a k)

pub leb_plus : (a b c : ℕ) → nat_le (a + c) (b + c) ≡ nat_le a b
leb_plus a b c = at (nat_le a b) refl
  where
    at : (t : Bool) → nat_le a b ≡ t → nat_le (a + c) (b + c) ≡ nat_le a b
    at true e = le-leb (a + c) (b + c) (omega (arith, leb-true a b e)) ∙ sym e
    at false e = lt-leb (a + c) (b + c) (omega (arith, leb-false a b e)) ∙ sym e

pub tenths_few : (acts : List Act) → AllByRecursion Billable acts → summed 0 ◌+◌ (λ a. a.tenths) acts ≤ 1000000 * length acts
tenths_few [] all = omega arith
tenths_few (a ∷ more) all = let rest = tenths_few more all.1 in let one = all.0.0 in omega arith

abbrev pub time : Charges ℕ
time = record {
  zero = 0;
  plus = ◌+◌;
  le = nat_le;
  charge = λ a. a.tenths;
  le_trans = leb_trans;
  le_total = leb_total;
  le_antisym = leb_antisym;
  plus_assoc = add_assoc;
  plus_comm = add_comm;
  zero_plus = zero-add;
  zero_le = λ a. le-leb 0 a (omega arith);
  le_plus = leb_plus;
  greatest = most_tenths;
  enough = λ c reached.
      let least = tenths_few reached.acts reached.billable in
      let few = reached.few in
      let is = reached.is in
      le-leb c most_tenths (omega arith);
}
