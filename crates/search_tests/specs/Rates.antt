-- A tariff with rates of its own: so much for a tenth, so much for a press.
use Rattle.std.specs.Prelude.{◌≡◌, ℕ, ◌+◌, ◌*◌, ◌≤◌, true, List, [], ◌∷◌, length, nat_le}
use Rattle.std.proofs.Common.{add_assoc, add_comm, zero-add, mul-suc, mul-le-mul_left, arith}
use Rattle.std.specs.List.{AllByRecursion}
use Rattle.std.proofs.lemmas.Bool.{le-leb}
use Rattle.task.specs.Benches.{Act}
use Rattle.tariff.specs.Charges.{Charges, Reached, Billable, summed}
use Rattle.tariff.specs.Time.{leb_trans, leb_total, leb_antisym, leb_plus}

module _ (tenth press : ℕ) where
  abbrev pub rate : Act → ℕ
  rate a = tenth * a.tenths + press * a.presses

  -- the most that an action can cost
  abbrev pub dearest : ℕ
  dearest = tenth * 1000000 + press * 1000

  pub rate_most : (a : Act) → Billable a → rate a ≤ dearest
  rate_most a h =
      let t : tenth * a.tenths ≤ tenth * 1000000 = mul-le-mul_left tenth h.0 in
      let p : press * a.presses ≤ press * 1000 = mul-le-mul_left press h.1 in
      omega arith

  pub rate_few : (acts : List Act) → AllByRecursion Billable acts → summed 0 ◌+◌ rate acts ≤ dearest * length acts
  rate_few [] all = omega arith
  rate_few (a ∷ more) all =
      let one = rate_most a all.0 in
      let rest = rate_few more all.1 in
      let next = mul-suc dearest (length more) in
      omega arith

  pub rate_enough : (c : ℕ) → Reached 0 ◌+◌ rate c → nat_le c (dearest * 65536) ≡ true
  rate_enough c reached =
      let low = rate_few reached.acts reached.billable in
      let few : dearest * length reached.acts ≤ dearest * 65536 = mul-le-mul_left dearest reached.few in
      let is = reached.is in
      le-leb c (dearest * 65536) (omega arith)

  abbrev pub rated : Charges ℕ
  rated = record {
    zero = 0;
    plus = ◌+◌;
    le = nat_le;
    charge = rate;
    le_trans = leb_trans;
    le_total = leb_total;
    le_antisym = leb_antisym;
    plus_assoc = add_assoc;
    plus_comm = add_comm;
    zero_plus = zero-add;
    zero_le = λ a. le-leb 0 a (omega arith);
    le_plus = leb_plus;
    greatest = dearest * 65536;
    enough = rate_enough;
  }
