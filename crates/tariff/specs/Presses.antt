-- The tariff "Presses": key presses first, tenths of a second second.
use Rattle.std.specs.Prelude.{◌≡◌, ℕ, ◌+◌, ◌*◌, ◌<◌, ◌≤◌, Bool, true, false, ◌&&◌, ◌||◌, ◌⊎◌, List, [], ◌∷◌, length, ◌==◌, nat_le, nat_lt, refl}
use Rattle.std.proofs.Common.{sym, ap, ◌∙◌, inl, inr, ⊎_elim, add_assoc, add_comm, zero-add, arith}
use Rattle.std.specs.List.{AllByRecursion}
use Rattle.std.proofs.lemmas.Bool.{leb-true, ltb-true, ltb-false, eqb-true, eqb-false, le-leb, lt-ltb, le-ltb, eq-eqb, ne_eqb, or_cases, or_left, or_right, and_parts, and_from, cases_order, cases_lt}
use Rattle.task.specs.Benches.{Act}
use Rattle.tariff.specs.declared.charge.Pressed.{Pressed}
use Rattle.tariff.specs.Charges.{Charges, Billable, summed}
use Rattle.tariff.specs.Time.{leb_plus, most_tenths}

abbrev pub pressed : ℕ → ℕ → Pressed
pressed presses tenths = record { presses = presses; tenths = tenths }

abbrev pub both : Pressed → Pressed → Pressed
both a b = pressed (a.presses + b.presses) (a.tenths + b.tenths)

-- fewer presses, or as many and no more tenths
abbrev pub upto : Pressed → Pressed → Bool
upto a b = nat_lt a.presses b.presses || (a.presses == b.presses && nat_le a.tenths b.tenths)

abbrev pub presses_of : Act → Pressed
presses_of a = pressed a.presses a.tenths

-- what 65,536 actions take at most
abbrev pub most_presses : ℕ
most_presses = 65536 * 1000

abbrev Upto : Pressed → Pressed → Type 0
Upto a b = (a.presses < b.presses) ⊎ ((a.presses ≡ b.presses) × (a.tenths ≤ b.tenths))

pub upto_true : (a b : Pressed) → upto a b ≡ true → Upto a b
upto_true a b h =
    ⊎_elim (λ l. inl (ltb-true _ _ l)) (λ e. let parts = and_parts (a.presses == b.presses) (nat_le a.tenths b.tenths) e in inr (eqb-true _ _ parts.0, leb-true _ _ parts.1)) (or_cases (nat_lt a.presses b.presses) _ h)

pub true_upto : (a b : Pressed) → Upto a b → upto a b ≡ true
true_upto a b h =
    ⊎_elim (λ l. or_left _ _ (lt-ltb a.presses b.presses l)) (λ e. or_right _ _ (and_from _ _ (eq-eqb a.presses b.presses e.0) (le-leb a.tenths b.tenths e.1))) h

pub each_upto : (a b : Pressed) → a.presses ≤ b.presses → a.tenths ≤ b.tenths → upto a b ≡ true
each_upto a b p t = at (cases_lt a.presses b.presses)
  where
    at : (a.presses < b.presses) ⊎ (b.presses ≤ a.presses) → upto a b ≡ true
    at (inl l) = true_upto a b (inl l)
    at (inr g) = true_upto a b (inr (omega arith, t))

pub upto_trans : (a b c : Pressed) → upto a b ≡ true → upto b c ≡ true → upto a c ≡ true
upto_trans a b c h k = true_upto a c (at (upto_true a b h) (upto_true b c k))
  where
    at : Upto a b → Upto b c → Upto a c
    at (inl x) (inl y) = inl (omega arith)
    at (inl x) (inr y) = inl (omega arith)
    at (inr x) (inl y) = inl (omega arith)
    at (inr x) (inr y) = inr (omega arith, omega arith)

pub upto_total : (a b : Pressed) → (upto a b || upto b a) ≡ true
upto_total a b = at (cases_order a.presses b.presses) (cases_lt a.tenths b.tenths)
  where
    at : (a.presses ≡ b.presses) ⊎ ((a.presses < b.presses) ⊎ (b.presses < a.presses)) → (a.tenths < b.tenths) ⊎ (b.tenths ≤ a.tenths) → (upto a b || upto b a) ≡ true
    at (inl e) (inl t) = or_left _ _ (true_upto a b (inr (e, omega arith)))
    at (inl e) (inr t) = or_right _ _ (true_upto b a (inr (sym e, t)))
    at (inr (inl l)) t = or_left _ _ (true_upto a b (inl l))
    at (inr (inr l)) t = or_right _ _ (true_upto b a (inl l))

pub upto_antisym : (a b : Pressed) → upto a b ≡ true → upto b a ≡ true → a ≡ b
upto_antisym a b h k = at (upto_true a b h) (upto_true b a k)
  where
    at : Upto a b → Upto b a → a ≡ b
    at (inl x) (inl y) = absurd (omega arith)
    at (inl x) (inr y) = absurd (omega arith)
    at (inr x) (inl y) = absurd (omega arith)
    at (inr x) (inr y) = let t : a.tenths ≡ b.tenths = omega arith in λ i. pressed (x.0 i) (t i)

pub ltb_plus : (a b c : ℕ) → nat_lt (a + c) (b + c) ≡ nat_lt a b
ltb_plus a b c = at (nat_lt a b) refl
  where
    at : (t : Bool) → nat_lt a b ≡ t → nat_lt (a + c) (b + c) ≡ nat_lt a b
    at true e = lt-ltb (a + c) (b + c) (omega (arith, ltb-true a b e)) ∙ sym e
    at false e = le-ltb (a + c) (b + c) (omega (arith, ltb-false a b e)) ∙ sym e

pub eqb_plus : (a b c : ℕ) → (a + c == b + c) ≡ (a == b)
eqb_plus a b c = at (a == b) refl
  where
    at : (t : Bool) → (a == b) ≡ t → (a + c == b + c) ≡ (a == b)
    at true e = eq-eqb (a + c) (b + c) (omega (arith, eqb-true a b e)) ∙ sym e
    at false e = ne_eqb (a + c) (b + c) (λ same. eqb-false a b e (omega arith)) ∙ sym e

pub upto_both : (a b c : Pressed) → upto (both a c) (both b c) ≡ upto a b
upto_both a b c =
    λ i. ltb_plus a.presses b.presses c.presses i || (eqb_plus a.presses b.presses c.presses i && leb_plus a.tenths b.tenths c.tenths i)

pub presses_few : (acts : List Act) → AllByRecursion Billable acts → (summed (pressed 0 0) both presses_of acts).presses ≤ 1000 * length acts
presses_few [] all = omega arith
presses_few (a ∷ more) all = let rest = presses_few more all.1 in let one = all.0.1 in omega arith

pub tenths_few : (acts : List Act) → AllByRecursion Billable acts → (summed (pressed 0 0) both presses_of acts).tenths ≤ 1000000 * length acts
tenths_few [] all = omega arith
tenths_few (a ∷ more) all = let rest = tenths_few more all.1 in let one = all.0.0 in omega arith

abbrev pub pressing : Charges Pressed
pressing = record {
  zero = pressed 0 0;
  plus = both;
  le = upto;
  charge = presses_of;
  le_trans = upto_trans;
  le_total = upto_total;
  le_antisym = upto_antisym;
  plus_assoc = λ a b c i. pressed (add_assoc a.presses b.presses c.presses i) (add_assoc a.tenths b.tenths c.tenths i);
  plus_comm = λ a b i. pressed (add_comm a.presses b.presses i) (add_comm a.tenths b.tenths i);
  zero_plus = λ a i. pressed (zero-add a.presses i) (zero-add a.tenths i);
  zero_le = λ a. each_upto (pressed 0 0) a (omega arith) (omega arith);
  le_plus = upto_both;
  greatest = pressed most_presses most_tenths;
  enough = λ c reached.
      let least_presses = presses_few reached.acts reached.billable in
      let least_tenths = tenths_few reached.acts reached.billable in
      let few = reached.few in
      let presses_is = ap (λ (p : Pressed). p.presses) reached.is in
      let tenths_is = ap (λ (p : Pressed). p.tenths) reached.is in
      each_upto c (pressed most_presses most_tenths) (omega arith) (omega arith);
}
