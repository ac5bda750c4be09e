-- A lawful bench has no fault.
use Rattle.std.proofs.Common.{◌≡◌, ℕ, ◌+◌, ◌<◌, ◌≤◌, false, List, [], ◌∷◌, length, get_or, None, refl, ◌∙◌, arith}
use Rattle.std.specs.List.{AllByRecursion}
use Rattle.std.proofs.ByRecursion.{All-weaker}
use Rattle.std.proofs.lemmas.Bool.{cond-true, cond-false, and_from, or_from, lt-ltb, le-ltb, le-leb, lt-leb}
use Rattle.task.specs.declared.data.Atom.{Atom}
use Rattle.task.specs.Settings.{some_atom}
use Rattle.task.specs.Benches.{Act, Rising, Inside, LawfulAct, alike}
use Rattle.book.specs.Records.{action_part}
use Rattle.book.specs.Format.{atoms_fault, repeating, variable_fault, fault_in}
use Rattle.book.proofs.Faults.{fine_action}

pub no_variable_fault : (count n : ℕ) → count < 64 → 1 ≤ n → n ≤ 32 → variable_fault count n ≡ None
no_variable_fault count n h k l = cond-true _ _ _ (lt-ltb count 64 h) ∙ cond-true _ _ _ (and_from _ _ (le-leb 1 n k) (le-leb n 32 l))

no_fault_from : (sizes : List ℕ) (floor : ℕ) (atoms : List Atom) → AllByRecursion (Inside sizes) atoms → Rising atoms → AllByRecursion (λ a. floor ≤ a.variable) atoms → atoms_fault sizes floor atoms ≡ None
no_fault_from sizes floor [] i r f = refl
no_fault_from sizes floor (a ∷ more) i r f =
    cond-true _ _ _ (and_from _ _ (lt-ltb a.variable (length sizes) i.0.0) (lt-ltb a.value (get_or sizes a.variable 0) i.0.1))
    ∙ cond-true _ _ _ (le-leb floor a.variable f.0)
    ∙ no_fault_from sizes (a.variable + 1) more i.1 r.1 (All-weaker _ _ (λ b h. omega arith) more r.0)

all_from_zero : (atoms : List Atom) → AllByRecursion (λ a. 0 ≤ a.variable) atoms
all_from_zero [] = tt
all_from_zero (a ∷ more) = (omega arith, all_from_zero more)

pub no_atoms_fault : (sizes : List ℕ) (atoms : List Atom) → AllByRecursion (Inside sizes) atoms → Rising atoms → atoms_fault sizes 0 atoms ≡ None
no_atoms_fault sizes atoms i r = no_fault_from sizes 0 atoms i r (all_from_zero atoms)

not_repeating : (conditions effects : List Atom) → AllByRecursion (λ e. some_atom (alike e) conditions ≡ false) effects → repeating conditions effects ≡ false
not_repeating conditions [] h = refl
not_repeating conditions (e ∷ more) h = or_from _ _ h.0 (not_repeating conditions more h.1)

pub no_act_fault : (sizes : List ℕ) (count : ℕ) (a : Act) → count < 1024 → LawfulAct sizes a → fault_in sizes count (action_part a) ≡ None
no_act_fault sizes count a h l =
    cond-false _ _ _ (or_from _ _ (lt-leb 1024 count h) (or_from _ _ (le-ltb 16 (length a.conditions) l.few_conditions) (le-ltb 16 (length a.effects) l.few_effects)))
    ∙ fine_action sizes a l.tenths l.presses (λ e. omega (arith, e, l.some_effect)) (no_atoms_fault sizes a.conditions l.conditions_inside l.conditions_rise) (no_atoms_fault sizes a.effects l.effects_inside l.effects_rise) (not_repeating a.conditions a.effects l.apart)
