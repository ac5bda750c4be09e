-- What holds, and the first atom that does not.
use Rattle.std.proofs.Common.{◌≡◌, ℕ, zero, suc, ◌+◌, ◌<◌, Bool, true, false, not, ◌||◌, List, [], ◌∷◌, Option, length, get_or, drop, ltb, is_some, sym, refl, ap, ◌∙◌, arith}
use Rattle.std.proofs.lemmas.List.{at_drop_more, at_drop_all}
use Rattle.std.specs.List.{find, range_with_len}
use Rattle.task.specs.declared.data.Atom.{Atom}
use Rattle.task.specs.Settings.{holding, met, unmet, some_atom, outside}

-- all hold exactly where none is first not to
pub met_unmet : (s : List ℕ) (atoms : List Atom) → is_some (unmet s atoms) ≡ not (met s atoms)
met_unmet s [] = refl
met_unmet s (a ∷ more) = at (holding s a) refl (met_unmet s more)
  where
    at : (b : Bool) → holding s a ≡ b → is_some (unmet s more) ≡ not (met s more) → is_some (unmet s (a ∷ more)) ≡ not (met s (a ∷ more))
    at true e h = rw e h
    at false e h = rw e

pub not_same : (a b : Bool) → not a ≡ not b → a ≡ b
not_same true true e = refl
not_same true false e = absurd (let z : ◌≡◌ {A = ℕ} 0 1 = cc in omega arith)
not_same false true e = absurd (let z : ◌≡◌ {A = ℕ} 0 1 = cc in omega arith)
not_same false false e = refl

-- where none is found that does not hold, all hold
pub met_where_none : (s : List ℕ) (atoms listed : List Atom) (first : Option Atom) (none : Bool) → is_some first ≡ not none → first ≡ unmet s listed → listed ≡ atoms → none ≡ met s atoms
met_where_none s atoms listed first none e f l = not_same none _ (sym e ∙ ap is_some (f ∙ ap (unmet s) l) ∙ met_unmet s atoms)

-- the first that does not hold, as a chain finds it
pub find_unmet : (s : List ℕ) (atoms : List Atom) → find (λ a. not (holding s a)) atoms ≡ unmet s atoms
find_unmet s [] = refl
find_unmet s (a ∷ more) = at (holding s a) refl (find_unmet s more)
  where
    at : (b : Bool) → holding s a ≡ b → find (λ a. not (holding s a)) more ≡ unmet s more → find (λ a. not (holding s a)) (a ∷ more) ≡ unmet s (a ∷ more)
    at true e h = rw e h
    at false e h = rw e

-- the first value outside, as a chain over the variables finds it
pub find_outside : (sizes s : List ℕ) (n v : ℕ) → length s ≡ v + n → find (λ v. not (ltb (get_or s v 0) (get_or sizes v 1))) (range_with_len v n) ≡ outside sizes v (drop v s)
find_outside sizes s zero v long = sym (at_drop_all (outside sizes v) s v (omega arith))
find_outside sizes s (suc n) v long = at (ltb (get_or s v 0) (get_or sizes v 1)) refl (find_outside sizes s n (v + 1) (omega arith)) ∙ sym (at_drop_more (outside sizes v) s v 0 (omega arith))
  where
    at : (b : Bool) → ltb (get_or s v 0) (get_or sizes v 1) ≡ b → find (λ v. not (ltb (get_or s v 0) (get_or sizes v 1))) (range_with_len (v + 1) n) ≡ outside sizes (v + 1) (drop (v + 1) s) → find (λ v. not (ltb (get_or s v 0) (get_or sizes v 1))) (range_with_len v (suc n)) ≡ outside sizes v (get_or s v 0 ∷ drop (v + 1) s)
    at true e h = rw e h
    at false e h = rw e

-- a search through the atoms, one step on
module _ (test : Atom → Bool) (atoms : List Atom) (i : ℕ) (d : Atom) (r : Bool) (within : i < length atoms) (is : some_atom test (drop i atoms) ≡ r) where
  step : (test (get_or atoms i d) || some_atom test (drop (i + 1) atoms)) ≡ r
  step = sym (at_drop_more (some_atom test) atoms i d within) ∙ is

  pub some_found : true ≡ test (get_or atoms i d) → true ≡ r
  some_found e = ap (λ b. b || some_atom test (drop (i + 1) atoms)) e ∙ step

  pub some_more : false ≡ test (get_or atoms i d) → some_atom test (drop (i + 1) atoms) ≡ r
  some_more e = ap (λ b. b || some_atom test (drop (i + 1) atoms)) e ∙ step
