-- A task grows with its bench.
use Rattle.std.proofs.Common.{◌≡◌, ℕ, suc, ◌+◌, ◌-◌, ◌<◌, ◌≤◌, List, [], ◌∷◌, ◌++◌, length, take, set, replicate, None, sym, refl, ap, ◌∙◌, subst, arith, length-take}
use Rattle.std.proofs.lemmas.List.{append_assoc, length_push, length-take-le, set_at, take_at}
use Rattle.task.specs.declared.data.Atom.{Atom}
use Rattle.task.specs.declared.data.Task.{Task}
use Rattle.task.specs.Settings.{listed}
use Rattle.task.specs.Benches.{Act, Bench}
use Rattle.book.specs.Records.{Parts, variable_part, action_part, goal_part}
use Rattle.book.specs.Format.{fault_in, grown}
use Rattle.book.specs.Reader.{Outline}
use Rattle.book.proofs.Faults.{fine_variable, few_atoms}

padded_more : (xs : List ℕ) (n : ℕ) → length xs < 64 → set (xs ++ replicate (64 - length xs) 0) (length xs) n ≡ (xs ++ n ∷ []) ++ replicate (64 - length (xs ++ n ∷ [])) 0
padded_more xs n h =
    let k : 64 - length xs ≡ suc (64 - length (xs ++ n ∷ [])) = omega (arith, length_push xs n) in
    ap (λ z. set (xs ++ replicate z 0) (length xs) n) k
    ∙ set_at xs 0 (replicate (64 - length (xs ++ n ∷ [])) 0) n (length xs) refl
    ∙ sym (append_assoc xs (n ∷ []) (replicate (64 - length (xs ++ n ∷ [])) 0))

pub sizes_listed : (t : Task) (b : Bench) → Outline t b → take t.variables t.sizes ≡ b.sizes
sizes_listed t b o = ap (λ z. take t.variables z) o.sizes ∙ take_at b.sizes (replicate (64 - length b.sizes) 0) t.variables (sym o.variables)

pub with_variable : (t : Task) (b : Bench) → Outline t b → {t' : Task} {n : ℕ} (p : Parts) → p ≡ variable_part n → t.variables < 64 → t'.variables ≡ t.variables + 1 → t'.sizes ≡ set t.sizes t.variables n → t'.actions ≡ t.actions → t'.goal ≡ t.goal → Outline t' (grown b p)
with_variable t b o {t'} {n} p e room v s a g =
    subst (λ q. Outline t' (grown b q)) (sym e) (record {
      variables = v ∙ ap (λ z. z + 1) o.variables ∙ sym (length_push b.sizes n);
      sizes = s ∙ (λ i. set (o.sizes i) (o.variables i) n) ∙ padded_more b.sizes n (omega (arith, o.variables));
      actions = a ∙ o.actions;
      goal = ap listed g ∙ o.goal;
    })

pub with_action : (t : Task) (b : Bench) → Outline t b → {t' : Task} {x : Act} (p : Parts) → p ≡ action_part x → t'.variables ≡ t.variables → t'.sizes ≡ t.sizes → t'.actions ≡ t.actions + 1 → t'.goal ≡ t.goal → Outline t' (grown b p)
with_action t b o {t'} {x} p e v s a g =
    subst (λ q. Outline t' (grown b q)) (sym e) (record {
      variables = v ∙ o.variables;
      sizes = s ∙ o.sizes;
      actions = a ∙ ap (λ z. z + 1) o.actions ∙ sym (length_push b.actions x);
      goal = ap listed g ∙ o.goal;
    })

pub with_goal : (t : Task) (b : Bench) → Outline t b → {t' : Task} {atoms : List Atom} (p : Parts) → p ≡ goal_part atoms → t'.variables ≡ t.variables → t'.sizes ≡ t.sizes → t'.actions ≡ t.actions → listed t'.goal ≡ atoms → Outline t' (grown b p)
with_goal t b o {t'} p e v s a g =
    subst (λ q. Outline t' (grown b q)) (sym e) (record { variables = v ∙ o.variables; sizes = s ∙ o.sizes; actions = a ∙ o.actions; goal = g })

-- a variable without a fault has a place, and a goal without one has room
pub variable_room : (t : Task) (p : Parts) (n : ℕ) → t.variables ≤ 64 → length t.sizes ≡ 64 → fault_in (take t.variables t.sizes) t.actions p ≡ None → p ≡ variable_part n → t.variables < 64
variable_room t p n h k e q =
    let f = fine_variable (length (take t.variables t.sizes)) n (ap (fault_in (take t.variables t.sizes) t.actions) (sym q) ∙ e) in
    omega (arith, f.room, length-take-le t.variables t.sizes (omega arith))

pub goal_room : (t : Task) (p : Parts) (atoms : List Atom) → t.variables ≤ 64 → fault_in (take t.variables t.sizes) t.actions p ≡ None → p ≡ goal_part atoms → length atoms ≤ 64
goal_room t p atoms h e q =
    let f = few_atoms (take t.variables t.sizes) 0 atoms (ap (fault_in (take t.variables t.sizes) t.actions) (sym q) ∙ e) in
    omega (arith, f, length-take t.variables t.sizes)
