-- The book of a lawful bench reads back to it.
use Rattle.std.proofs.Common.{◌≡◌, ℕ, ◌+◌, ◌≤◌, List, [], ◌∷◌, ◌++◌, length, take, drop, Some, None, Ok, sym, refl, ap, ◌∙◌, subst, arith, length-append}
use Rattle.std.specs.List.{flat_map, AllByRecursion}
use Rattle.std.proofs.lemmas.List.{append_assoc, append-nil, take_at, drop_at, length_push}
use Rattle.task.specs.declared.data.Atom.{Atom}
use Rattle.task.specs.Benches.{Act, Bench, LawfulAct, Lawful}
use Rattle.book.specs.declared.records.Kind.TheVariants as kind
use Rattle.book.specs.declared.Stage.{Stage}
use Rattle.book.specs.declared.Stage.TheVariants as stage
use Rattle.book.specs.Records.{Parts, variable_part, action_part, goal_part}
use Rattle.book.specs.Format.{stage_after, fault_in, grown, Reading, reading, start, parse}
use Rattle.book.specs.Print.{kind_in, part_bytes, variable_bytes, action_bytes, goal_bytes, print}
use Rattle.book.proofs.Backs.{step_back}
use Rattle.book.proofs.Lawfuls.{no_variable_fault, no_act_fault, no_atoms_fault}
use Rattle.book.proofs.Runs.{Walk, begins, goes, ends}

-- the records before these bytes gave the reading
abbrev Reached : List ℕ → List ℕ → Reading → Type 0
Reached book bytes σ = (at : ℕ) × Walk book bytes at σ

abbrev bench : List ℕ → List Act → List Atom → Bench
bench sizes actions goal = record { sizes = sizes; actions = actions; goal = goal }

over_record : (book rest : List ℕ) (σ : Reading) (p : Parts) (s : Stage) → length σ.bench.sizes ≤ 64 → stage_after σ.stage (kind_in p) ≡ Some s → fault_in σ.bench.sizes (length σ.bench.actions) p ≡ None → Reached book (part_bytes p ++ rest) σ → Reached book rest (reading s (grown σ.bench p))
over_record book rest σ p s few stands fine w =
    let bytes : List ℕ = part_bytes p ++ rest in
    let long = length-append (part_bytes p) rest in
    let g = goes book bytes w.0 σ (reading s (grown σ.bench p)) (length (part_bytes p)) w.1 (omega arith) (step_back σ p rest w.0 s few stands fine) (omega arith) (omega (arith, long)) in
    (w.0 + length (part_bytes p), subst (λ l. Walk book l (w.0 + length (part_bytes p)) (reading s (grown σ.bench p))) (drop_at (part_bytes p) rest (length (part_bytes p)) refl) g)

next_record : (X : Type 0) (book rest : List ℕ) (f : X → List ℕ) (x : X) (xs : List X) (σ : Reading) → Reached book (flat_map f (x ∷ xs) ++ rest) σ → Reached book (f x ++ (flat_map f xs ++ rest)) σ
next_record X book rest f x xs σ w = subst (λ l. Reached book l σ) (append_assoc (f x) (flat_map f xs) rest) w

over_variables : (book rest : List ℕ) (done left : List ℕ) → length done + length left ≤ 64 → AllByRecursion (λ n. (1 ≤ n) × (n ≤ 32)) left → Reached book (flat_map variable_bytes left ++ rest) (reading stage.Actions (bench done [] [])) → Reached book rest (reading stage.Actions (bench (done ++ left) [] []))
over_variables book rest done [] few fine w = subst (λ l. Reached book rest (reading stage.Actions (bench l [] []))) (sym (append-nil done)) w
over_variables book rest done (n ∷ left) few fine w =
    let one = over_record book (flat_map variable_bytes left ++ rest) (reading stage.Actions (bench done [] [])) (variable_part n) stage.Actions (omega arith) refl (no_variable_fault (length done) n (omega arith) fine.0.0 fine.0.1) (next_record ℕ book rest variable_bytes n left (reading stage.Actions (bench done [] [])) w) in
    subst (λ l. Reached book rest (reading stage.Actions (bench l [] []))) (append_assoc done (n ∷ []) left)
    (over_variables book rest (done ++ n ∷ []) left (omega (arith, length_push done n)) fine.1 one)

-- an action or the goal may stand
abbrev Open : Stage → Type 0
Open s = (stage_after s kind.Action ≡ Some stage.Goal) × (stage_after s kind.Goal ≡ Some stage.Done)

over_actions : (book rest sizes : List ℕ) (s : Stage) (done left : List Act) → Open s → length sizes ≤ 64 → length done + length left ≤ 1024 → AllByRecursion (LawfulAct sizes) left → Reached book (flat_map action_bytes left ++ rest) (reading s (bench sizes done [])) → (t : Stage) × Open t × Reached book rest (reading t (bench sizes (done ++ left) []))
over_actions book rest sizes s done [] o few room fine w = (s, o, subst (λ l. Reached book rest (reading s (bench sizes l []))) (sym (append-nil done)) w)
over_actions book rest sizes s done (a ∷ left) o few room fine w =
    let one = over_record book (flat_map action_bytes left ++ rest) (reading s (bench sizes done [])) (action_part a) stage.Goal few o.0 (no_act_fault sizes (length done) a (omega arith) fine.0) (next_record Act book rest action_bytes a left (reading s (bench sizes done [])) w) in
    subst (λ l. (t : Stage) × Open t × Reached book rest (reading t (bench sizes l []))) (append_assoc done (a ∷ []) left)
    (over_actions book rest sizes stage.Goal (done ++ a ∷ []) left (refl, refl) few (omega (arith, length_push done a)) fine.1 one)

pub reads_back : (b : Bench) → Lawful b → parse (print b) ≡ Ok b
reads_back b l = go b.sizes refl l.some_variable
  where
    go : (sizes : List ℕ) → b.sizes ≡ sizes → 1 ≤ length sizes → parse (print b) ≡ Ok b
    go [] e h = absurd (omega arith)
    go (n ∷ more) e h =
        let book : List ℕ = print b in
        let actions : List ℕ = flat_map action_bytes b.actions ++ goal_bytes b.goal in
        let fine : AllByRecursion (λ n. (1 ≤ n) × (n ≤ 32)) (n ∷ more) = subst (AllByRecursion (λ n. (1 ≤ n) × (n ≤ 32))) e l.sizes in
        let few : length (n ∷ more) ≤ 64 = subst (λ z. length z ≤ 64) e l.few_variables in
        let w0 : Reached book (flat_map variable_bytes (n ∷ more) ++ actions) start = (0, subst (λ z. Walk book (flat_map variable_bytes z ++ actions) 0 start) e (begins book book 0 start refl refl refl)) in
        let w1 = over_record book (flat_map variable_bytes more ++ actions) start (variable_part n) stage.Actions (omega arith) refl (no_variable_fault 0 n (omega arith) fine.0.0 fine.0.1) (next_record ℕ book actions variable_bytes n more start w0) in
        let w2 = over_variables book actions (n ∷ []) more (omega arith) fine.1 w1 in
        let w3 = over_actions book (goal_bytes b.goal) b.sizes stage.Actions [] b.actions (refl, refl) l.few_variables (omega (arith, l.few_actions)) l.acts (subst (λ z. Reached book actions (reading stage.Actions (bench z [] []))) (sym e) w2) in
        let w4 : Reached book (part_bytes (goal_part b.goal) ++ []) (reading w3.0 (bench b.sizes b.actions [])) = subst (λ z. Reached book z (reading w3.0 (bench b.sizes b.actions []))) (sym (append-nil (goal_bytes b.goal))) w3.2 in
        let w5 = over_record book [] (reading w3.0 (bench b.sizes b.actions [])) (goal_part b.goal) stage.Done l.few_variables w3.1.1 (no_atoms_fault b.sizes b.goal l.goal_inside l.goal_rises) w4 in
        sym (ends book [] w5.0 (reading stage.Done b) w5.1 refl)

-- so does what an output holds that begins with it
pub is_read_back : (b : Bench) (before after : List ℕ) (n : ℕ) → Lawful b → n ≡ length (print b) → after ≡ print b ++ drop n before → parse (take n after) ≡ Ok b
is_read_back b before after n l size is = ap parse (ap (take n) is ∙ take_at (print b) (drop n before) n (sym size)) ∙ reads_back b l
