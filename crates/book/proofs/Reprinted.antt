-- An accepted book is the book of its bench.
use Rattle.std.proofs.Common.{◌≡◌, ℕ, zero, suc, ◌+◌, ◌≤◌, List, [], ◌∷◌, ◌++◌, length, drop, Some, Ok, sym, refl, ap, ◌∙◌, subst, arith, length-drop}
use Rattle.std.specs.List.{flat_map}
use Rattle.std.proofs.ByRecursion.{All-drop}
use Rattle.std.proofs.lemmas.List.{append_assoc, append-nil, flat_map_more, nil_from_length}
use Rattle.task.specs.declared.data.Atom.{Atom}
use Rattle.task.specs.Benches.{Act, Bench}
use Rattle.book.specs.declared.Stage.{Stage}
use Rattle.book.specs.declared.Stage.TheVariants as stage
use Rattle.book.specs.Records.{Parts, variable_part, action_part, goal_part}
use Rattle.book.specs.Format.{stage_after, grown, Reading, step_of, run, start, parse}
use Rattle.book.specs.Print.{kind_in, part_bytes, variable_bytes, action_bytes, goal_bytes, print}
use Rattle.book.proofs.Accepted.{ok_same, then_ok, admits, ended}
use Rattle.book.proofs.Bodies.{Bytes, record_is}
use Rattle.book.proofs.Laws.{same_kind, some_same, some_none}

-- the records before the goal
abbrev before_goal : Bench → List ℕ
before_goal b = flat_map variable_bytes b.sizes ++ flat_map action_bytes b.actions

-- the records so far
abbrev so_far : Stage → Bench → List ℕ
so_far stage.Variables b = before_goal b
so_far stage.Actions b = before_goal b
so_far stage.Goal b = before_goal b
so_far stage.Done b = print b

-- there is no action before the last variable
abbrev Plain : Stage → Bench → Type 0
Plain stage.Variables b = b.actions ≡ []
Plain stage.Actions b = b.actions ≡ []
Plain stage.Goal b = Unit {0}
Plain stage.Done b = Unit {0}

more_variables : (b : Bench) (n : ℕ) → b.actions ≡ [] → before_goal (grown b (variable_part n)) ≡ before_goal b ++ part_bytes (variable_part n)
more_variables b n e =
    let none : (xs : List ℕ) → xs ++ flat_map action_bytes b.actions ≡ xs = λ xs. ap (λ z. xs ++ flat_map action_bytes z) e ∙ append-nil xs in
    none (flat_map variable_bytes (b.sizes ++ n ∷ [])) ∙ sym (flat_map_more variable_bytes [] b.sizes n) ∙ ap (λ z. z ++ part_bytes (variable_part n)) (sym (none (flat_map variable_bytes b.sizes)))

more_actions : (b : Bench) (a : Act) → before_goal (grown b (action_part a)) ≡ before_goal b ++ part_bytes (action_part a)
more_actions b a = sym (flat_map_more action_bytes (flat_map variable_bytes b.sizes) b.actions a)

-- one more record
abbrev Grown : Bench → Parts → Stage → Stage → Type 0
Grown b p s t = (so_far t (grown b p) ≡ so_far s b ++ part_bytes p) × Plain t (grown b p)

goal_last : (b : Bench) (atoms : List Atom) → print (grown b (goal_part atoms)) ≡ before_goal b ++ part_bytes (goal_part atoms)
goal_last b atoms = sym (append_assoc (flat_map variable_bytes b.sizes) (flat_map action_bytes b.actions) (goal_bytes atoms))

one_more : (s t : Stage) (b : Bench) (p : Parts) → Plain s b → stage_after s (kind_in p) ≡ Some t → Grown b p s t
one_more stage.Variables t b (variable_part n) h e = subst (Grown b (variable_part n) stage.Variables) (some_same _ _ e) (more_variables b n h, h)
one_more stage.Actions t b (variable_part n) h e = subst (Grown b (variable_part n) stage.Actions) (some_same _ _ e) (more_variables b n h, h)
one_more stage.Actions t b (action_part a) h e = subst (Grown b (action_part a) stage.Actions) (some_same _ _ e) (more_actions b a, tt)
one_more stage.Goal t b (action_part a) h e = subst (Grown b (action_part a) stage.Goal) (some_same _ _ e) (more_actions b a, tt)
one_more stage.Actions t b (goal_part atoms) h e = subst (Grown b (goal_part atoms) stage.Actions) (some_same _ _ e) (goal_last b atoms, tt)
one_more stage.Goal t b (goal_part atoms) h e = subst (Grown b (goal_part atoms) stage.Goal) (some_same _ _ e) (goal_last b atoms, tt)
one_more stage.Variables t b (action_part a) h e = absurd (some_none _ e)
one_more stage.Variables t b (goal_part atoms) h e = absurd (some_none _ e)
one_more stage.Goal t b (variable_part n) h e = absurd (some_none _ e)
one_more stage.Done t b p h e = absurd (some_none _ e)

run_is : (fuel : ℕ) (σ τ : Reading) (bytes : List ℕ) (at : ℕ) → length bytes ≤ fuel → Bytes bytes → Plain σ.stage σ.bench → run fuel σ bytes at ≡ Ok τ → so_far τ.stage τ.bench ≡ so_far σ.stage σ.bench ++ bytes
unfolding run
run_is zero σ τ bytes at h s k e =
    ap (λ z. so_far z.stage z.bench) (sym (ok_same _ _ e)) ∙ sym (append-nil _) ∙ ap (λ z. so_far σ.stage σ.bench ++ z) (sym (nil_from_length bytes (omega arith)))
run_is (suc n) σ τ [] at h s k e = ap (λ z. so_far z.stage z.bench) (sym (ok_same _ _ e)) ∙ sym (append-nil _)
run_is (suc n) σ τ (x ∷ xs) at h s k e =
    let bytes : List ℕ = x ∷ xs in
    let q = then_ok (step_of σ bytes at) (λ p. run n p.0 (drop p.1 bytes) (at + p.1)) τ e in
    let a = admits σ bytes at q.0 q.1 in
    let p : Parts = a.parts in
    let size : q.0.1 ≡ 4 + a.head.size = ap (λ z. z.1) a.leads in
    let whole : bytes ≡ part_bytes p ++ drop q.0.1 bytes = record_is bytes at a.head p s a.is_head a.is_parts ∙ ap (λ m. part_bytes p ++ drop m bytes) (sym size) in
    let g = one_more σ.stage a.stage σ.bench p k (ap (stage_after σ.stage) (sym (same_kind a.head.kind _ at p a.is_parts)) ∙ a.is_stage) in
    let to = sym a.leads in
    let next : so_far q.0.0.stage q.0.0.bench ≡ so_far σ.stage σ.bench ++ part_bytes p = ap (λ z. so_far z.0.stage z.0.bench) a.leads ∙ g.0 in
    let plain : Plain q.0.0.stage q.0.0.bench = subst (λ z. Plain z.0.stage z.0.bench) to g.1 in
    run_is n q.0.0 τ (drop q.0.1 bytes) (at + q.0.1) (omega (arith, h, length-drop q.0.1 bytes, size)) (All-drop _ q.0.1 bytes s) plain q.2
    ∙ ap (λ z. z ++ drop q.0.1 bytes) next
    ∙ append_assoc (so_far σ.stage σ.bench) (part_bytes p) (drop q.0.1 bytes)
    ∙ ap (λ z. so_far σ.stage σ.bench ++ z) (sym whole)

pub one_book : (book : List ℕ) (b : Bench) → Bytes book → parse book ≡ Ok b → print b ≡ book
one_book book b s e =
    let z = ended book b e in
    ap print (sym z.bench)
    ∙ sym (ap (λ t. so_far t z.last.bench) z.done)
    ∙ run_is (length book) start z.last book 0 (omega arith) s refl z.is
