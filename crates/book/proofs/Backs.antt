-- A record that is written is read.
use Rattle.std.proofs.Common.{◌≡◌, ℕ, ◌+◌, ◌*◌, ◌/◌, ◌%◌, ◌<◌, ◌≤◌, List, [], ◌∷◌, ◌++◌, length, take, Some, None, Ok, sym, refl, ap, ◌∙◌, arith, length-append}
use Rattle.std.specs.List.{between}
use Rattle.std.proofs.lemmas.List.{drop-drop, drop_at, take_at}
use Rattle.std.proofs.lemmas.Slice.{between_to_end}
use Rattle.std.proofs.lemmas.Bool.{cond-true, and_from, le-leb, eq-eqb}
use Rattle.task.specs.declared.data.Atom.{Atom}
use Rattle.task.specs.declared.refusal.Fault.TheVariants.{WrongLength, OutOfPlace}
use Rattle.task.specs.Benches.{Act}
use Rattle.task.specs.Refusals.{refuse}
use Rattle.book.specs.declared.records.Kind.{Kind}
use Rattle.book.specs.declared.records.Kind.TheVariants as kind
use Rattle.book.specs.declared.Stage.{Stage}
use Rattle.book.specs.Atoms.{atoms_in}
use Rattle.book.specs.Records.{Parts, variable_part, action_part, goal_part, word, kind_of, headed, head_of, act_in, parts_of}
use Rattle.book.specs.Format.{stage_after, fault_in, grown, unless, or_refuse, and_then, Reading, reading, after_record, step_of}
use Rattle.book.specs.Print.{atoms_bytes, code_of, record_bytes, kind_in, body_bytes, part_bytes}
use Rattle.book.proofs.Faults.{fine_act, few_atoms}
use Rattle.book.proofs.Puts.{atoms_size, body_size}
use Rattle.book.proofs.Steps.{at_parts}

kind_back : (k : Kind) → kind_of (code_of k % 256 + 256 * (code_of k / 256 % 256)) ≡ Some k
kind_back kind.Variable = refl
kind_back kind.Action = refl
kind_back kind.Goal = refl

head_back : (k : Kind) (body rest : List ℕ) (at : ℕ) → length body < 65536 → head_of (record_bytes k body ++ rest) at ≡ Ok (record { kind = k; size = length body })
head_back k body rest at h =
    let bytes : List ℕ = record_bytes k body ++ rest in
    let size : word bytes 0 ≡ length body = omega arith in
    cond-true _ _ _ (and_from _ _ (le-leb 4 (length bytes) (omega arith)) (le-leb (4 + word bytes 0) (length bytes) (omega (arith, size, length-append body rest))))
    ∙ (λ i. headed (kind_back k i) (size i) at)

body_back : (k : Kind) (body rest : List ℕ) → between 4 (4 + length body) (record_bytes k body ++ rest) ≡ body
body_back k body rest = ap (λ n. take n (body ++ rest)) (omega arith) ∙ take_at body rest (length body) refl

atoms_back : (atoms : List Atom) → atoms_in (atoms_bytes atoms) ≡ atoms
atoms_back [] = refl
atoms_back (a ∷ more) = ap (λ z. a ∷ z) (atoms_back more)

-- the numbers of a record fit their bytes
abbrev Small : Parts → Type 0
Small (variable_part n) = Unit {0}
Small (action_part a) = (a.tenths < 4294967296) × (a.presses < 65536)
Small (goal_part atoms) = Unit {0}

low_high : (x : ℕ) → x % 256 + 256 * (x / 256) ≡ x
low_high x = omega arith

long_back : (t : ℕ) → t < 4294967296 → t % 256 + 256 * (t / 256 % 256) + 65536 * (t / 65536 % 256 + 256 * (t / 16777216 % 256)) ≡ t
long_back t h =
    let b : t / 65536 ≡ t / 256 / 256 = omega arith in
    let c : t / 16777216 ≡ t / 256 / 256 / 256 = omega arith in
    let few : t / 256 / 256 / 256 % 256 ≡ t / 256 / 256 / 256 = omega arith in
    (λ i. t % 256 + 256 * (t / 256 % 256) + 65536 * (b i % 256 + 256 * (c i % 256)))
    ∙ omega (arith, low_high t, low_high (t / 256), low_high (t / 256 / 256), few)

word_back : (p : ℕ) → p < 65536 → p % 256 + 256 * (p / 256 % 256) ≡ p
word_back p h = omega arith

action_back : (a : Act) (at : ℕ) → Small (action_part a) → parts_of kind.Action (body_bytes (action_part a)) at ≡ Ok (action_part a)
action_back a at h =
    let body : List ℕ = body_bytes (action_part a) in
    let cs : List ℕ = atoms_bytes a.conditions in
    let es : List ℕ = atoms_bytes a.effects in
    let k : ℕ = length a.conditions in
    let front : between 8 (8 + 2 * k) body ≡ cs = ap (λ n. take n (cs ++ es)) (omega arith) ∙ take_at cs es (2 * k) (atoms_size a.conditions) in
    let back : between (8 + 2 * k) (length body) body ≡ es = between_to_end body (8 + 2 * k) (length body) (omega arith) ∙ sym (drop-drop (2 * k) 8 body) ∙ drop_at cs es (2 * k) (atoms_size a.conditions) in
    cond-true _ (Ok (action_part (act_in (word body 0 + 65536 * word body 2) (word body 4) (between 8 (8 + 2 * k) body) (between (8 + 2 * k) (length body) body)))) (refuse WrongLength at) (and_from _ _ (le-leb 8 (length body) (omega (arith, body_size a))) (eq-eqb (length body) (8 + 2 * (k + length a.effects)) (body_size a)))
    ∙ (λ i. Ok (action_part (act_in (long_back a.tenths h.0 i) (word_back a.presses h.1 i) (front i) (back i))))
    ∙ (λ i. Ok (action_part (record { tenths = a.tenths; presses = a.presses; conditions = atoms_back a.conditions i; effects = atoms_back a.effects i })))

goal_back : (atoms : List Atom) (at : ℕ) → parts_of kind.Goal (body_bytes (goal_part atoms)) at ≡ Ok (goal_part atoms)
goal_back atoms at =
    let body : List ℕ = body_bytes (goal_part atoms) in
    cond-true _ (Ok (goal_part (atoms_in (between 1 (length body) body)))) (refuse WrongLength at) (and_from _ _ (le-leb 1 (length body) (omega arith)) (eq-eqb (length body) (1 + 2 * length atoms) (omega (arith, atoms_size atoms))))
    ∙ ap (λ l. Ok (goal_part (atoms_in l))) (between_to_end body 1 (length body) (omega arith))
    ∙ ap (λ l. Ok (goal_part l)) (atoms_back atoms)

parts_back : (p : Parts) (at : ℕ) → Small p → parts_of (kind_in p) (body_bytes p) at ≡ Ok p
parts_back (variable_part n) at h = refl
parts_back (action_part a) at h = action_back a at h
parts_back (goal_part atoms) at h = goal_back atoms at

-- a record without a fault is small
small : (sizes : List ℕ) (count : ℕ) (p : Parts) → length sizes ≤ 64 → fault_in sizes count p ≡ None → Small p × (length (body_bytes p) < 65536)
small sizes count (variable_part n) h e = (tt, omega arith)
small sizes count (action_part a) h e =
    let f = fine_act sizes count a e in
    ((omega (arith, f.limited.tenths), omega (arith, f.limited.presses)), omega (arith, body_size a, f.limited.few_conditions, f.limited.few_effects))
small sizes count (goal_part atoms) h e = (tt, omega (arith, atoms_size atoms, few_atoms sizes 0 atoms e))

pub step_back : (σ : Reading) (p : Parts) (rest : List ℕ) (at : ℕ) (s : Stage) → length σ.bench.sizes ≤ 64 → stage_after σ.stage (kind_in p) ≡ Some s → fault_in σ.bench.sizes (length σ.bench.actions) p ≡ None → Ok (reading s (grown σ.bench p), length (part_bytes p)) ≡ step_of σ (part_bytes p ++ rest) at
step_back σ p rest at s few stands fine =
    let m = small σ.bench.sizes (length σ.bench.actions) p few fine in
    let bytes : List ℕ = part_bytes p ++ rest in
    let body : List ℕ = body_bytes p in
    let τ : Reading = reading s (grown σ.bench p) in
    let size : length (part_bytes p) ≡ 4 + length body = omega arith in
    let read : Ok τ ≡ after_record σ (kind_in p) (between 4 (4 + length body) bytes) at =
    ap (λ o. and_then (unless o at (grown σ.bench p)) (λ b. Ok (reading s b))) (sym fine)
    ∙ at_parts σ (kind_in p) (between 4 (4 + length body) bytes) at s (Ok p)
    (ap (λ o. or_refuse o OutOfPlace at) (sym stands))
    (sym (ap (λ l. parts_of (kind_in p) l at) (body_back (kind_in p) body rest) ∙ parts_back p at m.0)) in
    ap (λ n. Ok (τ, n)) size
    ∙ ap (λ z. and_then z (λ υ. Ok (υ, 4 + length body))) read
    ∙ ap (λ z. and_then z (λ h. and_then (after_record σ h.kind (between 4 (4 + h.size) bytes) at) (λ υ. Ok (υ, 4 + h.size)))) (sym (head_back (kind_in p) body rest at m.1))
