-- One record of a book: each way in which it ends.
use Rattle.std.proofs.Common.{◌≡◌, ℕ, List, length, take, Ok, Err, Result, refl, ap, ◌∙◌, subst}
use Rattle.task.specs.declared.data.Task.{Task}
use Rattle.task.specs.declared.refusal.Fault.TheVariants.{OutOfPlace}
use Rattle.task.specs.declared.refusal.Refusal.{Refusal}
use Rattle.task.specs.Benches.{Bench}
use Rattle.book.specs.declared.records.Kind.{Kind}
use Rattle.book.specs.declared.Stage.{Stage}
use Rattle.book.specs.Records.{Parts, parts_of}
use Rattle.book.specs.Format.{stage_after, fault_in, grown, or_fault, unless, or_refuse, and_then, admitted, Reading, reading, after_record}
use Rattle.book.specs.Reader.{Agree, Outline}
use Rattle.book.proofs.Faults.{placed, none_placed, fault_placed}
use Rattle.book.proofs.Outlines.{sizes_listed}

same_fault : (t : Task) (b : Bench) → Outline t b → (p : Parts) → fault_in (take t.variables t.sizes) t.actions p ≡ fault_in b.sizes (length b.actions) p
same_fault t b o p = λ i. fault_in (sizes_listed t b o i) (o.actions i) p

pub refused : (t : Task) (b : Bench) → Outline t b → (p : Parts) (at : ℕ) (e : Refusal) → Err e ≡ placed (or_fault (fault_in (take t.variables t.sizes) t.actions p)) at → Agree Outline (Err e) (admitted b p at)
refused t b o p at e h =
    subst (Agree Outline (Err e)) (fault_placed (fault_in b.sizes (length b.actions) p) at (grown b p) e (h ∙ ap (λ x. placed (or_fault x) at) (same_fault t b o p))) refl

pub accepted : (t : Task) (b : Bench) → Outline t b → (p : Parts) (at : ℕ) {t' : Task} → Ok tt ≡ placed (or_fault (fault_in (take t.variables t.sizes) t.actions p)) at → Outline t' (grown b p) → Agree Outline (Ok t') (admitted b p at)
accepted t b o p at {t'} e h =
    subst (λ x. Agree Outline (Ok t') (unless x at (grown b p))) (none_placed _ at e ∙ same_fault t b o p) h

-- what is left of a record after its stage and its parts
abbrev pub after_stage : Reading → Kind → List ℕ → ℕ → Stage → Result Reading Refusal
after_stage σ k body at s =
    and_then (parts_of k body at) (λ p.
    and_then (admitted σ.bench p at) (λ b. Ok (reading s b)))

abbrev pub after_parts : Reading → ℕ → Stage → Parts → Result Reading Refusal
after_parts σ at s p = and_then (admitted σ.bench p at) (λ b. Ok (reading s b))

pub at_parts : (σ : Reading) (k : Kind) (body : List ℕ) (at : ℕ) (s : Stage) (x : Result Parts Refusal) → Ok s ≡ or_refuse (stage_after σ.stage k) OutOfPlace at → x ≡ parts_of k body at → and_then x (after_parts σ at s) ≡ after_record σ k body at
at_parts σ k body at s x f g = ap (λ z. and_then z (after_parts σ at s)) g ∙ ap (λ z. and_then z (after_stage σ k body at)) f
