-- What a book reads to.
use Rattle.std.proofs.Common.{◌≡◌, ℕ, ◌<◌, ◌≤◌, List, map, length, take, drop, Ok, Err, Result, sym, refl, ap, ◌∙◌, subst, arith}
use Rattle.std.proofs.lemmas.Bool.{cond-true, cond-false, le-leb, lt-leb}
use Rattle.task.specs.declared.data.Action.{Action}
use Rattle.task.specs.declared.data.Task.{Task}
use Rattle.task.specs.declared.refusal.Fault.TheVariants.{ShortTable}
use Rattle.task.specs.declared.refusal.Refusal.{Refusal}
use Rattle.task.specs.Benches.{Bench, act_of, bench_of}
use Rattle.task.specs.Refusals.{refuse}
use Rattle.book.specs.Format.{and_then, fitted, parse, parse_into}
use Rattle.book.specs.Reader.{Agree, Outline, Filled, Fits, Holds}
use Rattle.book.proofs.Outlines.{sizes_listed}

-- the bench of a surveyed book
pub surveyed : (task : Task) (book : List ℕ) → Agree Outline (Ok task) (parse book) → (b : Bench) × (parse book ≡ Ok b) × Outline task b
surveyed task book g = go (parse book) refl g
  where
    go : (x : Result Bench Refusal) → parse book ≡ x → Agree Outline (Ok task) x → (b : Bench) × (parse book ≡ Ok b) × Outline task b
    go (Ok b) e k = (b, e, k)
    go (Err f) e k = absurd k

into : (places : ℕ) (book : List ℕ) (x : Result Bench Refusal) → parse book ≡ x → parse_into places book ≡ and_then x (fitted places)
unfolding parse_into
into places book x e = ap (λ z. and_then z (fitted places)) e

pub not_read : (table : List Action) (places : ℕ) (book : List ℕ) (e : Refusal) → Agree Outline (Err e) (parse book) → Agree (Holds table) (Err e) (parse_into places book)
not_read table places book e g = go (parse book) refl g
  where
    go : (x : Result Bench Refusal) → parse book ≡ x → Agree Outline (Err e) x → Agree (Holds table) (Err e) (parse_into places book)
    go (Ok b) h k = absurd k
    go (Err f) h k = subst (Agree (Holds table) (Err e)) (sym (into places book (Err f) h)) k

pub too_short : (table : List Action) (places : ℕ) (book : List ℕ) (task : Task) → Agree Outline (Ok task) (parse book) → places < task.actions → Agree (Holds table) (refuse ShortTable 1) (parse_into places book)
too_short table places book task g short =
    let s = surveyed task book g in
    subst (Agree (Holds table) (refuse ShortTable 1)) (sym (into places book (Ok s.0) s.1 ∙ cond-false _ _ _ (lt-leb (length s.0.actions) places (omega (arith, s.2.actions))))) refl

bench_held : (task : Task) (before after : List Action) (b : Bench) → Outline task b → Filled before after b.actions → bench_of task after ≡ b
bench_held task before after b o f =
    λ i. record {
      sizes = sizes_listed task b o i;
      actions = (ap (λ n. map act_of (take n after)) o.actions ∙ f.first) i;
      goal = o.goal i;
    }

pub fits : (book : List ℕ) (places : ℕ) (task : Task) → Agree Outline (Ok task) (parse book) → task.actions ≤ places → Fits book places
fits book places task g room =
    let s = surveyed task book g in
    record { bench = s.0; accepted = s.1; room = omega (arith, s.2.actions) }

pub held : (book : List ℕ) (before after : List Action) (task : Task) → Agree Outline (Ok task) (parse book) → ((b : Bench) → parse book ≡ Ok b → Filled before after b.actions) → (b : Bench) × (parse book ≡ Ok b) × Holds after task b
held book before after task g f =
    let s = surveyed task book g in
    (s.0, s.1, record { outline = s.2; bench = bench_held task before after s.0 s.2 (f s.0 s.1) })

pub is_read : (book : List ℕ) (before after : List Action) (task : Task) → Agree Outline (Ok task) (parse book) → task.actions ≤ length before → ((b : Bench) → parse book ≡ Ok b → Filled before after b.actions) → Agree (Holds after) (Ok task) (parse_into (length before) book)
is_read book before after task g room f =
    let h = held book before after task g f in
    subst (Agree (Holds after) (Ok task)) (sym (into (length before) book (Ok h.0) h.1 ∙ cond-true _ _ _ (le-leb (length h.0.actions) (length before) (omega (arith, h.2.outline.actions))))) h.2

pub rest_kept : (book : List ℕ) (before after : List Action) (task : Task) → Agree Outline (Ok task) (parse book) → ((b : Bench) → parse book ≡ Ok b → Filled before after b.actions) → drop task.actions after ≡ drop task.actions before
rest_kept book before after task g f =
    let s = surveyed task book g in
    subst (λ n. drop n after ≡ drop n before) (sym s.2.actions) (f s.0 s.1).rest
