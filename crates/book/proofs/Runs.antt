-- A book, record by record.
use Rattle.std.proofs.Common.{◌≡◌, ℕ, zero, suc, ◌+◌, ◌-◌, ◌<◌, ◌≤◌, List, [], ◌∷◌, length, drop, Some, Ok, Err, Result, sym, refl, ap, ◌∙◌, subst, arith, length-drop}
use Rattle.std.specs.List.{between}
use Rattle.task.specs.declared.refusal.Refusal.{Refusal}
use Rattle.task.specs.declared.data.Task.{Task}
use Rattle.task.specs.Benches.{Bench}
use Rattle.task.specs.declared.refusal.Fault.TheVariants.{NoGoal}
use Rattle.task.specs.Refusals.{refuse}
use Rattle.book.specs.declared.records.Raw.{Raw}
use Rattle.book.specs.declared.records.Records.{Records}
use Rattle.book.specs.declared.Stage.{Stage}
use Rattle.book.specs.declared.Stage.TheVariants as stage
use Rattle.book.specs.declared.Seen.{Seen}
use Rattle.book.specs.Records.{head_of, FirstRecord, Handed}
use Rattle.book.specs.Format.{and_then, Reading, reading, after_record, step_of, run, start, finished, parse}
use Rattle.book.specs.Reader.{Agree, Outline, Seeing}

-- the records before these bytes, which stand at `at`, gave the reading
pub record Walk (book bytes : List ℕ) (at : ℕ) (σ : Reading) : Type 0 where
  pub fuel : ℕ
  pub enough : length bytes ≤ fuel
  pub same : run (length book) start book 0 ≡ run fuel σ bytes at
  pub place : at + length bytes ≡ length book

pub begins : (book bytes : List ℕ) (at : ℕ) (σ : Reading) → bytes ≡ book → at ≡ 0 → σ ≡ start → Walk book bytes at σ
begins book bytes at σ left none e =
    record {
      fuel = length book;
      enough = omega (arith, ap length left);
      same = λ i. run (length book) (sym e i) (sym left i) (sym none i);
      place = omega (arith, ap length left);
    }

-- a run over one more record
pub record More (fuel : ℕ) (σ : Reading) (bytes : List ℕ) (at : ℕ) : Type 0 where
  pub less : ℕ
  pub one : suc less ≡ fuel
  pub same : run fuel σ bytes at ≡ and_then (step_of σ bytes at) (λ p. run less p.0 (drop p.1 bytes) (at + p.1))

pub more : (fuel : ℕ) (σ : Reading) (bytes : List ℕ) (at : ℕ) → length bytes ≤ fuel → 0 < length bytes → More fuel σ bytes at
unfolding run
more fuel σ [] at h k = absurd (omega arith)
more zero σ (x ∷ xs) at h k = absurd (omega arith)
more (suc n) σ (x ∷ xs) at h k = record { less = n; one = refl; same = refl }

over : (fuel : ℕ) (σ : Reading) (bytes : List ℕ) (at : ℕ) → length bytes ≡ 0 → run fuel σ bytes at ≡ Ok σ
unfolding run
over zero σ bytes at h = refl
over (suc n) σ [] at h = refl
over (suc n) σ (x ∷ xs) at h = absurd (omega arith)

pub goes : (book bytes : List ℕ) (at : ℕ) (σ next : Reading) (size : ℕ) → Walk book bytes at σ → 0 < length bytes → Ok (next, size) ≡ step_of σ bytes at → 4 ≤ size → size ≤ length bytes → Walk book (drop size bytes) (at + size) next
goes book bytes at σ next size w k e far within =
    let m = more w.fuel σ bytes at w.enough k in
    let long : length (drop size bytes) ≡ length bytes - size = length-drop size bytes in
    record {
      fuel = m.less;
      enough = omega (arith, m.one, w.enough);
      same = w.same ∙ m.same ∙ ap (λ r. and_then r (λ p. run m.less p.0 (drop p.1 bytes) (at + p.1))) (sym e);
      place = omega (arith, w.place);
    }

pub stops : (book bytes : List ℕ) (at : ℕ) (σ : Reading) (e : Refusal) → Walk book bytes at σ → 0 < length bytes → Err e ≡ step_of σ bytes at → Err e ≡ parse book
unfolding parse
stops book bytes at σ e w k h =
    let m = more w.fuel σ bytes at w.enough k in
    ap (λ r. and_then (and_then r (λ p. run m.less p.0 (drop p.1 bytes) (at + p.1))) (λ z. finished z.stage z.bench (length book))) h
    ∙ ap (λ r. and_then r (λ z. finished z.stage z.bench (length book))) (sym (w.same ∙ m.same))

pub ends : (book bytes : List ℕ) (at : ℕ) (σ : Reading) → Walk book bytes at σ → length bytes ≡ 0 → finished σ.stage σ.bench (length book) ≡ parse book
unfolding parse
ends book bytes at σ w h = ap (λ r. and_then r (λ z. finished z.stage z.bench (length book))) (sym (w.same ∙ over w.fuel σ bytes at h))

-- what the first pass knows before these bytes
pub record Surveyed (book bytes : List ℕ) (at : ℕ) (seen : Seen) : Type 0 where
  pub bench : Bench
  pub walk : Walk book bytes at (reading seen.stage bench)
  pub outline : Outline seen.task bench

-- what is handed on is a record or a refusal
a_record : (now next : Records) (x : Result Raw Refusal) (raw : Raw) → Handed now (Some x) next → x ≡ Ok raw → (0 < length now.left.now) × FirstRecord now raw next
a_record now next x raw h e = subst (λ z. Handed now (Some z) next) e h

a_refusal : (now next : Records) (x : Result Raw Refusal) (e : Refusal) → Handed now (Some x) next → x ≡ Err e → (0 < length now.left.now) × (Err e ≡ head_of now.left.now now.at) × (length next.left.now ≡ 0)
a_refusal now next x e h k = subst (λ z. Handed now (Some z) next) k h

pub some_left : (now next : Records) (x : Result Raw Refusal) → Handed now (Some x) next → 0 < length now.left.now
some_left now next (Ok raw) h = h.0
some_left now next (Err e) h = h.0

-- a step, where the first record is known
one_step : (σ : Reading) (now next : Records) (raw : Raw) (f : FirstRecord now raw next) → step_of σ now.left.now now.at ≡ and_then (after_record σ raw.kind raw.body.now raw.at) (λ τ. Ok (τ, 4 + f.head.size))
one_step σ now next raw f =
    ap (λ z. and_then z (λ h. and_then (after_record σ h.kind (between 4 (4 + h.size) now.left.now) now.at) (λ τ. Ok (τ, 4 + h.size)))) (sym f.is_head)
    ∙ (λ i. and_then (after_record σ (sym f.kind i) (sym f.body i) (sym f.place i)) (λ τ. Ok (τ, 4 + f.head.size)))

pub surveys : (book : List ℕ) (seen after : Seen) (now next : Records) (x : Result Raw Refusal) (raw : Raw) (s : Surveyed book now.left.now now.at seen) → Handed now (Some x) next → x ≡ Ok raw → Agree Seeing (Ok after) (after_record (reading seen.stage s.bench) raw.kind raw.body.now raw.at) → Surveyed book next.left.now next.at after
surveys book seen after now next x raw s handed is g =
    let r = a_record now next x raw handed is in
    go r.0 r.1 (after_record (reading seen.stage s.bench) raw.kind raw.body.now raw.at) refl g
  where
    go : 0 < length now.left.now → FirstRecord now raw next → (y : Result Reading Refusal) → y ≡ after_record (reading seen.stage s.bench) raw.kind raw.body.now raw.at → Agree Seeing (Ok after) y → Surveyed book next.left.now next.at after
    go k f (Err e) h r = absurd r
    go k f (Ok τ) h r =
        let size : ℕ = 4 + f.head.size in
        let σ : Reading = reading seen.stage s.bench in
        let w = goes book now.left.now now.at σ τ size s.walk k (ap (λ z. and_then z (λ υ. Ok (υ, size))) h ∙ sym (one_step σ now next raw f)) (omega arith) f.within in
        let v : Walk book next.left.now next.at τ = subst (λ z. Walk book z next.at τ) (sym f.left) (subst (λ n. Walk book (drop size now.left.now) n τ) (sym f.on) w) in
        record { bench = τ.bench; walk = subst (λ z. Walk book next.left.now next.at (reading z τ.bench)) (sym r.stage) v; outline = r.outline }

-- the refusal of a head, and of the record after it
pub head_fails : (book : List ℕ) (seen : Seen) (now next : Records) (x : Result Raw Refusal) (e : Refusal) → Surveyed book now.left.now now.at seen → Handed now (Some x) next → x ≡ Err e → Agree Outline (Err e) (parse book)
head_fails book seen now next x e s handed is =
    let r = a_refusal now next x e handed is in
    let σ : Reading = reading seen.stage s.bench in
    let step : Err e ≡ step_of σ now.left.now now.at = ap (λ z. and_then z (λ h. and_then (after_record σ h.kind (between 4 (4 + h.size) now.left.now) now.at) (λ τ. Ok (τ, 4 + h.size)))) r.1 in
    subst (Agree Outline (Err e)) (stops book now.left.now now.at σ e s.walk r.0 step) refl

pub record_fails : (book : List ℕ) (seen : Seen) (now next : Records) (x : Result Raw Refusal) (raw : Raw) (e : Refusal) (s : Surveyed book now.left.now now.at seen) → Handed now (Some x) next → x ≡ Ok raw → Agree Seeing (Err e) (after_record (reading seen.stage s.bench) raw.kind raw.body.now raw.at) → Agree Outline (Err e) (parse book)
record_fails book seen now next x raw e s handed is g =
    let r = a_record now next x raw handed is in
    go r.0 r.1 (after_record (reading seen.stage s.bench) raw.kind raw.body.now raw.at) refl g
  where
    go : 0 < length now.left.now → FirstRecord now raw next → (y : Result Reading Refusal) → y ≡ after_record (reading seen.stage s.bench) raw.kind raw.body.now raw.at → Agree Seeing (Err e) y → Agree Outline (Err e) (parse book)
    go k f (Ok τ) h r = absurd r
    go k f (Err d) h r =
        let σ : Reading = reading seen.stage s.bench in
        let step : Err d ≡ step_of σ now.left.now now.at = ap (λ z. and_then z (λ υ. Ok (υ, 4 + f.head.size))) h ∙ sym (one_step σ now next raw f) in
        subst (Agree Outline (Err e)) (stops book now.left.now now.at σ d s.walk k step) r

pub closes : (book bytes : List ℕ) (at : ℕ) (seen : Seen) (s : Surveyed book bytes at seen) → length bytes ≡ 0 → (r : Result Task Refusal) → Agree Outline r (finished seen.stage s.bench (length book)) → Agree Outline r (parse book)
closes book bytes at seen s h r g = subst (Agree Outline r) (ends book bytes at (reading seen.stage s.bench) s.walk h) g

pub is_done : (s : Stage) (b : Bench) (n : ℕ) (t : Task) → s ≡ stage.Done → Outline t b → Agree Outline (Ok t) (finished s b n)
is_done s b n t e o = subst (λ z. Agree Outline (Ok t) (finished z b n)) (sym e) o

pub no_goal : (s : Stage) (b : Bench) (n : ℕ) → (s ≡ stage.Done → ⊥) → Agree Outline (refuse NoGoal n) (finished s b n)
no_goal stage.Variables b n h = refl
no_goal stage.Actions b n h = refl
no_goal stage.Goal b n h = refl
no_goal stage.Done b n h = absurd (h refl)
