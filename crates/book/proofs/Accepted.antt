-- An accepted book: each of its records is admitted.
use Rattle.std.proofs.Common.{◌≡◌, ℕ, zero, suc, ◌+◌, ◌-◌, ◌<◌, ◌≤◌, List, [], ◌∷◌, ◌++◌, map, length, take, drop, Some, None, Ok, Err, Option, Result, MatchResult, sym, refl, ap, ◌∙◌, subst, arith}
use Rattle.std.specs.List.{between}
use Rattle.std.proofs.lemmas.List.{append-nil, length_push, drop-drop}
use Rattle.task.specs.declared.data.Action.{Action}
use Rattle.task.specs.declared.refusal.Fault.{Fault}
use Rattle.task.specs.declared.refusal.Fault.TheVariants.{OutOfPlace}
use Rattle.task.specs.declared.refusal.Refusal.{Refusal}
use Rattle.task.specs.Benches.{Bench, act_of}
use Rattle.book.specs.declared.records.Head.{Head}
use Rattle.book.specs.declared.records.Raw.{Raw}
use Rattle.book.specs.declared.records.Record.{Record}
use Rattle.book.specs.declared.records.Records.{Records}
use Rattle.book.specs.declared.Stage.{Stage}
use Rattle.book.specs.declared.Stage.TheVariants as stage
use Rattle.book.specs.Records.{Parts, variable_part, action_part, goal_part, head_of, parts_of, shown_result, FirstRecord, Handed}
use Rattle.book.specs.Format.{stage_after, fault_in, grown, unless, or_refuse, and_then, admitted, Reading, reading, after_record, step_of, run, start, finished, parse}
use Rattle.book.specs.Reader.{acts_in, Limited, Filled, Fits}
use Rattle.book.proofs.Faults.{limited}
use Rattle.book.proofs.Steps.{after_stage, after_parts}
use Rattle.book.proofs.Runs.{Walk, begins, some_left, goes, more, ends}

err_ok : {X : Type 0} (e : Refusal) (x : X) → Err e ≡ Ok x → ⊥
err_ok e x h = let z : ◌≡◌ {A = ℕ} 0 1 = cc in omega arith

pub ok_same : {X : Type 0} (x y : X) → ◌≡◌ {A = Result X Refusal} (Ok x) (Ok y) → x ≡ y
ok_same x y h = cc

pub then_ok : {X Y : Type 0} (x : Result X Refusal) (f : X → Result Y Refusal) (y : Y) → and_then x f ≡ Ok y → (v : X) × (x ≡ Ok v) × (f v ≡ Ok y)
then_ok (Ok v) f y e = (v, refl, e)
then_ok (Err r) f y e = absurd (err_ok _ _ e)

unless_ok : {X : Type 0} (o : Option Fault) (at : ℕ) (x y : X) → unless o at x ≡ Ok y → (o ≡ None) × (x ≡ y)
unless_ok (Some f) at x y e = absurd (err_ok _ _ e)
unless_ok None at x y e = (refl, ok_same _ _ e)

or_refuse_ok : {X : Type 0} (o : Option X) (f : Fault) (at : ℕ) (x : X) → or_refuse o f at ≡ Ok x → o ≡ Some x
or_refuse_ok (Some x) f at y e = ap (λ z. Some z) (ok_same _ _ e)
or_refuse_ok None f at y e = absurd (err_ok _ _ e)

-- a record that is admitted, and what it leads to
pub record Admitted (σ : Reading) (bytes : List ℕ) (at : ℕ) (next : Reading × ℕ) : Type 0 where
  pub head : Head
  pub stage : Stage
  pub parts : Parts
  pub is_head : head_of bytes at ≡ Ok head
  pub is_stage : stage_after σ.stage head.kind ≡ Some stage
  pub is_parts : parts_of head.kind (between 4 (4 + head.size) bytes) at ≡ Ok parts
  pub fine : fault_in σ.bench.sizes (length σ.bench.actions) parts ≡ None
  pub leads : next ≡ (reading stage (grown σ.bench parts), 4 + head.size)

pub admits : (σ : Reading) (bytes : List ℕ) (at : ℕ) (next : Reading × ℕ) → step_of σ bytes at ≡ Ok next → Admitted σ bytes at next
admits σ bytes at next e =
    let p = then_ok (head_of bytes at) (λ h. and_then (after_record σ h.kind (between 4 (4 + h.size) bytes) at) (λ τ. Ok (τ, 4 + h.size))) next e in
    let h : Head = p.0 in
    let body : List ℕ = between 4 (4 + h.size) bytes in
    let r = then_ok (after_record σ h.kind body at) (λ τ. Ok (τ, 4 + h.size)) next p.2 in
    let q = then_ok (or_refuse (stage_after σ.stage h.kind) OutOfPlace at) (after_stage σ h.kind body at) r.0 r.1 in
    let s : Stage = q.0 in
    let u = then_ok (parts_of h.kind body at) (after_parts σ at s) r.0 q.2 in
    let v = then_ok (admitted σ.bench u.0 at) (λ b. Ok (reading s b)) r.0 u.2 in
    let w = unless_ok (fault_in σ.bench.sizes (length σ.bench.actions) u.0) at (grown σ.bench u.0) v.0 v.1 in
    record {
      head = h;
      stage = s;
      parts = u.0;
      is_head = p.1;
      is_stage = or_refuse_ok (stage_after σ.stage h.kind) OutOfPlace at s q.1;
      is_parts = u.1;
      fine = w.0;
      leads = sym (ok_same _ _ r.2) ∙ ap (λ τ. (τ, 4 + h.size)) (sym (ok_same _ _ v.2) ∙ ap (reading s) (sym w.1));
    }

pub acts_grown : (b : Bench) (p : Parts) → (grown b p).actions ≡ b.actions ++ acts_in p
acts_grown b (variable_part n) = sym (append-nil b.actions)
acts_grown b (action_part a) = refl
acts_grown b (goal_part atoms) = sym (append-nil b.actions)

longer : (b : Bench) (p : Parts) → length (grown b p).actions ≡ length b.actions + length (acts_in p)
longer b (variable_part n) = omega arith
longer b (action_part a) = length_push b.actions a
longer b (goal_part atoms) = omega arith

-- actions are only added
grows : (fuel : ℕ) (σ τ : Reading) (bytes : List ℕ) (at : ℕ) → run fuel σ bytes at ≡ Ok τ → length σ.bench.actions ≤ length τ.bench.actions
unfolding run
grows zero σ τ bytes at e = omega (arith, ap (λ z. length z.bench.actions) (ok_same _ _ e))
grows (suc n) σ τ [] at e = omega (arith, ap (λ z. length z.bench.actions) (ok_same _ _ e))
grows (suc n) σ τ (x ∷ xs) at e =
    let p = then_ok (step_of σ (x ∷ xs) at) (λ p. run n p.0 (drop p.1 (x ∷ xs)) (at + p.1)) τ e in
    let a = admits σ (x ∷ xs) at p.0 p.1 in
    omega (arith, grows n p.0.0 τ (drop p.0.1 (x ∷ xs)) (at + p.0.1) p.2, ap (λ z. length z.0.bench.actions) a.leads, longer σ.bench a.parts)

finished_ok : (s : Stage) (b c : Bench) (n : ℕ) → finished s b n ≡ Ok c → (s ≡ stage.Done) × (b ≡ c)
finished_ok stage.Variables b c n e = absurd (err_ok _ _ e)
finished_ok stage.Actions b c n e = absurd (err_ok _ _ e)
finished_ok stage.Goal b c n e = absurd (err_ok _ _ e)
finished_ok stage.Done b c n e = (refl, ok_same _ _ e)

-- the last reading of an accepted book
pub record Ended (book : List ℕ) (b : Bench) : Type 0 where
  pub last : Reading
  pub is : run (length book) start book 0 ≡ Ok last
  pub done : last.stage ≡ stage.Done
  pub bench : last.bench ≡ b

pub ended : (book : List ℕ) (b : Bench) → parse book ≡ Ok b → Ended book b
unfolding parse
ended book b e =
    let p = then_ok (run (length book) start book 0) (λ σ. finished σ.stage σ.bench (length book)) b e in
    let q = finished_ok p.0.stage p.0.bench b (length book) p.2 in
    record { last = p.0; is = p.1; done = q.0; bench = q.1 }

no_more : (book bytes : List ℕ) (at : ℕ) (σ : Reading) (b : Bench) → Walk book bytes at σ → parse book ≡ Ok b → length σ.bench.actions ≤ length b.actions
no_more book bytes at σ b w e =
    let z = ended book b e in
    omega (arith, grows w.fuel σ z.last bytes at (sym w.same ∙ z.is), ap (λ x. length x.actions) z.bench)

-- the record that stands first in what is left of an accepted book
pub record Taken (book bytes : List ℕ) (at : ℕ) (σ : Reading) (b : Bench) : Type 0 where
  pub next : Reading × ℕ
  pub admitted : Admitted σ bytes at next
  pub walk : (size : ℕ) → size ≡ 4 + admitted.head.size → size ≤ length bytes → Walk book (drop size bytes) (at + size) (reading admitted.stage (grown σ.bench admitted.parts))

pub takes : (book bytes : List ℕ) (at : ℕ) (σ : Reading) (b : Bench) → Walk book bytes at σ → 0 < length bytes → parse book ≡ Ok b → Taken book bytes at σ b
takes book bytes at σ b w k e =
    let z = ended book b e in
    let m = more w.fuel σ bytes at w.enough k in
    let p = then_ok (step_of σ bytes at) (λ p. run m.less p.0 (drop p.1 bytes) (at + p.1)) z.last (sym m.same ∙ sym w.same ∙ z.is) in
    let a = admits σ bytes at p.0 p.1 in
    record {
      next = p.0;
      admitted = a;
      walk = λ size same within. goes book bytes at σ (reading a.stage (grown σ.bench a.parts)) size w k (ap (λ n. Ok (reading a.stage (grown σ.bench a.parts), n)) same ∙ sym (p.1 ∙ ap (λ x. Ok x) a.leads)) (omega arith) within;
    }

-- what the second pass has written before these bytes
pub record Filling (book bytes : List ℕ) (at count : ℕ) (before after : List Action) : Type 0 where
  pub reached : Reading
  pub walk : Walk book bytes at reached
  pub number : count ≡ length reached.bench.actions
  pub first : map act_of (take count after) ≡ reached.bench.actions
  pub rest : drop count after ≡ drop count before

pub filling_begins : (book : List ℕ) (table : List Action) (now : Records) → now.left.now ≡ book → now.at ≡ 0 → Filling book now.left.now now.at 0 table table
filling_begins book table now left at = record { reached = start; walk = begins book now.left.now now.at start left at refl; number = refl; first = refl; rest = refl }

-- the head and the parts that are read are those that are admitted
pub same_head : (σ : Reading) (bytes : List ℕ) (at : ℕ) (next : Reading × ℕ) (a : Admitted σ bytes at next) (h : Head) → Ok h ≡ head_of bytes at → h ≡ a.head
same_head σ bytes at next a h e = ok_same _ _ (e ∙ a.is_head)

read_parts : (σ : Reading) (now after : Records) (next : Reading × ℕ) (a : Admitted σ now.left.now now.at next) (raw : Raw) → FirstRecord now raw after → (x : Result Parts Refusal) → x ≡ parts_of raw.kind raw.body.now raw.at → x ≡ Ok a.parts
read_parts σ now after next a raw f x e =
    e
    ∙ (λ i. parts_of (f.kind i) (f.body i) (f.place i))
    ∙ ap (λ h. parts_of h.kind (between 4 (4 + h.size) now.left.now) now.at) (same_head σ now.left.now now.at next a f.head f.is_head)
    ∙ a.is_parts

further : (n m : ℕ) (xs ys : List Action) → drop n xs ≡ drop n ys → n ≤ m → drop m xs ≡ drop m ys
further n m xs ys e h =
    let k : n + (m - n) ≡ m = omega arith in
    ap (λ z. drop z xs) (sym k) ∙ sym (drop-drop (m - n) n xs) ∙ ap (drop (m - n)) e ∙ drop-drop (m - n) n ys ∙ ap (λ z. drop z ys) k

-- what the second pass knows of a record whose parts it has read
pub record Second (book : List ℕ) (next : Records) (count : ℕ) (before after : List Action) (p : Parts) : Type 0 where
  pub limited : Limited p
  pub room : count + length (acts_in p) ≤ length before
  pub on : (count' : ℕ) (after' : List Action) → count' ≡ count + length (acts_in p) → map act_of (take count' after') ≡ map act_of (take count after) ++ acts_in p → drop count' after' ≡ drop count' after → Filling book next.left.now next.at count' before after'

-- what a record that was handed on says
abbrev pub said : Result Raw Refusal → Result Parts Refusal
said (Ok raw) = parts_of raw.kind raw.body.now raw.at
said (Err e) = Err e

pub said_by : (x : Result Raw Refusal) (r : Result Record Refusal) (post : Raw → Result Record Refusal → Type 0) → MatchResult x (λ raw. post raw r) (λ e. r ≡ Err e) → ((raw : Raw) (q : Result Record Refusal) → post raw q → shown_result q ≡ parts_of raw.kind raw.body.now raw.at) → shown_result r ≡ said x
said_by (Ok raw) r post h k = k raw r h
said_by (Err e) r post h k = ap shown_result h

-- the parts of the first record are those that are admitted
is_admitted : (now next : Records) (x : Result Raw Refusal) (σ : Reading) (to : Reading × ℕ) (a : Admitted σ now.left.now now.at to) → Handed now (Some x) next → said x ≡ Ok a.parts
is_admitted now next (Ok raw) σ to a handed = read_parts σ now next to a raw handed.1 (parts_of raw.kind raw.body.now raw.at) refl
is_admitted now next (Err e) σ to a handed = absurd (err_ok _ _ (handed.1 ∙ a.is_head))

pub second : (book : List ℕ) (now next : Records) (x : Result Raw Refusal) (count : ℕ) (before after : List Action) (p : Parts) → Fits book (length before) → Filling book now.left.now now.at count before after → Handed now (Some x) next → Ok p ≡ said x → Second book next count before after p
second book now next (Err e) count before after p fits w handed is = absurd (err_ok _ _ (sym is))
second book now next (Ok raw) count before after p fits w handed is =
    let f = handed.1 in
    let t = takes book now.left.now now.at w.reached fits.bench w.walk handed.0 fits.accepted in
    let a = t.admitted in
    let τ : Reading = reading a.stage (grown w.reached.bench a.parts) in
    let size : ℕ = 4 + f.head.size in
    let same : p ≡ a.parts = ok_same _ _ (is ∙ is_admitted now next (Ok raw) w.reached t.next a handed) in
    let sized : size ≡ 4 + a.head.size = ap (λ h. 4 + h.size) (same_head w.reached now.left.now now.at t.next a f.head f.is_head) in
    let walk = t.walk size sized f.within in
    let here : Walk book next.left.now next.at τ = subst (λ z. Walk book z next.at τ) (sym f.left) (subst (λ n. Walk book (drop size now.left.now) n τ) (sym f.on) walk) in
    let added = longer w.reached.bench a.parts in
    let acts : length (acts_in p) ≡ length (acts_in a.parts) = ap (λ z. length (acts_in z)) same in
    record {
      limited = subst Limited (sym same) (limited w.reached.bench.sizes (length w.reached.bench.actions) a.parts a.fine);
      room = omega (arith, fits.room, no_more book _ _ _ fits.bench walk fits.accepted, added, w.number, acts);
      on = λ count' after' n s d. record {
        reached = τ;
        walk = here;
        number = omega (arith, n, w.number, added, acts);
        first = s ∙ (λ i. w.first i ++ acts_in (same i)) ∙ sym (acts_grown w.reached.bench a.parts);
        rest = d ∙ further count count' after before w.rest (omega arith);
      };
    }

-- no record of an accepted book has a fault
pub no_fault : (book : List ℕ) (now next : Records) (x : Result Raw Refusal) (count : ℕ) (before after : List Action) (b : Bench) (e : Refusal) → Filling book now.left.now now.at count before after → Handed now (Some x) next → parse book ≡ Ok b → Err e ≡ said x → ⊥
no_fault book now next x count before after b e w handed accepted is =
    let t = takes book now.left.now now.at w.reached b w.walk (some_left now next x handed) accepted in
    err_ok _ _ (is ∙ is_admitted now next x w.reached t.next t.admitted handed)

pub filled : (book bytes : List ℕ) (at count : ℕ) (before after : List Action) (b : Bench) → Filling book bytes at count before after → length bytes ≡ 0 → parse book ≡ Ok b → Filled before after b.actions
filled book bytes at count before after b f none e =
    let q = finished_ok f.reached.stage f.reached.bench b (length book) (ends book bytes at f.reached f.walk none ∙ e) in
    let same : count ≡ length b.actions = f.number ∙ ap (λ z. length z.actions) q.1 in
    record {
      first = ap (λ n. map act_of (take n after)) (sym same) ∙ f.first ∙ ap (λ z. z.actions) q.1;
      rest = (λ i. drop (sym same i) after) ∙ f.rest ∙ (λ i. drop (same i) before);
    }
