-- A record that is read is what it is written as.
use Rattle.std.proofs.Common.{◌≡◌, ℕ, zero, suc, ◌+◌, ◌-◌, ◌*◌, ◌/◌, ◌%◌, ◌<◌, ◌≤◌, Bool, true, false, cond, ◌&&◌, eqb, leb, List, [], ◌∷◌, ◌++◌, length, get_or, take, drop, Some, None, Ok, Result, sym, refl, ap, ◌∙◌, ⊎_elim, arith, length-drop, take-append-drop}
use Rattle.std.specs.List.{between, AllByRecursion}
use Rattle.std.proofs.ByRecursion.{All-take}
use Rattle.std.proofs.lemmas.List.{drop-drop, length-take-le}
use Rattle.std.proofs.lemmas.Slice.{between_to_end}
use Rattle.std.proofs.lemmas.Bool.{cases_Bool, and_parts, leb-true, eqb-true}
use Rattle.task.specs.declared.refusal.Fault.{Fault}
use Rattle.task.specs.declared.refusal.Fault.TheVariants.{CutShort}
use Rattle.task.specs.declared.refusal.Refusal.{Refusal}
use Rattle.task.specs.Refusals.{refuse}
use Rattle.book.specs.declared.records.Kind.{Kind}
use Rattle.book.specs.declared.records.Kind.TheVariants as kind
use Rattle.book.specs.declared.records.Head.{Head}
use Rattle.book.specs.Atoms.{atoms_in}
use Rattle.book.specs.Records.{Parts, action_part, goal_part, word, kind_of, headed, head_of, act_in, parts_of}
use Rattle.book.specs.Print.{atoms_bytes, code_of, kind_in, body_bytes, part_bytes}
use Rattle.book.proofs.Accepted.{ok_same}
use Rattle.book.proofs.Laws.{same_kind}

abbrev pub Bytes : List ℕ → Type 0
Bytes bytes = AllByRecursion (λ x. x < 256) bytes

-- a test that guards what is read
passed : {X : Type 0} (t : Bool) (x : Result X Refusal) (f : Fault) (at : ℕ) (v : X) → cond t x (refuse f at) ≡ Ok v → (t ≡ true) × (x ≡ Ok v)
passed true x f at v h = (refl, h)
passed false x f at v h = absurd (let z : ◌≡◌ {A = ℕ} 0 1 = cc in omega arith)

made_head : (k : Kind) (w size : ℕ) (h : Head) → ◌≡◌ {A = Result Head Refusal} (Ok (record { kind = k; size = size })) (Ok h) → w ≡ code_of k → (h.size ≡ size) × (w ≡ code_of h.kind)
made_head k w size h e c =
    let q = ok_same _ _ e in
    (sym (ap (λ x. x.size) q), c ∙ ap (λ x. code_of x.kind) q)

kind_is : (w size at : ℕ) (h : Head) → headed (kind_of w) size at ≡ Ok h → (h.size ≡ size) × (w ≡ code_of h.kind)
kind_is w size at h e =
    ⊎_elim
    (λ a. let p : headed (Some kind.Variable) size at ≡ Ok h = rw a at e in made_head kind.Variable w size h p (eqb-true w 1 a))
    (λ a. ⊎_elim
    (λ b. let p : headed (Some kind.Action) size at ≡ Ok h = rw b at (rw a at e) in made_head kind.Action w size h p (eqb-true w 2 b))
    (λ b. ⊎_elim
    (λ d. let p : headed (Some kind.Goal) size at ≡ Ok h = rw d at (rw b at (rw a at e)) in made_head kind.Goal w size h p (eqb-true w 3 d))
    (λ d. let p : headed None size at ≡ Ok h = rw d at (rw b at (rw a at e)) in absurd (let z : ◌≡◌ {A = ℕ} 0 1 = cc in omega arith))
    (cases_Bool (eqb w 3)))
    (cases_Bool (eqb w 2)))
    (cases_Bool (eqb w 1))

pub record Headed (bytes : List ℕ) (h : Head) : Type 0 where
  pub within : 4 + h.size ≤ length bytes
  pub size : word bytes 0 ≡ h.size
  pub code : word bytes 2 ≡ code_of h.kind

pub head_is : (bytes : List ℕ) (at : ℕ) (h : Head) → head_of bytes at ≡ Ok h → Headed bytes h
head_is bytes at h e =
    let p = passed (leb 4 (length bytes) && leb (4 + word bytes 0) (length bytes)) (headed (kind_of (word bytes 2)) (word bytes 0) at) CutShort at h e in
    let t = and_parts (leb 4 (length bytes)) (leb (4 + word bytes 0) (length bytes)) p.0 in
    let k = kind_is (word bytes 2) (word bytes 0) at h p.1 in
    record { within = omega (arith, leb-true (4 + word bytes 0) (length bytes) t.1, k.0); size = sym k.0; code = k.1 }

-- whole atoms
atoms_whole : (n : ℕ) (xs : List ℕ) → length xs ≡ 2 * n → (atoms_bytes (atoms_in xs) ≡ xs) × (length (atoms_in xs) ≡ n)
atoms_whole zero [] h = (refl, refl)
atoms_whole (suc n) [] h = absurd (omega arith)
atoms_whole n (v ∷ []) h = absurd (omega arith)
atoms_whole zero (v ∷ x ∷ more) h = absurd (omega arith)
atoms_whole (suc n) (v ∷ x ∷ more) h =
    let r = atoms_whole n more (omega arith) in
    (ap (λ z. v ∷ x ∷ z) r.0, omega (arith, r.1))

single : (body : List ℕ) → length body ≡ 1 → get_or body 0 0 ∷ [] ≡ body
single [] h = absurd (omega arith)
single (x ∷ []) h = refl
single (x ∷ y ∷ l) h = absurd (omega arith)

goal_body : (body : List ℕ) → 1 ≤ length body → length body ≡ 1 + 2 * get_or body 0 0 → body_bytes (goal_part (atoms_in (between 1 (length body) body))) ≡ body
goal_body [] h e = absurd (omega arith)
goal_body (k ∷ xs) h e =
    let s : between 1 (length (k ∷ xs)) (k ∷ xs) ≡ xs = between_to_end (k ∷ xs) 1 (length (k ∷ xs)) (omega arith) in
    let n = atoms_whole k xs (omega arith) in
    ap (λ l. body_bytes (goal_part (atoms_in l))) s ∙ (λ i. n.1 i ∷ n.0 i)

-- four bytes and two, and the numbers that they write
four : (a b c d : ℕ) → a < 256 → b < 256 → c < 256 → d < 256 → let t : ℕ = a + 256 * b + 65536 * (c + 256 * d) in (t % 256 ≡ a) × (t / 256 % 256 ≡ b) × (t / 65536 % 256 ≡ c) × (t / 16777216 % 256 ≡ d)
four a b c d h k l m = (omega arith, omega arith, omega arith, omega arith)

two : (a b : ℕ) → a < 256 → b < 256 → ((a + 256 * b) % 256 ≡ a) × ((a + 256 * b) / 256 % 256 ≡ b)
two a b h k = (omega arith, omega arith)

abbrev action_in : List ℕ → Parts
action_in body = action_part (act_in (word body 0 + 65536 * word body 2) (word body 4) (between 8 (8 + 2 * get_or body 6 0) body) (between (8 + 2 * get_or body 6 0) (length body) body))

action_body : (body : List ℕ) → Bytes body → 8 ≤ length body → length body ≡ 8 + 2 * (get_or body 6 0 + get_or body 7 0) → body_bytes (action_in body) ≡ body
action_body [] s h e = absurd (omega arith)
action_body (b0 ∷ []) s h e = absurd (omega arith)
action_body (b0 ∷ b1 ∷ []) s h e = absurd (omega arith)
action_body (b0 ∷ b1 ∷ b2 ∷ []) s h e = absurd (omega arith)
action_body (b0 ∷ b1 ∷ b2 ∷ b3 ∷ []) s h e = absurd (omega arith)
action_body (b0 ∷ b1 ∷ b2 ∷ b3 ∷ b4 ∷ []) s h e = absurd (omega arith)
action_body (b0 ∷ b1 ∷ b2 ∷ b3 ∷ b4 ∷ b5 ∷ []) s h e = absurd (omega arith)
action_body (b0 ∷ b1 ∷ b2 ∷ b3 ∷ b4 ∷ b5 ∷ b6 ∷ []) s h e = absurd (omega arith)
action_body (b0 ∷ b1 ∷ b2 ∷ b3 ∷ b4 ∷ b5 ∷ m ∷ n ∷ rest) (s0, (s1, (s2, (s3, (s4, (s5, s)))))) h e =
    let body : List ℕ = b0 ∷ b1 ∷ b2 ∷ b3 ∷ b4 ∷ b5 ∷ m ∷ n ∷ rest in
    let long : length rest ≡ 2 * m + 2 * n = omega arith in
    let cs : between 8 (8 + 2 * m) body ≡ take (2 * m) rest = ap (λ j. take j rest) (omega arith) in
    let es : between (8 + 2 * m) (length body) body ≡ drop (2 * m) rest = between_to_end body (8 + 2 * m) (length body) (omega arith) ∙ sym (drop-drop (2 * m) 8 body) in
    let c = atoms_whole m (take (2 * m) rest) (length-take-le (2 * m) rest (omega arith)) in
    let d = atoms_whole n (drop (2 * m) rest) (length-drop (2 * m) rest ∙ omega arith) in
    let t = four b0 b1 b2 b3 s0 s1 s2 s3 in
    let p = two b4 b5 s4 s5 in
    (λ i. t.0 i ∷ t.1 i ∷ t.2 i ∷ t.3 i ∷ p.0 i ∷ p.1 i ∷ length (atoms_in (cs i)) ∷ length (atoms_in (es i)) ∷ (atoms_bytes (atoms_in (cs i)) ++ atoms_bytes (atoms_in (es i))))
    ∙ (λ i. b0 ∷ b1 ∷ b2 ∷ b3 ∷ b4 ∷ b5 ∷ c.1 i ∷ d.1 i ∷ (c.0 i ++ d.0 i))
    ∙ ap (λ z. b0 ∷ b1 ∷ b2 ∷ b3 ∷ b4 ∷ b5 ∷ m ∷ n ∷ z) (take-append-drop (2 * m) rest)

body_is : (k : Kind) (body : List ℕ) (at : ℕ) (p : Parts) → Bytes body → parts_of k body at ≡ Ok p → body_bytes p ≡ body
body_is kind.Variable body at p s e =
    let t = passed _ _ _ at p e in
    ap body_bytes (sym (ok_same _ _ t.1)) ∙ single body (eqb-true (length body) 1 t.0)
body_is kind.Action body at p s e =
    let t = passed _ _ _ at p e in
    let q = and_parts _ _ t.0 in
    ap body_bytes (sym (ok_same _ _ t.1)) ∙ action_body body s (leb-true 8 (length body) q.0) (eqb-true (length body) (8 + 2 * (get_or body 6 0 + get_or body 7 0)) q.1)
body_is kind.Goal body at p s e =
    let t = passed _ _ _ at p e in
    let q = and_parts _ _ t.0 in
    ap body_bytes (sym (ok_same _ _ t.1)) ∙ goal_body body (leb-true 1 (length body) q.0) (eqb-true (length body) (1 + 2 * get_or body 0 0) q.1)

-- the record that stands first in the bytes is what it is written as
pub record_is : (bytes : List ℕ) (at : ℕ) (h : Head) (p : Parts) → Bytes bytes → head_of bytes at ≡ Ok h → parts_of h.kind (between 4 (4 + h.size) bytes) at ≡ Ok p → bytes ≡ part_bytes p ++ drop (4 + h.size) bytes
record_is [] at h p s e f = absurd (let w = (head_is [] at h e).within in omega (arith, w))
record_is (b0 ∷ []) at h p s e f = absurd (let w = (head_is (b0 ∷ []) at h e).within in omega (arith, w))
record_is (b0 ∷ b1 ∷ []) at h p s e f = absurd (let w = (head_is (b0 ∷ b1 ∷ []) at h e).within in omega (arith, w))
record_is (b0 ∷ b1 ∷ b2 ∷ []) at h p s e f = absurd (let w = (head_is (b0 ∷ b1 ∷ b2 ∷ []) at h e).within in omega (arith, w))
record_is (b0 ∷ b1 ∷ b2 ∷ b3 ∷ more) at h p (s0, (s1, (s2, (s3, s)))) e f =
    let bytes : List ℕ = b0 ∷ b1 ∷ b2 ∷ b3 ∷ more in
    let n : ℕ = h.size in
    let hd = head_is bytes at h e in
    let k : 4 + n - 4 ≡ n = omega arith in
    let body : List ℕ = between 4 (4 + n) bytes in
    let long : length body ≡ n = ap (λ m. length (take m more)) k ∙ length-take-le n more (omega (arith, hd.within)) in
    let is : body_bytes p ≡ body = body_is h.kind body at p (All-take _ (4 + n - 4) more s) f in
    let size : b0 + 256 * b1 ≡ length (body_bytes p) = hd.size ∙ sym (ap length is ∙ long) in
    let code : b2 + 256 * b3 ≡ code_of (kind_in p) = hd.code ∙ ap code_of (same_kind h.kind body at p f) in
    let x = two b0 b1 s0 s1 in
    let y = two b2 b3 s2 s3 in
    let x0 : b0 ≡ length (body_bytes p) % 256 = sym x.0 ∙ ap (λ z. z % 256) size in
    let x1 : b1 ≡ length (body_bytes p) / 256 % 256 = sym x.1 ∙ ap (λ z. z / 256 % 256) size in
    let y0 : b2 ≡ code_of (kind_in p) % 256 = sym y.0 ∙ ap (λ z. z % 256) code in
    let y1 : b3 ≡ code_of (kind_in p) / 256 % 256 = sym y.1 ∙ ap (λ z. z / 256 % 256) code in
    let tail : more ≡ body_bytes p ++ drop n more = sym (take-append-drop n more) ∙ ap (λ z. z ++ drop n more) (sym (is ∙ ap (λ m. take m more) k)) in
    (λ i. x0 i ∷ x1 i ∷ y0 i ∷ y1 i ∷ tail i) ∙ ap (λ z. part_bytes p ++ z) (drop-drop n 4 bytes)
