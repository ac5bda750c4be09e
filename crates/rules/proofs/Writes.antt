-- Bytes that become 1, one test after another.
use Rattle.std.proofs.Common.{◌≡◌, ℕ, ◌<◌, Bool, true, false, cond, ◌||◌, ◌⊎◌, List, length, get_or, sym, refl, ap, ◌∙◌, subst, inl, inr, arith}
use Rattle.std.proofs.lemmas.Bool.Decides.{nat_tests}
use Rattle.rules.specs.Waits.{Wrote}

cond_or : (a b : Bool) (n : ℕ) → cond b 1 (cond a 1 n) ≡ cond (a || b) 1 n
cond_or true true n = refl
cond_or true false n = refl
cond_or false b n = refl

pub wrote_then : (f g h : ℕ → Bool) {work work' work'' : List ℕ} → ((x : ℕ) → (f x || g x) ≡ h x) → Wrote f work work' → Wrote g work' work'' → Wrote h work work''
wrote_then f g h {work} {work'} {work''} same a b = record {
  as_many = b.as_many ∙ a.as_many;
  bytes = λ x l. b.bytes x (subst (λ n. x < n) (sym a.as_many) l) ∙ ap (λ n. cond (g x) 1 n) (a.bytes x l) ∙ cond_or (f x) (g x) (get_or work x 0) ∙ ap (λ c. cond c 1 (get_or work x 0)) (same x);
}

-- a byte that was 1 still is
pub wrote_stays : (f : ℕ → Bool) {work work' : List ℕ} → Wrote f work work' → (x : ℕ) → x < length work → get_or work x 0 ≡ 1 → get_or work' x 0 ≡ 1
wrote_stays f a x l e = let b = a.bytes x l in grind (arith, nat_tests)

pub wrote_new : (f : ℕ → Bool) {work work' : List ℕ} → Wrote f work work' → (x : ℕ) → x < length work → get_or work' x 0 ≡ 1 → (get_or work x 0 ≡ 1) ⊎ (f x ≡ true)
wrote_new f {work} {work'} a x l e = by (f x) refl
  where
    by : (b : Bool) → f x ≡ b → (get_or work x 0 ≡ 1) ⊎ (b ≡ true)
    by true q = inr refl
    by false q = inl (sym (a.bytes x l ∙ ap (λ c. cond c 1 (get_or work x 0)) q) ∙ e)
