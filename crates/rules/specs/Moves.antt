-- A closed set prunes: its first action in a plan can be moved to the front.
use Rattle.std.specs.Prelude.{◌≡◌, ℕ, Bool, true, false, ◌||◌, ◌⊎◌, List, [], ◌∷◌, ◌++◌, length, Some, ◌≢◌, nat_lt, slice_index, slice_set, refl}
use Rattle.std.proofs.Common.{sym, ◌∙◌, ap, subst, inl, inr, get_or-set_same, get_or-set_other}
use mathlib.Core.List.Permᴰ
use mathlib.Core.List.{Permᴰ}
use Rattle.std.proofs.lemmas.List.{set_comm}
use Rattle.std.proofs.Math.Seq.{set_out}
use Rattle.std.proofs.lemmas.Bool.{and_parts, and_from, or_parts, or_from, eq-eqb, ne_eqb, cases_lt, cases_eq, both_ways}
use Rattle.std.specs.List.{AllByRecursion}
use Rattle.task.specs.declared.data.Atom.{Atom}
use Rattle.task.specs.Settings.{holding, met, unmet, assigned, sibling, some_atom, clash}
use Rattle.task.specs.Benches.{Bench, act, alike, achieving, interfering, World, world, Plan}
use Rattle.rules.specs.Marks.{Begun}
use Rattle.rules.specs.Sets.{Closed}

abbrev put : List ℕ → Atom → List ℕ
put s e = slice_set s e.variable e.value

-- what a write leaves to read
read_set : (s : List ℕ) (v x w : ℕ) → ((v ≡ w) × (slice_index (slice_set s v x) w ≡ x)) ⊎ (slice_index (slice_set s v x) w ≡ slice_index s w)
read_set s v x w = elim (cases_eq w v) [ inl e ↦ elim (cases_lt v (length s)) [ inl l ↦ inl (sym e, rw e (get_or-set_same s v x 0 l)) | inr o ↦ inr (rw (set_out s v x o)) ] | inr d ↦ inr (get_or-set_other s v w x 0 d) ]

-- atoms of one variable that are no siblings have the same value, and if they are not alike another
same_value : (e c : Atom) → e.variable ≡ c.variable → sibling e c ≡ false → e.value ≡ c.value
same_value e c v apart = elim (cases_eq e.value c.value) [ inl k ↦ k | inr k ↦ absurd (both_ways (sibling e c) apart (and_from _ _ (eq-eqb _ _ v) (rw (ne_eqb _ _ k)))) ]

other_value : (e c : Atom) → e.variable ≡ c.variable → alike e c ≡ false → e.value ≢ c.value
other_value e c v apart k = both_ways (alike e c) apart (and_from _ _ (eq-eqb _ _ v) (eq-eqb _ _ k))

kept_put : (s : List ℕ) (e c : Atom) → sibling e c ≡ false → holding s c ≡ true → holding (put s e) c ≡ true
kept_put s e c apart h =
    elim (read_set s e.variable e.value c.variable) [
      | inl k ↦ eq-eqb _ _ (k.1 ∙ same_value e c k.0 apart)
      | inr k ↦ rw k h
    ]

made_put : (s : List ℕ) (e c : Atom) → alike e c ≡ false → holding s c ≡ false → holding (put s e) c ≡ false
made_put s e c apart h =
    elim (read_set s e.variable e.value c.variable) [
      | inl k ↦ ne_eqb _ _ (λ q. other_value e c k.0 apart (sym k.1 ∙ q))
      | inr k ↦ rw k h
    ]

comm_put : (s : List ℕ) (e f : Atom) → sibling e f ≡ false → put (put s e) f ≡ put (put s f) e
comm_put s e f apart =
    elim (cases_eq e.variable f.variable) [
      | inl k ↦ (let same = same_value e f k apart in rw (k, same))
      | inr k ↦ set_comm s e.variable f.variable e.value f.value k
    ]

kept_all : (s : List ℕ) (es : List Atom) (c : Atom) → some_atom (λ e. sibling e c) es ≡ false → holding s c ≡ true → holding (assigned s es) c ≡ true
kept_all s [] c apart h = h
kept_all s (e ∷ es) c apart h =
    let k = or_parts (sibling e c) (some_atom (λ e. sibling e c) es) apart in
    kept_all (put s e) es c k.1 (kept_put s e c k.0 h)

made_all : (s : List ℕ) (es : List Atom) (c : Atom) → some_atom (λ e. alike e c) es ≡ false → holding s c ≡ false → holding (assigned s es) c ≡ false
made_all s [] c apart h = h
made_all s (e ∷ es) c apart h =
    let k = or_parts (alike e c) (some_atom (λ e. alike e c) es) apart in
    made_all (put s e) es c k.1 (made_put s e c k.0 h)

comm_one : (s : List ℕ) (es : List Atom) (f : Atom) → some_atom (λ e. sibling e f) es ≡ false → put (assigned s es) f ≡ assigned (put s f) es
comm_one s [] f apart = refl
comm_one s (e ∷ es) f apart =
    let k = or_parts (sibling e f) (some_atom (λ e. sibling e f) es) apart in
    comm_one (put s e) es f k.1 ∙ ap (λ t. assigned t es) (comm_put s e f k.0)

-- a clash read by its second list
clash_cons : (es : List Atom) (c : Atom) (cs : List Atom) → clash es (c ∷ cs) ≡ false → (some_atom (λ e. sibling e c) es ≡ false) × (clash es cs ≡ false)
clash_cons [] c cs h = (refl, refl)
clash_cons (e ∷ es) c cs h =
    let k = or_parts (some_atom (sibling e) (c ∷ cs)) (clash es (c ∷ cs)) h in
    let l = or_parts (sibling e c) (some_atom (sibling e) cs) k.0 in
    let r = clash_cons es c cs k.1 in
    (or_from _ _ l.0 r.0, or_from _ _ l.1 r.1)

comm_all : (s : List ℕ) (es fs : List Atom) → clash es fs ≡ false → assigned (assigned s es) fs ≡ assigned (assigned s fs) es
comm_all s es [] apart = refl
comm_all s es (f ∷ fs) apart =
    let k = clash_cons es f fs apart in
    ap (λ t. assigned t fs) (comm_one s es f k.0) ∙ comm_all (put s f) es fs k.1

kept_met : (s : List ℕ) (es cs : List Atom) → clash es cs ≡ false → met s cs ≡ true → met (assigned s es) cs ≡ true
kept_met s es [] apart h = refl
kept_met s es (c ∷ cs) apart h =
    let k = clash_cons es c cs apart in
    let m = and_parts (holding s c) (met s cs) h in
    and_from _ _ (kept_all s es c k.0 m.0) (kept_met s es cs k.1 m.1)

-- either all hold, or the first that does not is named
pub record Missing (s : List ℕ) (cs : List Atom) : Type 0 where
  pub atom : Atom
  pub is : unmet s cs ≡ Some atom
  pub off : holding s atom ≡ false
  pub among : (t : List ℕ) → met t cs ≡ true → holding t atom ≡ true

pub look : (s : List ℕ) (cs : List Atom) → (met s cs ≡ true) ⊎ Missing s cs
look s [] = inl refl
look s (c ∷ cs) = at (holding s c) refl (look s cs)
  where
    at : (b : Bool) → holding s c ≡ b → (met s cs ≡ true) ⊎ Missing s cs → (met s (c ∷ cs) ≡ true) ⊎ Missing s (c ∷ cs)
    at true e (inl m) = inl (and_from _ _ e m)
    at true e (inr m) = inr (record { atom = m.atom; is = rw e m.is; off = m.off; among = λ t k. m.among t (and_parts (holding t c) (met t cs) k).1 })
    at false e m = inr (record { atom = c; is = rw e; off = e; among = λ t k. (and_parts (holding t c) (met t cs) k).0 })

-- tests that imply one another, the other way round
contra : (x y : Bool) → y ≡ false → (x ≡ true → y ≡ true) → x ≡ false
contra true y e f = sym (f refl) ∙ e
contra false y e f = refl

all_contra : (f g : ℕ → Bool) (plan : List ℕ) → ((i : ℕ) → f i ≡ true → g i ≡ true) → AllByRecursion (λ k. g k ≡ false) plan → AllByRecursion (λ k. f k ≡ false) plan
all_contra f g [] h a = tt
all_contra f g (k ∷ plan) h a = (contra (f k) (g k) a.0 (h k), all_contra f g plan h a.1)

-- the first action of a plan that lies in a set
record First (member : ℕ → Bool) (plan : List ℕ) : Type 0 where
  front : List ℕ
  first : ℕ
  back : List ℕ
  is : plan ≡ front ++ first ∷ back
  outside : AllByRecursion (λ k. member k ≡ false) front
  inside : member first ≡ true

split : (member : ℕ → Bool) (plan : List ℕ) → AllByRecursion (λ k. member k ≡ false) plan ⊎ First member plan
split member [] = inl tt
split member (a ∷ plan) = at (member a) refl (split member plan)
  where
    at : (b : Bool) → member a ≡ b → AllByRecursion (λ k. member k ≡ false) plan ⊎ First member plan → AllByRecursion (λ k. member k ≡ false) (a ∷ plan) ⊎ First member (a ∷ plan)
    at true e r = inr (record { front = []; first = a; back = plan; is = refl; outside = tt; inside = e })
    at false e (inl h) = inl (e, h)
    at false e (inr r) = inr (record { front = a ∷ r.front; first = r.first; back = r.back; is = ap (λ p. a ∷ p) r.is; outside = (e, r.outside); inside = r.inside })

module _ (b : Bench) where
  abbrev W : World (List ℕ)
  W = world b

  abbrev end : List ℕ → List ℕ → List ℕ
  end s [] = s
  end s (k ∷ plan) = end (W.next s k) plan

  -- an atom that no action achieves stays off
  never_made : (s : List ℕ) (plan : List ℕ) (c : Atom) → AllByRecursion (λ k. achieving (act b k) c ≡ false) plan → holding s c ≡ false → holding (end s plan) c ≡ false
  never_made s [] c a h = h
  never_made s (k ∷ plan) c a h = never_made (W.next s k) plan c a.1 (made_all s (act b k).effects c a.0 h)

  plan_end : (s : List ℕ) (plan : List ℕ) → Plan W s plan → met (end s plan) b.goal ≡ true
  plan_end s [] p = p
  plan_end s (k ∷ plan) p = plan_end (W.next s k) plan p.1

  plan_at : (s : List ℕ) (front : List ℕ) (a : ℕ) (back : List ℕ) → Plan W s (front ++ a ∷ back) → W.can (end s front) a ≡ true
  plan_at s [] a back p = p.0
  plan_at s (k ∷ front) a back p = plan_at (W.next s k) front a back p.1

  -- an action that none before it interferes with, taken first
  move : (s : List ℕ) (front : List ℕ) (a : ℕ) (back : List ℕ) → W.can s a ≡ true → AllByRecursion (λ k. interfering (act b k) (act b a) ≡ false) front → Plan W s (front ++ a ∷ back) → Plan W s (a ∷ (front ++ back))
  move s [] a back can apart p = p
  move s (k ∷ front) a back can apart p =
      let A = act b a in
      let K = act b k in
      let one = or_parts (clash K.effects A.conditions) (clash K.effects A.effects || clash A.effects K.conditions) apart.0 in
      let two = or_parts (clash K.effects A.effects) (clash A.effects K.conditions) one.1 in
      let ca = and_parts (nat_lt a (length b.actions)) (met s A.conditions) can in
      let ck = and_parts (nat_lt k (length b.actions)) (met s K.conditions) p.0 in
      let ih = move (W.next s k) front a back (and_from _ _ ca.0 (kept_met s K.effects A.conditions one.0 ca.1)) apart.1 p.1 in
      (can, (and_from _ _ ck.0 (kept_met s A.effects K.conditions two.1 ck.1), subst (λ u. Plan W u (front ++ back)) (comm_all s K.effects A.effects two.0) ih.1))

  module _ (s : List ℕ) (member : ℕ → Bool) (closed : Closed b s member) where
    -- a plan from a setting that is no goal setting has an action of the set
    some_inside : met s b.goal ≡ false → (plan : List ℕ) → Plan W s plan → AllByRecursion (λ k. member k ≡ false) plan → ⊥
    some_inside off plan p out = elim (look s b.goal) [ inl m ↦ both_ways _ off m | inr m ↦ missing m ]
      where
        missing : Missing s b.goal → ⊥
        missing m =
            both_ways _
            (never_made s plan m.atom (all_contra (λ k. achieving (act b k) m.atom) member plan (closed.goals m.atom m.is) out) m.off)
            (m.among (end s plan) (plan_end s plan p))

    -- the first of them is applicable at once
    ready : (front : List ℕ) (a : ℕ) (back : List ℕ) → AllByRecursion (λ k. member k ≡ false) front → member a ≡ true → Plan W s (front ++ a ∷ back) → met s (act b a).conditions ≡ true
    ready front a back out ins p = elim (look s (act b a).conditions) [ inl m ↦ m | inr m ↦ absurd (missing m) ]
      where
        missing : Missing s (act b a).conditions → ⊥
        missing m =
            both_ways _
            (never_made s front m.atom (all_contra (λ k. achieving (act b k) m.atom) member front (closed.enablers a ins m.atom m.is) out) m.off)
            (m.among (end s front) (and_parts (nat_lt a (length b.actions)) _ (plan_at s front a back p)).1)

    pub closed_begins : W.goal s ≡ false → (plan : List ℕ) → Plan W s plan → Begun W member s plan
    closed_begins off plan p = elim (split member plan) [ inl out ↦ absurd (some_inside off plan p out) | inr f ↦ go f ]
      where
        go : First member plan → Begun W member s plan
        go f =
            let q = subst (λ r. Plan W s r) f.is p in
            let m = ready f.front f.first f.back f.outside f.inside q in
            let can = and_from _ _ (and_parts (nat_lt f.first (length b.actions)) _ (plan_at s f.front f.first f.back q)).0 m in
            record {
              first = f.first;
              rest = f.front ++ f.back;
              same = subst (λ r. Permᴰ r (f.first ∷ (f.front ++ f.back))) (sym f.is) (Permᴰ.middle f.first f.front f.back);
              is_marked = f.inside;
              is_plan = move s f.front f.first f.back can (all_contra (λ k. interfering (act b k) (act b f.first)) member f.front (closed.interferers f.first f.inside m) f.outside) q;
            }
