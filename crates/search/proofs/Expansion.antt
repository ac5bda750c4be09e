-- One expansion keeps what the search knows of its rows.
use Rattle.std.proofs.Common.{◌≡◌, ℕ, suc, ◌<◌, Bool, true, false, cond, ◌≢◌, ◌⊎◌, List, [], length, set, sym, refl, ap, ◌∙◌, subst, inl, inr, arith, length-set, get_or-set_same}
use Rattle.std.proofs.lemmas.Bool.{cases_eq}
use Rattle.task.specs.Benches.{Plan}
use Rattle.rules.specs.Marks.{Begun}
use Rattle.search.specs.declared.data.Row.{Row}
use Rattle.search.specs.Rows.{Swept, on, over, shut, shuts, blank}
use Rattle.search.specs.Steps.{Problem, row_at, expand, first_rows}
use Rattle.search.proofs.Sums.{never, le_refl}
use Rattle.search.proofs.Traces.{Wider, root, Keeps, keeps_refl, traced_kept}
use Rattle.search.proofs.RowFacts.{IsLeast, shuts_set}
use Rattle.search.proofs.Invariant.{Sane, Inv, Covers, Followed, Spread, Going, Overfull, Fine, sweep_fine, set_cases}

module _ {C : Type 0} (P : Problem C) (Proper : List ℕ → Type 0) where
  -- a rule that loses no plan
  abbrev pub Guides : (List ℕ → ℕ → Bool) → Type 0
  Guides marks = (s : List ℕ) → Proper s → P.world.goal s ≡ false → (plan : List ℕ) → Plan P.world s plan → Begun P.world (marks s) s plan

  -- what holds between two expansions, of which there have been n; each action of a trace is marked by `some`, and
  -- all that `every` marks was followed
  pub record Known (some every : List ℕ → ℕ → Bool) (n : ℕ) (rows : List (Row C)) : Type 0 where
    pub level : C
    pub inv : Inv P Proper some rows level
    pub spread : Spread P Proper every rows (λ k. Unit {0})
    pub shut_are : shuts rows ≡ n

  abbrev pub Result : (some every : List ℕ → ℕ → Bool) → ℕ → Swept C → Type 0
  Result some every n (on rows) = Known some every n rows
  Result some every n (over rows) = Overfull P Proper some n rows

  -- one rule more
  pub known_wider : {some every some' every' : List ℕ → ℕ → Bool} {n : ℕ} {rows : List (Row C)} → Wider some some' → Wider every' every → Known some every n rows → Known some' every' n rows
  known_wider {some} {every} {some'} {every'} {n} {rows} w w' k = let v = k.inv in record {
    level = k.level;
    inv = record {
      some_row = v.some_row;
      root_setting = v.root_setting;
      root_charge = v.root_charge;
      fits = v.fits;
      proper = v.proper;
      apart = v.apart;
      within = v.within;
      traced = λ j l. let t = v.traced j l in record { path = t.path; along = traced_kept P w (keeps_refl P rows) refl t.along; short = t.short };
      shut_below = v.shut_below;
      open_above = v.open_above;
      shut_goal = v.shut_goal;
    };
    spread = λ j l e d. let f = k.spread j l e d in record { marks = f.marks; law = f.law; wide = λ a m. f.wide a (w' (row_at P rows j).setting a m); covers = f.covers };
    shut_are = k.shut_are;
  }

  module _ (some every : List ℕ → ℕ → Bool) (n : ℕ) (rows : List (Row C)) (i : ℕ) (known : Known some every n rows) (best : IsLeast P.charges rows i) (off : P.world.goal (row_at P rows i).setting ≡ false) (marks : ℕ → Bool) where
    -- the rows with row i closed
    abbrev rows₀ : List (Row C)
    rows₀ = set rows i (shut (row_at P rows i))

    at : (k : ℕ) → ((k ≡ i) × (row_at P rows₀ k ≡ shut (row_at P rows i))) ⊎ ((k ≢ i) × (row_at P rows₀ k ≡ row_at P rows k))
    at k = set_cases P Proper rows i (shut (row_at P rows i)) k best.low

    like : (k : ℕ) → shut (row_at P rows₀ k) ≡ shut (row_at P rows k)
    like k = elim (at k) [ inl q ↦ ap shut q.1 ∙ ap (λ j. shut (row_at P rows j)) (sym q.0) | inr q ↦ ap shut q.1 ]

    like_setting : (k : ℕ) → (row_at P rows₀ k).setting ≡ (row_at P rows k).setting
    like_setting k = ap (λ r. r.setting) (like k)

    like_charge : (k : ℕ) → (row_at P rows₀ k).charge ≡ (row_at P rows k).charge
    like_charge k = ap (λ r. r.charge) (like k)

    len : length rows₀ ≡ length rows
    len = length-set rows i (shut (row_at P rows i))

    low₀ : {k : ℕ} → k < length rows₀ → k < length rows
    low₀ l = omega (arith, len)

    keeps : Keeps P rows rows₀
    keeps = record {
      longer = omega (arith, len);
      closed = λ k l e. elim (at k) [ inl q ↦ absurd (never (rw q.0 at e) best.waits) | inr q ↦ q.1 ];
    }

    more : shuts rows₀ ≡ suc n
    more = let x = known.shut_are in let y = ap {B = ℕ} (λ b. cond b 1 0) best.waits in omega (arith, shuts_set rows i (shut (row_at P rows i)) (blank P.charges.zero P.charges.le) best.low)

    -- a closed row is row i, or was closed
    which : (k : ℕ) → (row_at P rows₀ k).closed ≡ true → (k ≡ i) ⊎ ((row_at P rows k).closed ≡ true)
    which k e = elim (at k) [ inl q ↦ inl q.0 | inr q ↦ inr (sym (ap (λ r. r.closed) q.1) ∙ e) ]

    inv₀ : Inv P Proper some rows₀ (row_at P rows i).charge
    inv₀ = let v = known.inv in record {
      some_row = omega (arith, len, v.some_row);
      root_setting = like_setting 0 ∙ v.root_setting;
      root_charge = like_charge 0 ∙ v.root_charge;
      fits = omega (arith, len, v.fits);
      proper = λ k l. subst Proper (sym (like_setting k)) (v.proper k (low₀ l));
      apart = λ j k lj lk e. v.apart j k (low₀ lj) (low₀ lk) (sym (like_setting j) ∙ e ∙ like_setting k);
      within = λ k l. rw (like_charge k) (v.within k (low₀ l));
      traced = λ k l.
          let t = v.traced k (low₀ l) in
          record { path = t.path; along = traced_kept P (λ s a e. e) keeps (like k) t.along; short = omega (arith, more, known.shut_are, t.short) };
      shut_below = λ k l e.
          rw (like_charge k)
          (elim (which k e)
          [ inl q ↦ rw q (le_refl P.charges _) | inr q ↦ P.charges.le_trans _ _ _ (v.shut_below k (low₀ l) q) (v.open_above i best.low best.waits) ]);
      open_above = λ k l e.
          rw (like_charge k) (elim (at k) [ inl q ↦ absurd (never (ap (λ r. r.closed) q.1) e) | inr q ↦ best.least' k (low₀ l) (sym (ap (λ r. r.closed) q.1) ∙ e) ]);
      shut_goal = λ k l e. rw (like_setting k) (elim (which k e) [ inl q ↦ rw q off | inr q ↦ v.shut_goal k (low₀ l) q ]);
    }

    covers₀ : {t : List ℕ} {d : C} → Covers P Proper rows t d → Covers P Proper rows₀ t d
    covers₀ c = record { at = c.at; low = omega (arith, len, c.low); is = like_setting c.at ∙ c.is; cheap = rw (like_charge c.at) c.cheap }

    followed₀ : {s : List ℕ} {c : C} → Followed P Proper every rows s c → Followed P Proper every rows₀ s c
    followed₀ f = record { marks = f.marks; law = f.law; wide = f.wide; covers = λ a m k w. covers₀ (f.covers a m k w) }

    going₀ : Going P Proper some every i (row_at P rows i).setting (row_at P rows i).charge (suc n) marks 0 rows₀
    going₀ = let t = known.inv.traced i best.low in record {
      inv = inv₀;
      spread = λ k l e d.
          elim (at k) [
            | inl q ↦ absurd (d q.0)
            | inr q ↦ subst (λ r. Followed P Proper every rows₀ r.setting r.charge) (sym q.1) (followed₀ (known.spread k (low₀ l) (sym (ap (λ r. r.closed) q.1) ∙ e) tt))
          ];
      begun = λ x l. absurd (omega arith);
      source = record {
        low = omega (arith, len, best.low);
        from = shut (row_at P rows i);
        is = get_or-set_same rows i (shut (row_at P rows i)) _ best.low;
        from_setting = refl;
        from_charge = refl;
        closed = refl;
        path = t.path;
        along = traced_kept P (λ s a e. e) keeps (like i) t.along;
        short = omega (arith, more, known.shut_are, t.short);
      };
      shut_are = more;
    }

  done : (some every : List ℕ → ℕ → Bool) (i : ℕ) (s : List ℕ) (c : C) (n : ℕ) (marks : ℕ → Bool) → Sane P Proper
      → ((plan : List ℕ) → Plan P.world s plan → Begun P.world marks s plan) → ((a : ℕ) → every s a ≡ true → marks a ≡ true)
      → (w : Swept C) → Fine P Proper some every i s c n marks P.count w → Result some every n w
  done some every i s c n marks sane law wide (on rows) g = record {
    level = c;
    inv = g.inv;
    spread = λ k l e _. elim (cases_eq k i) [ inl q ↦ subst (λ r. Followed P Proper every rows r.setting r.charge) (sym g.source.is ∙ ap (row_at P rows) (sym q)) here | inr q ↦ g.spread k l e q ];
    shut_are = g.shut_are;
  }
    where
      here : Followed P Proper every rows g.source.from.setting g.source.from.charge
      here =
          rw (g.source.from_setting, g.source.from_charge)
          (record { marks = marks; law = law; wide = wide; covers = λ a m k w. g.begun a (sane.numbered s a k) m k w })
  done some every i s c n marks sane law wide (over rows) o = o

  pub expand_keeps : (some every marks : List ℕ → ℕ → Bool) → Sane P Proper → Guides marks → Wider marks some → Wider every marks → (n : ℕ) (rows : List (Row C)) (i : ℕ) → Known some every n rows → IsLeast P.charges rows i
      → P.world.goal (row_at P rows i).setting ≡ false → Result some every (suc n) (expand P marks rows i)
  expand_keeps some every marks sane guides w w' n rows i known best off =
      let s = (row_at P rows i).setting in
      let c = (row_at P rows i).charge in
      let proper = known.inv.proper i best.low in
      done some every i s c (suc n) (marks s) sane (guides s proper off) (w' s) (expand P marks rows i)
      (sweep_fine P Proper some every i s c (suc n) (marks s) sane proper (w s) (rows₀ some every n rows i known best off (marks s)) (going₀ some every n rows i known best off (marks s)) P.count)

  -- a search that has only begun
  pub first_known : (some every : List ℕ → ℕ → Bool) → Sane P Proper → Known some every 0 (first_rows P)
  first_known some every sane =
      let only : (k : ℕ) → k < 1 → k ≡ 0 = λ k l. omega arith in
      record {
        level = P.charges.zero;
        inv = record {
          some_row = omega arith;
          root_setting = refl;
          root_charge = refl;
          fits = sane.room;
          proper = λ k l. rw (only k l) sane.starts;
          apart = λ j k lj lk e. omega arith;
          within = λ k l. rw (only k l) (P.charges.zero_le _);
          traced = λ k l. rw (only k l) (record { path = []; along = root; short = omega arith });
          shut_below = λ k l e. absurd (never e (rw (only k l)));
          open_above = λ k l e. P.charges.zero_le _;
          shut_goal = λ k l e. absurd (never e (rw (only k l)));
        };
        spread = λ k l e. absurd (never e (rw (only k l)));
        shut_are = refl;
      }
