-- What the rows of a search keep, and that each action of an expansion keeps it.
use Rattle.std.proofs.Common.{◌≡◌, ℕ, zero, suc, ◌+◌, ◌<◌, ◌≤◌, Bool, true, false, cond, ◌&&◌, ltb, ◌≢◌, ◌⊎◌, List, [], ◌∷◌, ◌++◌, length, set, sym, refl, ap, ◌∙◌, subst, inl, inr, arith, length-set, get_or-set_other, get_or-set_same}
use Rattle.std.proofs.lemmas.List.{get_or_append_left, get_or_push, length_push}
use Rattle.std.proofs.lemmas.Bool.{and_parts, and_from, cases_Bool, cases_eq, cases_lt, ltb-true, ltb-false}
use Rattle.task.specs.Benches.{Plan}
use Rattle.rules.specs.Marks.{Begun}
use Rattle.search.specs.declared.data.Row.{Row}
use Rattle.search.specs.Rows.{Swept, on, over, shut, shuts, seek, blank, lowered, settled, place}
use Rattle.search.specs.Steps.{Problem, cost, row_at, reach, relaxed, onward, sweep}
use Rattle.search.proofs.Sums.{never, le_refl, not_le, le_plus_more}
use Rattle.search.proofs.Traces.{Wider, Hop, Traced, root, hop, Keeps, hop_kept, traced_kept}
use Rattle.search.proofs.RowFacts.{shuts_set, shuts_push, seek_found, seek_past}

same_marks : (marks : List ℕ → ℕ → Bool) → Wider marks marks
same_marks marks s a e = e

module _ {C : Type 0} (P : Problem C) (Proper : List ℕ → Type 0) where
  abbrev le : C → C → Bool
  le = P.charges.le

  -- what a search takes for granted of its parts
  pub record Sane : Type 0 where
    pub numbered : (s : List ℕ) (a : ℕ) → P.world.can s a ≡ true → a < P.count
    pub room : 0 < P.quest.capacity
    pub starts : Proper P.quest.start
    pub moves : (s : List ℕ) (a : ℕ) → Proper s → P.world.can s a ≡ true → Proper (P.world.next s a)

  pub record Trace (some : List ℕ → ℕ → Bool) (rows : List (Row C)) (k : ℕ) : Type 0 where
    pub path : List ℕ
    pub along : Traced P some rows k path
    pub short : length path ≤ shuts rows

  -- row 0 is the start at zero; no two rows share a setting; charges are within the bound; each row is traced
  -- back to row 0; closed ≤ level ≤ open; no closed row is a goal row
  pub record Inv (some : List ℕ → ℕ → Bool) (rows : List (Row C)) (level : C) : Type 0 where
    pub some_row : 0 < length rows
    pub root_setting : (row_at P rows 0).setting ≡ P.quest.start
    pub root_charge : (row_at P rows 0).charge ≡ P.charges.zero
    pub fits : length rows ≤ P.quest.capacity
    pub proper : (k : ℕ) → k < length rows → Proper (row_at P rows k).setting
    pub apart : (j k : ℕ) → j < length rows → k < length rows → (row_at P rows j).setting ≡ (row_at P rows k).setting → j ≡ k
    pub within : (k : ℕ) → k < length rows → le (row_at P rows k).charge P.quest.bound ≡ true
    pub traced : (k : ℕ) → k < length rows → Trace some rows k
    pub shut_below : (k : ℕ) → k < length rows → (row_at P rows k).closed ≡ true → le (row_at P rows k).charge level ≡ true
    pub open_above : (k : ℕ) → k < length rows → (row_at P rows k).closed ≡ false → le level (row_at P rows k).charge ≡ true
    pub shut_goal : (k : ℕ) → k < length rows → (row_at P rows k).closed ≡ true → P.world.goal (row_at P rows k).setting ≡ false

  -- a row has the setting at no more than the charge
  pub record Covers (rows : List (Row C)) (t : List ℕ) (d : C) : Type 0 where
    pub at : ℕ
    pub low : at < length rows
    pub is : (row_at P rows at).setting ≡ t
    pub cheap : le (row_at P rows at).charge d ≡ true

  -- all that a lawful rule offers in a setting at a charge, within the bound, is covered
  pub record Followed (every : List ℕ → ℕ → Bool) (rows : List (Row C)) (s : List ℕ) (c : C) : Type 0 where
    pub marks : ℕ → Bool
    pub law : (plan : List ℕ) → Plan P.world s plan → Begun P.world marks s plan
    pub wide : (a : ℕ) → every s a ≡ true → marks a ≡ true
    pub covers : (a : ℕ) → marks a ≡ true → P.world.can s a ≡ true → le (P.charges.plus c (cost P a)) P.quest.bound ≡ true → Covers rows (P.world.next s a) (P.charges.plus c (cost P a))

  -- of each closed row that is due, some lawful rule was followed
  abbrev pub Spread : (List ℕ → ℕ → Bool) → List (Row C) → (ℕ → Type 0) → Type 0
  Spread every rows due = (k : ℕ) → k < length rows → (row_at P rows k).closed ≡ true → due k → Followed every rows (row_at P rows k).setting (row_at P rows k).charge

  -- the rows after a row was lowered or pushed
  pub record Grown (rows rows' : List (Row C)) (new : Row C) : Type 0 where
    pub keeps : Keeps P rows rows'
    pub each : (k : ℕ) → k < length rows' → (row_at P rows' k ≡ new) ⊎ ((k < length rows) × (row_at P rows' k ≡ row_at P rows k))
    pub stays : (k : ℕ) → k < length rows → (row_at P rows' k).setting ≡ (row_at P rows k).setting
    pub lowers : (k : ℕ) → k < length rows → le (row_at P rows' k).charge (row_at P rows k).charge ≡ true
    pub shuts_same : shuts rows' ≡ shuts rows
    pub waits : new.closed ≡ false

  covers_grown : {rows rows' : List (Row C)} {new : Row C} {t : List ℕ} {d : C} → Grown rows rows' new → Covers rows t d → Covers rows' t d
  covers_grown g c = record {
    at = c.at;
    low = omega (arith, g.keeps.longer, c.low);
    is = g.stays c.at c.low ∙ c.is;
    cheap = P.charges.le_trans _ _ _ (g.lowers c.at c.low) c.cheap;
  }

  followed_grown : {every : List ℕ → ℕ → Bool} {rows rows' : List (Row C)} {new : Row C} {s : List ℕ} {c : C} → Grown rows rows' new → Followed every rows s c → Followed every rows' s c
  followed_grown g f = record { marks = f.marks; law = f.law; wide = f.wide; covers = λ a m k w. covers_grown g (f.covers a m k w) }

  -- a closed row of the new rows is one of the old
  old_shut : {rows rows' : List (Row C)} {new : Row C} → Grown rows rows' new → (k : ℕ) → k < length rows' → (row_at P rows' k).closed ≡ true → (k < length rows) × (row_at P rows' k ≡ row_at P rows k)
  old_shut g k l e = elim (g.each k l) [ inl q ↦ absurd (never e (ap (λ r. r.closed) q ∙ g.waits)) | inr q ↦ q ]

  spread_grown : {every : List ℕ → ℕ → Bool} {rows rows' : List (Row C)} {new : Row C} (due : ℕ → Type 0) → Grown rows rows' new → Spread every rows due → Spread every rows' due
  spread_grown {every} {rows} {rows'} due g sp k l e d =
      let o = old_shut g k l e in
      let q = o.1 in
      subst (λ r. Followed every rows' r.setting r.charge) (sym q) (followed_grown g (sp k o.0 (sym (ap (λ r. r.closed) q) ∙ e) d))

  -- where an expansion goes out from
  pub record Source (some : List ℕ → ℕ → Bool) (rows : List (Row C)) (i : ℕ) (s : List ℕ) (c : C) : Type 0 where
    pub low : i < length rows
    pub from : Row C
    pub is : row_at P rows i ≡ from
    pub from_setting : from.setting ≡ s
    pub from_charge : from.charge ≡ c
    pub closed : from.closed ≡ true
    pub path : List ℕ
    pub along : Traced P some rows i path
    pub short : length path < shuts rows

  source_grown : {some : List ℕ → ℕ → Bool} {rows rows' : List (Row C)} {new : Row C} {i : ℕ} {s : List ℕ} {c : C} → Grown rows rows' new → Source some rows i s c → Source some rows' i s c
  source_grown {some} {rows} {rows'} {new} {i} g o =
      let e = g.keeps.closed i o.low (ap (λ r. r.closed) o.is ∙ o.closed) in
      record {
        low = omega (arith, g.keeps.longer, o.low);
        from = o.from;
        is = e ∙ o.is;
        from_setting = o.from_setting;
        from_charge = o.from_charge;
        closed = o.closed;
        path = o.path;
        along = traced_kept P (same_marks some) g.keeps (ap shut e) o.along;
        short = rw g.shuts_same o.short;
      }

  -- what a new row brings
  pub record Fresh (some : List ℕ → ℕ → Bool) (rows : List (Row C)) (level : C) (new : Row C) : Type 0 where
    pub comes : Hop P some rows new
    pub path : List ℕ
    pub along : Traced P some rows new.origin path
    pub short : length path < shuts rows
    pub above : le level new.charge ≡ true
    pub within : le new.charge P.quest.bound ≡ true
    pub proper : Proper new.setting

  trace_grown : {some : List ℕ → ℕ → Bool} {rows rows' : List (Row C)} {new : Row C} {level : C} → Grown rows rows' new → Inv some rows level → Fresh some rows level new → (k : ℕ) → k < length rows' → Trace some rows' k
  trace_grown g v f zero l = record { path = []; along = root; short = omega arith }
  trace_grown {some} {rows} {rows'} {new} g v f (suc k) l = elim (g.each (suc k) l) [ inl q ↦ fresh q | inr q ↦ old q ]
    where
      fresh : row_at P rows' (suc k) ≡ new → Trace some rows' (suc k)
      fresh q = record {
        path = f.path ++ new.action ∷ [];
        along =
            hop new (omega arith) (ap shut q) (hop_kept P (same_marks some) g.keeps f.comes)
            (traced_kept P (same_marks some) g.keeps (ap shut (g.keeps.closed new.origin f.comes.low (ap (λ r. r.closed) f.comes.from_is ∙ f.comes.closed))) f.along);
        short = omega (arith, length_push f.path new.action, f.short, g.shuts_same);
      }

      old : (suc k < length rows) × (row_at P rows' (suc k) ≡ row_at P rows (suc k)) → Trace some rows' (suc k)
      old q =
          let o = v.traced (suc k) q.0 in
          record { path = o.path; along = traced_kept P (same_marks some) g.keeps (ap shut q.1) o.along; short = omega (arith, o.short, g.shuts_same) }

  inv_grown : {some : List ℕ → ℕ → Bool} {rows rows' : List (Row C)} {new : Row C} {level : C} → Grown rows rows' new → Inv some rows level → Fresh some rows level new → length rows' ≤ P.quest.capacity
      → ((j k : ℕ) → j < length rows' → k < length rows' → (row_at P rows' j).setting ≡ (row_at P rows' k).setting → j ≡ k) → Inv some rows' level
  inv_grown {some} {rows} {rows'} {new} {level} g v f fits apart = record {
    some_row = omega (arith, v.some_row, g.keeps.longer);
    root_setting = g.stays 0 v.some_row ∙ v.root_setting;
    root_charge = P.charges.le_antisym _ _ (rw v.root_charge at (g.lowers 0 v.some_row)) (P.charges.zero_le _);
    fits = fits;
    proper = λ k l. elim (g.each k l) [ inl q ↦ subst (λ r. Proper r.setting) (sym q) f.proper | inr q ↦ subst (λ r. Proper r.setting) (sym q.1) (v.proper k q.0) ];
    apart = apart;
    within = λ k l. elim (g.each k l) [ inl q ↦ rw q f.within | inr q ↦ rw q.1 (v.within k q.0) ];
    traced = trace_grown g v f;
    shut_below = λ k l e. let o = old_shut g k l e in rw o.1 (v.shut_below k o.0 (rw o.1 at e));
    open_above = λ k l e. elim (g.each k l) [ inl q ↦ rw q f.above | inr q ↦ rw q.1 (v.open_above k q.0 (rw q.1 at e)) ];
    shut_goal = λ k l e. let o = old_shut g k l e in rw o.1 (v.shut_goal k o.0 (rw o.1 at e));
  }

  -- a row lowered
  lowered_is : (r new : Row C) → r.setting ≡ new.setting → r.closed ≡ new.closed → lowered r new ≡ new
  lowered_is r new e q = λ i. record { setting = e i; charge = new.charge; closed = q i; origin = new.origin; action = new.action }

  pub set_cases : (rows : List (Row C)) (j : ℕ) (x : Row C) (k : ℕ) → j < length rows → ((k ≡ j) × (row_at P (set rows j x) k ≡ x)) ⊎ ((k ≢ j) × (row_at P (set rows j x) k ≡ row_at P rows k))
  set_cases rows j x k low = elim (cases_eq k j) [ inl e ↦ inl (e, rw e (get_or-set_same rows j x _ low)) | inr d ↦ inr (d, get_or-set_other rows j k x _ d) ]

  push_cases : (rows : List (Row C)) (x : Row C) (k : ℕ) → k < length (rows ++ x ∷ []) → (row_at P (rows ++ x ∷ []) k ≡ x) ⊎ ((k < length rows) × (row_at P (rows ++ x ∷ []) k ≡ row_at P rows k))
  push_cases rows x k l =
      elim (cases_lt k (length rows)) [ inl q ↦ inr (q, get_or_append_left rows (x ∷ []) _ k q) | inr q ↦ inl (get_or_push rows x _ k (omega (arith, length_push rows x))) ]

  replaced_grown : (rows : List (Row C)) (j : ℕ) (new : Row C) → j < length rows → (row_at P rows j).setting ≡ new.setting → (row_at P rows j).closed ≡ false → new.closed ≡ false → le new.charge (row_at P rows j).charge ≡ true
      → Grown rows (set rows j new) new
  replaced_grown rows j new low same waits live cheap = record {
    keeps = record {
      longer = omega (arith, length-set rows j new);
      closed = λ k l e. elim (set_cases rows j new k low) [ inl q ↦ absurd (never (rw q.0 at e) waits) | inr q ↦ q.1 ];
    };
    each = λ k l. elim (set_cases rows j new k low) [ inl q ↦ inl q.1 | inr q ↦ inr (omega (arith, l, length-set rows j new), q.1) ];
    stays = λ k l. elim (set_cases rows j new k low) [ inl q ↦ ap (λ r. r.setting) q.1 ∙ sym same ∙ ap (λ m. (row_at P rows m).setting) (sym q.0) | inr q ↦ ap (λ r. r.setting) q.1 ];
    lowers = λ k l. elim (set_cases rows j new k low) [ inl q ↦ rw q.1 (rw q.0 cheap) | inr q ↦ rw q.1 (le_refl P.charges _) ];
    shuts_same = omega (arith, shuts_set rows j new (blank P.charges.zero le) low, ap {B = ℕ} (λ b. cond b 1 0) (waits ∙ sym live));
    waits = live;
  }

  pushed_grown : (rows : List (Row C)) (new : Row C) → new.closed ≡ false → Grown rows (rows ++ new ∷ []) new
  pushed_grown rows new live = record {
    keeps = record { longer = omega (arith, length_push rows new); closed = λ k l e. get_or_append_left rows (new ∷ []) _ k l };
    each = push_cases rows new;
    stays = λ k l. ap (λ r. r.setting) (get_or_append_left rows (new ∷ []) _ k l);
    lowers = λ k l. rw (get_or_append_left rows (new ∷ []) _ k l) (le_refl P.charges _);
    shuts_same = shuts_push rows new live;
    waits = live;
  }

  -- more settings than there is room for
  pub record Overfull (some : List ℕ → ℕ → Bool) (n : ℕ) (rows : List (Row C)) : Type 0 where
    pub level : C
    pub inv : Inv some rows level
    pub no_room : P.quest.capacity ≤ length rows
    pub extra : Row C
    pub missing : (k : ℕ) → k < length rows → (row_at P rows k).setting ≡ extra.setting → ⊥
    pub comes : Hop P some rows extra
    pub within : le extra.charge P.quest.bound ≡ true
    pub shut_are : shuts rows ≡ n

  -- an expansion of row i, with setting s and charge c, under some marks, with n rows closed
  module _ (some every : List ℕ → ℕ → Bool) (i : ℕ) (s : List ℕ) (c : C) (n : ℕ) (marks : ℕ → Bool) where
    abbrev Covered : List (Row C) → ℕ → Type 0
    Covered rows a = marks a ≡ true → P.world.can s a ≡ true → le (P.charges.plus c (cost P a)) P.quest.bound ≡ true → Covers rows (P.world.next s a) (P.charges.plus c (cost P a))

    -- the actions below a are done
    pub record Going (a : ℕ) (rows : List (Row C)) : Type 0 where
      pub inv : Inv some rows c
      pub spread : Spread every rows (λ k. k ≢ i)
      pub begun : (x : ℕ) → x < a → Covered rows x
      pub source : Source some rows i s c
      pub shut_are : shuts rows ≡ n

    abbrev pub Fine : ℕ → Swept C → Type 0
    Fine a (on rows) = Going a rows
    Fine a (over rows) = Overfull some n rows

    below_suc : {rows : List (Row C)} (a : ℕ) → ((x : ℕ) → x < a → Covered rows x) → Covered rows a → (x : ℕ) → x < suc a → Covered rows x
    below_suc {rows} a h here x l = elim (cases_eq x a) [ inl e ↦ subst (Covered rows) (sym e) here | inr d ↦ h x (omega arith) ]

    module _ (sane : Sane) (proper : Proper s) (wider : (a : ℕ) → marks a ≡ true → some s a ≡ true) where
      fresh_of : (a : ℕ) (rows : List (Row C)) → marks a ≡ true → P.world.can s a ≡ true → Source some rows i s c → le (P.charges.plus c (cost P a)) P.quest.bound ≡ true → Fresh some rows c (reach P i s c a)
      fresh_of a rows m k o w = record {
        comes = record {
          low = o.low;
          from = o.from;
          from_is = o.is;
          closed = o.closed;
          is = rw o.from_setting;
          marked = rw o.from_setting (wider a m);
          can = rw o.from_setting k;
          adds = rw o.from_charge;
        };
        path = o.path;
        along = o.along;
        short = o.short;
        above = le_plus_more P.charges c (cost P a);
        within = w;
        proper = sane.moves s a proper k;
      }

      grown_going : (a : ℕ) {rows rows' : List (Row C)} → Grown rows rows' (reach P i s c a) → Going a rows → Fresh some rows c (reach P i s c a) → length rows' ≤ P.quest.capacity
          → ((j k : ℕ) → j < length rows' → k < length rows' → (row_at P rows' j).setting ≡ (row_at P rows' k).setting → j ≡ k)
          → (j : ℕ) → j < length rows' → row_at P rows' j ≡ reach P i s c a → Going (suc a) rows'
      grown_going a {rows} {rows'} g v f fits apart j low is = record {
        inv = inv_grown g v.inv f fits apart;
        spread = spread_grown (λ k. k ≢ i) g v.spread;
        begun = below_suc a (λ x l m k w. covers_grown g (v.begun x l m k w)) (λ _ _ _. record { at = j; low = low; is = ap (λ r. r.setting) is; cheap = rw is (le_refl P.charges _) });
        source = source_grown g v.source;
        shut_are = g.shuts_same ∙ v.shut_are;
      }

      same_going : (a : ℕ) {rows : List (Row C)} → Going a rows → Covered rows a → Going (suc a) rows
      same_going a v h = record { inv = v.inv; spread = v.spread; begun = below_suc a v.begun h; source = v.source; shut_are = v.shut_are }

      lowered_going : (a : ℕ) (rows : List (Row C)) (j : ℕ) → Going a rows → Fresh some rows c (reach P i s c a) → j < length rows → (row_at P rows j).setting ≡ P.world.next s a
          → le (row_at P rows j).charge (P.charges.plus c (cost P a)) ≡ false → Going (suc a) (set rows j (lowered (row_at P rows j) (reach P i s c a)))
      lowered_going a rows j v f low is dear =
          let waits : (row_at P rows j).closed ≡ false =
          elim (cases_Bool (row_at P rows j).closed)
          [ inl e ↦ absurd (never (P.charges.le_trans _ _ _ (v.inv.shut_below j low e) (le_plus_more P.charges c (cost P a))) dear) | inr e ↦ e ] in
          let new = reach P i s c a in
          let g = replaced_grown rows j new low is waits refl (not_le P.charges _ _ dear) in
          let len = length-set rows j new in
          subst (λ x. Going (suc a) (set rows j x)) (sym (lowered_is (row_at P rows j) new is waits))
          (grown_going a g v f (omega (arith, len, v.inv.fits))
          (λ x y lx ly e. let lx' : x < length rows = omega arith in let ly' : y < length rows = omega arith in v.inv.apart x y lx' ly' (sym (g.stays x lx') ∙ e ∙ g.stays y ly'))
          j (omega arith) (get_or-set_same rows j new _ low))

      pushed_going : (a : ℕ) (rows : List (Row C)) → Going a rows → Fresh some rows c (reach P i s c a) → length rows < P.quest.capacity → ((k : ℕ) → k < length rows → (row_at P rows k).setting ≡ P.world.next s a → ⊥)
          → Going (suc a) (rows ++ reach P i s c a ∷ [])
      pushed_going a rows v f room new =
          let r = reach P i s c a in
          let g = pushed_grown rows r refl in
          let len = length_push rows r in
          grown_going a g v f (omega arith) (λ x y lx ly e. apart x y (omega arith) (omega arith) e (cases_lt x (length rows)) (cases_lt y (length rows))) (length rows) (omega arith) (get_or_push rows r _ (length rows) refl)
        where
          at_end : (x : ℕ) → x < length rows + 1 → length rows ≤ x → row_at P (rows ++ reach P i s c a ∷ []) x ≡ reach P i s c a
          at_end x l h = get_or_push rows (reach P i s c a) _ x (omega arith)

          stays : (x : ℕ) → x < length rows → (row_at P (rows ++ reach P i s c a ∷ []) x).setting ≡ (row_at P rows x).setting
          stays x l = (pushed_grown rows (reach P i s c a) refl).stays x l

          apart : (x y : ℕ) → x < length rows + 1 → y < length rows + 1 → (row_at P (rows ++ reach P i s c a ∷ []) x).setting ≡ (row_at P (rows ++ reach P i s c a ∷ []) y).setting
              → (x < length rows) ⊎ (length rows ≤ x) → (y < length rows) ⊎ (length rows ≤ y) → x ≡ y
          apart x y lx ly e (inl p) (inl q) = v.inv.apart x y p q (sym (stays x p) ∙ e ∙ stays y q)
          apart x y lx ly e (inl p) (inr q) = absurd (new x p (sym (stays x p) ∙ e ∙ ap (λ r. r.setting) (at_end y ly q)))
          apart x y lx ly e (inr p) (inl q) = absurd (new y q (sym (stays y q) ∙ sym e ∙ ap (λ r. r.setting) (at_end x lx p)))
          apart x y lx ly e (inr p) (inr q) = omega arith

      place_fine : (a : ℕ) (rows : List (Row C)) → Going a rows → Fresh some rows c (reach P i s c a) → Fine (suc a) (place P.charges.zero le P.quest.capacity rows (reach P i s c a))
      place_fine a rows v f = at (ltb j (length rows)) refl
        where
          new : Row C
          new = reach P i s c a

          j : ℕ
          j = seek new.setting rows

          have : j < length rows → (b : Bool) → le (row_at P rows j).charge new.charge ≡ b → Fine (suc a) (on (cond b rows (set rows j (lowered (row_at P rows j) new))))
          have low true e = same_going a v (λ _ _ _. record { at = j; low = low; is = seek_found new.setting rows _ low; cheap = e })
          have low false e = lowered_going a rows j v f low (seek_found new.setting rows _ low) e

          lack : length rows ≤ j → (b : Bool) → ltb (length rows) P.quest.capacity ≡ b → Fine (suc a) (cond b (on (rows ++ new ∷ [])) (over rows))
          lack past true e = pushed_going a rows v f (ltb-true _ _ e) (seek_past new.setting rows _ past)
          lack past false e = record {
            level = c;
            inv = v.inv;
            no_room = ltb-false _ _ e;
            extra = new;
            missing = seek_past new.setting rows _ past;
            comes = f.comes;
            within = f.within;
            shut_are = v.shut_are;
          }

          at : (b : Bool) → ltb j (length rows) ≡ b → Fine (suc a) (cond b (on (settled P.charges.zero le rows new j)) (cond (ltb (length rows) P.quest.capacity) (on (rows ++ new ∷ [])) (over rows)))
          at true e = have (ltb-true _ _ e) (le (row_at P rows j).charge new.charge) refl
          at false e = lack (ltb-false _ _ e) (ltb (length rows) P.quest.capacity) refl

      relaxed_fine : (a : ℕ) (rows : List (Row C)) → marks a ≡ true → P.world.can s a ≡ true → Going a rows → Fine (suc a) (relaxed P i s c rows a)
      relaxed_fine a rows m k v = at (le (P.charges.plus c (cost P a)) P.quest.bound) refl
        where
          at : (b : Bool) → le (P.charges.plus c (cost P a)) P.quest.bound ≡ b → Fine (suc a) (cond b (place P.charges.zero le P.quest.capacity rows (reach P i s c a)) (on rows))
          at true e = place_fine a rows v (fresh_of a rows m k v.source e)
          at false e = same_going a v (λ _ _ w. absurd (never w e))

      onward_fine : (a : ℕ) (w : Swept C) → Fine a w → Fine (suc a) (onward P marks i s c w a)
      onward_fine a (over rows) f = f
      onward_fine a (on rows) f = at (marks a && P.world.can s a) refl
        where
          at : (b : Bool) → (marks a && P.world.can s a) ≡ b → Fine (suc a) (cond b (relaxed P i s c rows a) (on rows))
          at true e = let k = and_parts (marks a) (P.world.can s a) e in relaxed_fine a rows k.0 k.1 f
          at false e = same_going a f (λ m k _. absurd (never (and_from _ _ m k) e))

      pub sweep_fine : (rows : List (Row C)) → Going 0 rows → (a : ℕ) → Fine a (sweep P marks i s c rows a)
      sweep_fine rows g zero = g
      sweep_fine rows g (suc a) = onward_fine a _ (sweep_fine rows g a)
