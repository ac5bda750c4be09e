-- A queue in the first places of a table, where the table is cut behind it.
use Rattle.std.proofs.Common.{◌≡◌, ℕ, ◌<◌, ◌≤◌, Bool, List, ◌++◌, length, get_or, take, sym, ap, ◌∙◌, subst, arith, length-append, length-take, get_or-take, take-take}
use lib.Seq.{take-append-le}
use Rattle.std.proofs.lemmas.List.{take-map, map-append, length-map, get_or_append_left}
use Rattle.search.specs.declared.data.Row.{Row}
use Rattle.search.specs.declared.entry.Entry.{Entry}
use Rattle.search.specs.declared.entry.Waiting.{Waiting}
use Rattle.search.specs.Queues.{waitings, places, queue, Queued, Noted}
use Rattle.search.specs.Lined.{Matched, Lined}
use Rattle.search.proofs.Lines.{waiting_low}

module _ {C : Type 0} where
  queue_cut : (table : List (Entry C)) (n m : ℕ) → n ≤ m → queue n (take m table) ≡ queue n table
  queue_cut table n m h = ap (take n) (sym (take-map (λ (e : Entry C). e.waiting) m table)) ∙ take-take n m (waitings table) h

  queue_join : (table more : List (Entry C)) (n : ℕ) → n ≤ length table → queue n (table ++ more) ≡ queue n table
  queue_join table more n h =
      ap (take n) (map-append (λ (e : Entry C). e.waiting) table more) ∙ take-append-le n (waitings table) (waitings more) (simp length-map h)

  noted_cut : (xs : List (Waiting C)) (noted : List ℕ) (m : ℕ) → ((k : ℕ) (d : Waiting C) → k < length xs → (get_or xs k d).row < m) → Noted xs noted → Noted xs (take m noted)
  unfolding Noted
  noted_cut xs noted m low was k d in' =
      let told = was k d in' in
      let l = low k d in' in
      (simp length-take (omega (arith, told.0)), get_or-take m noted (get_or xs k d).row 0 l ∙ told.1)

  noted_join : (xs : List (Waiting C)) (noted more : List ℕ) → Noted xs noted → Noted xs (noted ++ more)
  unfolding Noted
  noted_join xs noted more was k d in' =
      let told = was k d in' in
      (simp length-append (omega (arith, told.0)), get_or_append_left noted more 0 (get_or xs k d).row told.0 ∙ told.1)

  module _ (le : C → C → Bool) (rows : List (Row C)) (n : ℕ) where
    -- the table cut, with a place for each row
    pub lined_cut : (table : List (Entry C)) (m : ℕ) → length rows ≤ m → Lined le rows n table → Lined le rows n (take m table)
    lined_cut table m h p =
        let same = queue_cut table n m (omega (arith, p.few)) in
        record {
          queued = subst (Queued le) (sym same) p.queued;
          placed = subst (λ l. Noted l (places (take m table))) (sym same)
              (subst (Noted (queue n table)) (take-map (λ (e : Entry C). e.place) m table) (noted_cut (queue n table) (places table) m (λ k d in'. let l = waiting_low rows (queue n table) p.matched k d in' in omega arith) p.placed));
          matched = subst (Matched rows) (sym same) p.matched;
          few = p.few;
        }

    -- more places behind it
    pub lined_join : (table more : List (Entry C)) → n ≤ length table → Lined le rows n table → Lined le rows n (table ++ more)
    lined_join table more h p =
        let same = queue_join table more n h in
        record {
          queued = subst (Queued le) (sym same) p.queued;
          placed = subst (λ l. Noted l (places (table ++ more))) (sym same)
              (subst (Noted (queue n table)) (sym (map-append (λ (e : Entry C). e.place) table more)) (noted_join (queue n table) (places table) (places more) p.placed));
          matched = subst (Matched rows) (sym same) p.matched;
          few = p.few;
        }
