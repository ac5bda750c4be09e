-- What a comparison of two rows of a queue tells std's lemmas on heaps.
use Rattle.std.proofs.Common.{◌≡◌, ℕ, ◌<◌, ◌≤◌, Bool, List, length, get_or, sym, ◌∙◌, arith, length-take, get_or-take}
use Rattle.std.specs.Ordering.{is_lt}
use Rattle.std.specs.BinaryHeap.Sift.{ComparesAt}
use Rattle.std.proofs.lemmas.List.{get_or_default, length-map}
use Rattle.search.specs.declared.entry.Entry.{Entry}
use Rattle.search.specs.declared.entry.Waiting.{Waiting}
use Rattle.search.specs.Queues.{waitings, queue, order, sooner, turned_order}

module _ {C : Type 0} where
  -- the queue has as many rows as its count says
  pub queue_long : (table : List (Entry C)) (n : ℕ) → n ≤ length table → length (queue n table) ≡ n
  queue_long table n fits = simp (length-take, length-map) (omega arith)

  pub queue_at : (table : List (Entry C)) (n k : ℕ) (x : Waiting C) → k < n → x ≡ get_or (waitings table) k x → x ≡ get_or (queue n table) k x
  queue_at table n k x within is = is ∙ sym (get_or-take n (waitings table) k x within)

  pub tells : (le : C → C → Bool) (table : List (Entry C)) (n a b : ℕ) (x y : Waiting C) (r : Bool) → a < n → b < n → n ≤ length table → x ≡ get_or (waitings table) a x → y ≡ get_or (waitings table) b y → r ≡ sooner le y x → ComparesAt (turned_order le) (queue n table) a b r
  tells le table n a b x y r in_a in_b fits at_a at_b answer = λ d.
      let long = queue_long table n fits in
      let x_at : get_or (queue n table) a d ≡ x = get_or_default (queue n table) a d x (omega arith) ∙ sym (queue_at table n a x in_a at_a) in
      let y_at : get_or (queue n table) b d ≡ y = get_or_default (queue n table) b d y (omega arith) ∙ sym (queue_at table n b y in_b at_b) in
      (λ k. is_lt (order le (y_at k) (x_at k))) ∙ sym answer
