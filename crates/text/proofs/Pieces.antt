-- The numbers on a line, field by field.
use Rattle.std.proofs.Common.{◌≡◌, ℕ, ◌+◌, ◌<◌, ◌≤◌, List, [], ◌∷◌, ◌++◌, length, get_or, drop, Some, None, Ok, Err, Result, sym, ap, ◌∙◌}
use Rattle.std.proofs.lemmas.List.{at_drop_more, at_drop_all}
use Rattle.text.specs.Fields.{decimal, with_number, read_fields}

module _ (sofar : List ℕ) (fields : List (List ℕ)) (i : ℕ) (result : Result (List ℕ) ℕ) (is : read_fields sofar (drop i fields) ≡ result) where
  pub ends : length fields ≤ i → Ok sofar ≡ result
  ends h = sym (at_drop_all (read_fields sofar) fields i h) ∙ is

  module _ (field : List ℕ) (here : (i < length fields) × (field ≡ get_or fields i field)) where
    step : with_number (decimal 9 field) (λ n. read_fields (sofar ++ n ∷ []) (drop (i + 1) fields)) (length sofar + 1) ≡ result
    step = ap (λ f. read_fields sofar (f ∷ drop (i + 1) fields)) here.1 ∙ sym (at_drop_more (read_fields sofar) fields i field here.0) ∙ is

    pub no_number : None ≡ decimal 9 field → Err (length sofar + 1) ≡ result
    no_number e = ap (λ d. with_number d (λ n. read_fields (sofar ++ n ∷ []) (drop (i + 1) fields)) (length sofar + 1)) e ∙ step

    pub one_number : (n : ℕ) → Some n ≡ decimal 9 field → read_fields (sofar ++ n ∷ []) (drop (i + 1) fields) ≡ result
    one_number n e = ap (λ d. with_number d (λ n. read_fields (sofar ++ n ∷ []) (drop (i + 1) fields)) (length sofar + 1)) e ∙ step
