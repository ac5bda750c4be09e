-- What a comparison of two settings tells.
use Rattle.std.proofs.Common.{◌≡◌, ℕ, Bool, List, Decides}
use Rattle.std.specs.Str.{bytes_eq}
use Rattle.std.proofs.lemmas.Bool.Decides.{same_from_decides}
use Rattle.std.proofs.lemmas.Slice.Eq.{bytes_eq-Decides}

pub decided : (xs ys : List ℕ) (r : Bool) → Decides r (xs ≡ ys) → bytes_eq xs ys ≡ r
decided xs ys r h = same_from_decides (bytes_eq xs ys) r (bytes_eq-Decides xs ys) h
