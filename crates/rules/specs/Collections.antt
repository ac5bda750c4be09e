-- The collections of waiting atoms, and what every method of what is pending leaves as it is.
use Rattle.std.specs.Prelude.{◌≡◌, ℕ}
use Rattle.rules.specs.declared.waiting.Collection.{Collection}
use Rattle.rules.specs.declared.waiting.Collection.TheVariants.{Achievers, Dependers}
use Rattle.rules.specs.declared.waiting.Pending.{Pending}

-- the collection's first byte
abbrev pub first_of : Collection → ℕ
first_of Achievers = 0
first_of Dependers = 2048

-- the same work bytes, setting and sizes
abbrev pub Stays : Pending → Pending → Type 0
Stays p p' = (p'.work.ghost_name ≡ p.work.ghost_name) × (p'.setting ≡ p.setting) × (p'.sizes ≡ p.sizes)
