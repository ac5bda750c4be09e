-- A rule that marks more than it needs: the smallest closed set, and every third action besides.
use Rattle.std.specs.Prelude.{ℕ, ◌+◌, ◌%◌, Bool, ◌||◌, List, ◌==◌, slice_index}
use Rattle.std.proofs.lemmas.Bool.{or_left}
use Rattle.task.specs.Benches.{Bench, world}
use Rattle.rules.specs.Marks.{Begun, Marking}
use Rattle.rules.specs.Rules.{stubborn_marking}
use Rattle.rules.specs.Sets.{stubborn}

-- which third depends on the setting
abbrev pub noise : List ℕ → ℕ → Bool
noise s k = (slice_index s 0 + k % 3) % 3 == 0

abbrev pub noisy : Bench → List ℕ → ℕ → Bool
noisy b s k = stubborn b s k || noise s k

pub still_begun : (b : Bench) (s plan : List ℕ) → Begun (world b) (stubborn b s) s plan → Begun (world b) (noisy b s) s plan
still_begun b s plan h = record { first = h.first; rest = h.rest; same = h.same; is_marked = or_left _ _ h.is_marked; is_plan = h.is_plan }

abbrev pub noisy_marking : Marking
noisy_marking = record { marks = noisy; law = λ b s lawful setting off plan p. still_begun b s plan (stubborn_marking.law b s lawful setting off plan p) }
