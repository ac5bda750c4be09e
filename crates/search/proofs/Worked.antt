-- The worked cases, computed.
use Rattle.std.proofs.Common.{refl}
use Rattle.rules.specs.Sets.{stubborn}
use Rattle.rules.proofs.Keypad.{keypad_marks}
use Rattle.search.specs.Cases.{Cases}

pub worked : Cases
unfolding stubborn
worked = record {
  marks = keypad_marks;
  keypad_pruned = refl;
  keypad_whole = refl;
  keypad_denied = refl;
  keypad_full = refl;
  fork_by_time = refl;
  fork_by_presses = refl;
  in_goal = refl;
  nothing_to_take = refl;
}
