use Rattle.rules.specs.Moves.{closed_begins}
use Rattle.rules.specs.Grows.{stubborn_smallest, stubborn_goal}
use Rattle.rules.proofs.Keypad.{keypad_marks}
use Rattle.rules.proofs.Lowest.{lowest}
use Rattle.rules.proofs.pruning_stands.Goals as goal

pub returns : goal.returns
returns c = record { smallest = stubborn_smallest; none = stubborn_goal; lowest = lowest; begins = closed_begins; example = keypad_marks }
