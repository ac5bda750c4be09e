use Rattle.std.proofs.Common.{◌≡◌, ◌+◌, ◌++◌, map, drop, vec_items}
use Rattle.validate.specs.Walks.{shown, steps, Counted}
use Rattle.validate.specs.Tellings.{bench}
use Rattle.validate.proofs.data.Bench.walk_from.Given as goal

abbrev pub invariant-loop-number : goal.invariant-loop-number
invariant-loop-number l = record {
  said : map shown (vec_items l.lines) ++ steps (bench l.self) l.at (drop l.number-index l.numbers) ≡ steps (bench l.self) l.initial.at l.numbers;
  counted : Counted l.at;
  step : l.at.step ≡ l.number-index + 1;
}
