use Rattle.std.proofs.Common.{◌≡◌, ◌^◌, ◌<◌, drop}
use Rattle.text.specs.Fields.{digits}
use Rattle.text.proofs.few_digits.Given as goal

abbrev pub invariant-loop-b : goal.invariant-loop-b
invariant-loop-b l = record {
  same : digits l.sum (drop l.b-index l.text) ≡ digits 0 l.text;
  low : l.sum < 10 ^ l.b-index;
}
