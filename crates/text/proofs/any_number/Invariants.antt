use Rattle.std.proofs.Common.{◌≡◌, ◌^◌, ◌<◌, drop}
use Rattle.text.specs.Fields.{digits, below_2_64}
use Rattle.text.proofs.any_number.Given as goal

abbrev pub invariant-loop-b : goal.invariant-loop-b
invariant-loop-b l = record {
  same : below_2_64 (digits l.value (drop l.b-index l.text)) ≡ below_2_64 (digits 0 l.text);
  low : l.value < 2 ^ 64;
}
