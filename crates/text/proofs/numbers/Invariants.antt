use Rattle.std.proofs.Common.{◌≡◌, [], length, drop, vec_items, vec_len}
use Rattle.text.specs.Fields.{pieces, read_fields}
use Rattle.text.proofs.numbers.Given as goal

abbrev pub invariant-loop-field : goal.invariant-loop-field
invariant-loop-field l = record {
  read : read_fields (vec_items l.sofar) (drop (length l.yielded) (pieces 32 l.line)) ≡ read_fields [] (pieces 32 l.line);
  count : vec_len l.sofar ≡ length l.yielded;
}
