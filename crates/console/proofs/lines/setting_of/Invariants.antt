use Rattle.std.proofs.Common.{◌≡◌, ◌-◌, ◌++◌, length, drop, replicate}
use Rattle.console.specs.Commands.{values}
use Rattle.console.specs.Left.{remaining}
use Rattle.console.proofs.lines.setting_of.Given as goal

abbrev pub invariant-loop-value : goal.invariant-loop-value
invariant-loop-value l = record {
  same : values (l.count - l.value-index) l.value-index (l.value-items ++ drop l.count (replicate 64 0)) (remaining l.fields) ≡ values l.count 0 (replicate 64 0) (remaining l.initial.fields);
  long : length l.value-items ≡ l.count;
}
