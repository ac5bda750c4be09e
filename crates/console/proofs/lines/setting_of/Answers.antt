use Rattle.std.proofs.Common.{drop, replicate, length-set, ◌∙◌, arith}
use Rattle.console.specs.Left.{remaining}
use Rattle.console.proofs.Values.{one_value}
use Rattle.console.proofs.lines.setting_of.Goals as goal

pub loop-value-preserved : goal.loop-value-preserved
loop-value-preserved c =
    let l = c.loop-value in
    record {
      same = one_value c.args.count l.value-index l.value-items (drop c.args.count (replicate 64 0)) (remaining l.fields) _ l.invariant.same (omega arith) l.invariant.long c.in_ok-next.field-0.now (remaining c.next.new.self) c.in_ok-next.ensures.steps c.in_ok-value.field-0 c.in_ok-value.ensures;
      long = length-set _ _ _ ∙ l.invariant.long;
    }
