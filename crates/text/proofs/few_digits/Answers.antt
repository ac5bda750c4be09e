use Rattle.std.proofs.Common.{◌≤◌, arith}
use Rattle.text.proofs.Decimals.{within}
use Rattle.text.proofs.few_digits.Goals as goal

pub overflow_mul-sum : goal.overflow_mul-sum
overflow_mul-sum c =
    let low : c.loop-b.b-index ≤ 17 = omega (arith, c.requires, c.loop-b-test.true) in
    let small = within c.loop-b.sum c.loop-b.b-index 17 c.loop-b.invariant.low low in
    omega (arith, small)

pub overflow_add-sum : goal.overflow_add-sum
overflow_add-sum c =
    let low : c.loop-b.b-index ≤ 17 = omega (arith, c.requires, c.loop-b-test.true) in
    let small = within c.loop-b.sum c.loop-b.b-index 17 c.loop-b.invariant.low low in
    omega (arith, small)
