use Rattle.tariff.proofs.Totals.{none_stray, fold_within}
use Rattle.tariff.proofs.add_up.Goals as goal

pub loop-number-preserved : goal.loop-number-preserved
loop-number-preserved g c =
    let i = c.loop-number.number-index in
    let known = none_stray _ _ _ c.requires.known i c.loop-number-test.true in
    fold_within (g.T.Tariff.charges c.args.tariff.now) c.args.actions.now c.args.numbers.now i c.loop-number.sum c.index-actions-number.result c.loop-number-test.true known c.loop-number.invariant.0 c.index-actions-number.is c.args.bound c.in_ok-sum.sum c.requires.few c.in_ok-sum.ensures
