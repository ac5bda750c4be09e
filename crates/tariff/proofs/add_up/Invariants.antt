use Rattle.std.proofs.Common.{◌≡◌, true, map, take}
use Rattle.task.specs.Benches.{act_of}
use Rattle.tariff.specs.Totals.{charge_of}
use Rattle.tariff.proofs.add_up.Given as goal

abbrev pub invariant-loop-number : goal.invariant-loop-number
invariant-loop-number g l =
    let K = g.T.Tariff.charges l.tariff in
    (l.sum ≡ charge_of K (map act_of l.actions) (take l.number-index l.numbers)) × (K.le l.sum l.bound ≡ true)
