use Rattle.std.proofs.Common.{min, get_or, rules, tests}
use Rattle.validate.proofs.Settings.{each_is, made}
use Rattle.validate.proofs.setting_from.Goals as goal

pub returns : goal.returns
returns c =
    let i = c.from_fn.ensures.items in
    made c.args.values.now c.from_fn.result i.long (each_is _ (λ k. min (get_or c.args.values.now k 0) 255) _ (λ i y q h. search (rules, tests)) c.from_fn.result 64 i.each)
