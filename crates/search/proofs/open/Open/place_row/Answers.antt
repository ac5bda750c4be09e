use Rattle.std.proofs.Common.{◌≤◌, length, take, sym, refl, ap, ◌∙◌, arith}
use Rattle.std.specs.Str.{bytes_eq}
use Rattle.std.proofs.lemmas.List.{length-take-le}
use Rattle.std.proofs.lemmas.List.Quantifiers.{position-Some}
use Rattle.search.specs.declared.sizes.Sizes.{Sizes}
use Rattle.search.specs.Rows.{on, seek}
use Rattle.search.proofs.Placings.{sought_there, sought_past, place_there, place_push, place_full}
use Rattle.search.proofs.open.Open.place_row.Goals as goal

pub returns-in-Some-clause-rows : goal.returns-in-Some-clause-rows
returns-in-Some-clause-rows g c =
    let o = c.args.self.now in
    let K = g.T.Tariff.charges o.tariff.now in
    let used = take o.sizes.used o.rows.now in
    let s = c.args.new.setting in
    let rows' = c.lower_row.new.self.rows.now in
    let fits : o.sizes.used ≤ length o.rows.now = omega (arith, o.roomy) in
    let at = sought_there s used c.in-Some.at (sym c.find.ensures ∙ c.in-Some.is) in
    let low = (position-Some (λ r. bytes_eq r.setting s) used c.in-Some.at c.args.new (sym c.find.ensures ∙ c.in-Some.is)).0 in
    ap (λ (z : Sizes). on (take z.used rows')) c.lower_row.ensures.sizes ∙ ap on c.lower_row.ensures.rows
    ∙ place_there K o.rows.now o.sizes.used o.limits.now.capacity c.args.new c.in-Some.at fits at (omega (arith, low, length-take-le o.sizes.used o.rows.now fits))

pub returns-then-self-clause-rows : goal.returns-then-self-clause-rows
returns-then-self-clause-rows g c =
    let o = c.args.self.now in
    let K = g.T.Tariff.charges o.tariff.now in
    let used = take o.sizes.used o.rows.now in
    let s = c.args.new.setting in
    let fits : o.sizes.used ≤ length o.rows.now = omega (arith, o.roomy) in
    let past = sought_past s used (sym c.find.ensures ∙ c.in_default.is) in
    place_full K o.rows.now o.sizes.used o.limits.now.capacity c.args.new (seek s used) fits refl (omega (arith, past, length-take-le o.sizes.used o.rows.now fits)) (omega (arith, c.if-self.true))

pub returns-clause-rows : goal.returns-clause-rows
returns-clause-rows g c =
    let o = c.args.self.now in
    let K = g.T.Tariff.charges o.tariff.now in
    let used = take o.sizes.used o.rows.now in
    let s = c.args.new.setting in
    let rows' = c.push_row.new.self.rows.now in
    let fits : o.sizes.used ≤ length o.rows.now = omega (arith, o.roomy) in
    let past = sought_past s used (sym c.find.ensures ∙ c.in_default.is) in
    ap (λ k. on (take k rows')) c.push_row.ensures.used ∙ ap on c.push_row.ensures.rows
    ∙ place_push K o.rows.now o.sizes.used o.limits.now.capacity c.args.new (seek s used) fits refl (omega (arith, past, length-take-le o.sizes.used o.rows.now fits)) (omega (arith, c.if-self.false, o.roomy.used))
