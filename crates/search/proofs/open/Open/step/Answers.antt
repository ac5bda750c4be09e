use Rattle.std.proofs.Common.{rules, Err, ◌≡◌, ◌+◌, ◌<◌, false, length, take, sym, ap, ◌∙◌, arith, add-one}
use Rattle.std.proofs.lemmas.List.{length-take-le}
use Rattle.task.specs.Benches.{bench_of, world}
use Rattle.search.specs.declared.sizes.Progress.TheVariants.{Crowded}
use Rattle.search.specs.Rows.{row}
use Rattle.search.specs.Steps.{problem, advance, State, crowded}
use Rattle.search.specs.Counts.{posed, swept, stepped}
use Rattle.search.proofs.Running.{source_is, source_sound, goes_on, ends_full}
use Rattle.search.proofs.open.Open.step.Goals as goal

pub returns-clause-ran : goal.returns-clause-ran
returns-clause-ran g c = λ start lawful sound lined k.
    let o = c.args.self.now in
    let m = c.args.marker.now in
    let K = g.T.Tariff.charges o.tariff.now in
    let b = bench_of m.task.now m.actions.now in
    let q = posed start o.limits.now in
    let marking = (g.R.Rule.marking m.rule.now).marks b in
    let rows = take o.sizes.used o.rows.now in
    let n = o.expanded in
    let source = c.in_ok-source.source in
    let f = c.in_ok-source.ensures.found in
    let x = c.expand.ensures in
    let new = c.expand.new.self in
    let rows' = take new.sizes.used new.rows.now in
    let is = source_is K o.rows.now o.sizes.used source f.low f.read in
    let off : (world b).goal (row K.zero K.le rows source.row).setting ≡ false = ap (world b).goal is.0 ∙ c.in_ok-source.ensures.off m.actions.now in
    let low : source.row < length rows = omega (arith, f.low, length-take-le o.sizes.used o.rows.now (omega (arith, o.roomy))) in
    let s = source_sound b K q marking rows n source.row source.setting source.charge sound low is.0 is.1 in
    let count : n + 1 ≡ new.expanded = omega (arith, x.grew.even, o.counted, new.counted) in
    ap (λ j. advance (problem b K q) marking j rows n) (add-one k)
    ∙ goes_on b K q marking rows n source.row (f.first K lined) off rows' (ap (λ z. swept z rows') (sym c.in_ok-expand.was) ∙ x.rows start f lawful s.0 s.1) k
    ∙ ap (advance (problem b K q) marking k rows') count

pub returns-in_err-expand-clause-ran : goal.returns-in_err-expand-clause-ran
returns-in_err-expand-clause-ran g c = λ start lawful sound lined k.
    let o = c.args.self.now in
    let m = c.args.marker.now in
    let K = g.T.Tariff.charges o.tariff.now in
    let b = bench_of m.task.now m.actions.now in
    let q = posed start o.limits.now in
    let marking = (g.R.Rule.marking m.rule.now).marks b in
    let rows = take o.sizes.used o.rows.now in
    let n = o.expanded in
    let source = c.in_ok-source.source in
    let f = c.in_ok-source.ensures.found in
    let x = c.expand.ensures in
    let new = c.expand.new.self in
    let rows' = take new.sizes.used new.rows.now in
    let is = source_is K o.rows.now o.sizes.used source f.low f.read in
    let off : (world b).goal (row K.zero K.le rows source.row).setting ≡ false = ap (world b).goal is.0 ∙ c.in_ok-source.ensures.off m.actions.now in
    let low : source.row < length rows = omega (arith, f.low, length-take-le o.sizes.used o.rows.now (omega (arith, o.roomy))) in
    let s = source_sound b K q marking rows n source.row source.setting source.charge sound low is.0 is.1 in
    let full : c.from_residual-in_err-expand.result ≡ Err Crowded = search rules in
    let count : n + 1 ≡ new.expanded = omega (arith, x.grew.even, o.counted, new.counted) in
    ap (λ j. advance (problem b K q) marking j rows n) (add-one k)
    ∙ ends_full b K q marking rows n source.row (f.first K lined) off rows' (ap (λ z. swept z rows') (sym c.in_err-expand.was) ∙ x.rows start f lawful s.0 s.1) k
    ∙ ap (λ j. (let t : State g.row.T-Charge.Denot = record { rows = rows'; count = j; outcome = crowded } in t)) count
    ∙ ap (λ z. stepped z (advance (problem b K q) marking k) rows' new.expanded) (sym full)
