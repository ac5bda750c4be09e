use Rattle.std.proofs.Common.{rules, ◌≡◌, ◌<◌, true, false, length, get_or, take, set, sym, refl, ap, ◌∙◌, subst, arith, length-set, get_or-take}
use lib.Seq.{take-set-lt}
use Rattle.std.proofs.lemmas.List.{length-take-le, get_or_default}
use Rattle.std.proofs.lemmas.Bool.{not-true, not-false}
use Rattle.search.specs.Rows.{lowered}
use Rattle.search.specs.Queues.{queue}
use Rattle.search.specs.Lined.{Matched, Lined}
use Rattle.search.proofs.Lines.{matched_lower}
use Rattle.search.proofs.Placings.{settled_less, settled_kept}
use Rattle.search.proofs.open.Open.lower_row.Goals as goal

pub returns-then-not-is_cheaper-clause-rows : goal.returns-then-not-is_cheaper-clause-rows
returns-then-not-is_cheaper-clause-rows g c =
    let o = c.args.self.now in
    let K = g.T.Tariff.charges o.tariff.now in
    let new = c.args.new in
    let r = c.index-self-at.result in
    let held = get_or o.rows.now c.args.at r in
    let in' : c.args.at < length o.rows.now = omega (arith, c.requires, o.roomy.used, o.roomy.rows) in
    let cheap : K.le held.charge new.charge ≡ true = not-false (K.le held.charge new.charge) (sym c.if-not-is_cheaper.ensures) in
    settled_kept K o.rows.now o.sizes.used held new c.args.at c.requires in' (get_or_default o.rows.now c.args.at r held in') cheap

pub returns-clause-rows : goal.returns-clause-rows
returns-clause-rows g c =
    let o = c.args.self.now in
    let K = g.T.Tariff.charges o.tariff.now in
    let rows = o.rows.now in
    let new = c.args.new in
    let r = c.index-self-at.result in
    let held = get_or rows c.args.at r in
    let in' : c.args.at < length rows = omega (arith, c.requires, o.roomy.used, o.roomy.rows) in
    let dear : K.le held.charge new.charge ≡ false = not-true (K.le held.charge new.charge) (sym c.if-not-is_cheaper.ensures) in
    settled_less K rows o.sizes.used held new c.args.at c.requires in' (get_or_default rows c.args.at r held in') dear

pub returns-clause-lined : goal.returns-clause-lined
returns-clause-lined g c = λ p.
    let o = c.args.self.now in
    let K = g.T.Tariff.charges o.tariff.now in
    let n = o.sizes.used in
    let m = o.sizes.waiting in
    let rows = o.rows.now in
    let new = c.args.new in
    let j = c.args.at in
    let r = c.index-self-at.result in
    let held = get_or rows j r in
    let in' : j < length rows = omega (arith, c.requires, o.roomy.used, o.roomy.rows) in
    let dear : K.le held.charge new.charge ≡ false = not-true (K.le held.charge new.charge) (sym c.if-not-is_cheaper.ensures) in
    let front : take n (set rows j (lowered held new)) ≡ set (take n rows) j (lowered held new) = take-set-lt n rows j (lowered held new) c.requires in
    let long = length-take-le n rows (omega (arith, o.roomy.used, o.roomy.rows)) in
    let low : j < length (take n rows) = omega (arith, c.requires) in
    let is : held ≡ get_or (take n rows) j held = get_or_default rows j r held in' ∙ sym (get_or-take n rows j held c.requires) in
    subst (Lined K.le (take n (set rows j (lowered held new))) m) (search rules) (
    let there : Lined K.le (take n (set rows j (lowered held new))) m c.lower.new.self.table.now = record {
      queued = c.lower.ensures.queued p.queued;
      placed = c.lower.ensures.noted p.placed;
      matched = subst (λ l. Matched l (queue m c.lower.new.self.table.now)) (sym front) (matched_lower K (take n rows) _ _ j held new _ _ p.matched low is dear refl refl (c.lower.ensures.held p.placed));
      few = omega (arith, p.few, ap length front, length-set (take n rows) j (lowered held new));
    } in there
    )
