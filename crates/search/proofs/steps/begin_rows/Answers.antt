use Rattle.std.proofs.Common.{rules, ◌≡◌, false, [], ◌∷◌, length, take, set, sym, refl, ap, ◌∙◌, subst, arith}
use Rattle.std.proofs.lemmas.List.{take_more_set}
use Rattle.search.specs.declared.data.Row.{Row}
use Rattle.search.specs.Queues.{queue}
use Rattle.search.specs.Lined.{Matched, Lined}
use Rattle.search.proofs.Lines.{matched_push, lined_none}
use Rattle.search.proofs.steps.begin_rows.Goals as goal

pub returns-clause-rows : goal.returns-clause-rows
returns-clause-rows g c = λ b limits.
    let new = λ (x : g.row.T-Charge.Denot). (let first : Row g.row.T-Charge.Denot = record { setting = c.args.start; charge = x; closed = false; origin = 0; action = 0 } in first) in
    take_more_set c.args.rows.now 0 (new c.zero-charge.result) (omega (arith, c.requires)) ∙ ap (λ x. new x ∷ []) c.zero-charge.ensures

pub returns-clause-lined : goal.returns-clause-lined
returns-clause-lined g c =
    let K = g.T.Tariff.charges c.args.tariff.now in
    let table = c.args.queue.now in
    let new : Row g.row.T-Charge.Denot = record { setting = c.args.start; charge = c.zero-charge.result; closed = false; origin = 0; action = 0 } in
    let rows = take 1 (set c.args.rows.now 0 new) in
    let one : rows ≡ new ∷ [] = take_more_set c.args.rows.now 0 new (omega (arith, c.requires)) in
    let none = lined_none K.le table in
    let zs = c.push.new.self.table.now in
    let e = c.push.ensures in
    subst (Lined K.le rows 1) (search rules) (
    let there : Lined K.le rows 1 zs = record {
      queued = e.queued none.queued;
      placed = e.noted (λ k h. absurd (omega arith)) (omega (arith, c.requires)) none.placed;
      matched = subst (λ l. Matched l (queue 1 zs)) (sym one) (matched_push [] _ _ new _ none.matched refl refl refl e.held);
      few = omega (arith, ap length one);
    } in there
    )
