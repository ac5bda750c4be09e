use Rattle.std.proofs.Common.{length, take, sym, ap, ◌∙◌}
use Rattle.task.specs.Benches.{bench_of, world}
use Rattle.search.specs.Queues.{queue}
use Rattle.search.specs.Steps.{problem}
use Rattle.search.proofs.Lines.{none_open}
use Rattle.search.proofs.Runs.{step_none, step_found}
use Rattle.search.proofs.Running.{source_is}
use Rattle.search.proofs.open.Open.look.Goals as goal

pub returns-in_default-clause-ended : goal.returns-in_default-clause-ended
returns-in_default-clause-ended g c = λ table K q marking k n p.
    let o = c.args.self.now in
    let rows = take o.sizes.used o.rows.now in
    let none = ap (λ m. length (queue m o.table.now)) (c.first_row.ensures.none c.in_default.is) in
    step_none (problem (bench_of c.args.task.now table) K q) marking rows n k (none_open K rows (queue o.sizes.waiting o.table.now) p.matched none)

pub returns-then-goal_holds-clause-ended : goal.returns-then-goal_holds-clause-ended
returns-then-goal_holds-clause-ended g c = λ table K q marking k n p.
    let o = c.args.self.now in
    let b = bench_of c.args.task.now table in
    let s = c.in-Some.source in
    let f = c.in-Some.ensures.some in
    let is = source_is K o.rows.now o.sizes.used s f.low f.read in
    step_found (problem b K q) marking (take o.sizes.used o.rows.now) n s.row (f.first K p) k (ap (world b).goal is.0 ∙ sym c.if-goal_holds.ensures)
