use Rattle.std.proofs.Common.{◌≡◌, ◌-◌, Bool, reverse, length, take, drop}
use Rattle.search.specs.Rows.{follow, plan_of}
use Rattle.search.proofs.plan.write_back.Given as goal

abbrev pub invariant-loop-count : goal.invariant-loop-count
invariant-loop-count g l =
    ((zero : g.row.C.Denot) (le : g.row.C.Denot → g.row.C.Denot → Bool) → follow zero le (length l.rows - l.count) l.rows l.at (reverse (take l.count l.plan)) ≡ plan_of zero le l.rows l.goal)
    × (drop l.count l.plan ≡ drop l.count l.initial.plan)
