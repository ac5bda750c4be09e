-- The marked actions as they stand in line, each with its turn.
use Rattle.std.specs.Prelude.{◌≡◌, ℕ, ◌+◌, ◌<◌, ◌≤◌, Bool, length, Some, None, Option}
use Rattle.std.specs.Borrow.{Bor}
use Rattle.task.specs.declared.data.Action.{Action}
use Rattle.task.specs.Benches.{act_of}
use Rattle.rules.specs.declared.line.Queue.{Queue}
use Rattle.rules.specs.Queues.{act_at, number_at, Joined}

-- the same actions, and the same bytes
abbrev pub SameBytes : Queue → Queue → Type 0
SameBytes q q' = (q'.actions.now ≡ q.actions.now) × (q'.marks.ghost_name ≡ q.marks.ghost_name) × (q'.work.ghost_name ≡ q.work.ghost_name)

-- and nobody has had its turn
abbrev pub NoTurn : Queue → Queue → Type 0
NoTurn q q' = SameBytes q q' × (q'.head ≡ q.head)

-- those that pass a test have joined, and no others
abbrev pub Joins : (ℕ → Bool) → Queue → Queue → Type 0
Joins test q q' = Joined test (length q.marks.now) q.marks.now q.work.now q.tail q'.marks.now q'.work.now q'.tail

-- the one at the head has its turn, or nobody is left
abbrev pub IsNext : Queue → Option (Bor Action) → Queue → Type 0
IsNext q None q' = q.tail ≤ q.head
IsNext q (Some member) q' = (q.head < q.tail) × (act_of member.now ≡ act_at q.actions.now (number_at q.work.now q.head)) × (q'.head ≡ q.head + 1)

-- and all stand as they stood
abbrev pub StandStill : Queue → Queue → Type 0
StandStill q q' = (q'.marks.now ≡ q.marks.now) × (q'.work.now ≡ q.work.now) × (q'.tail ≡ q.tail)
