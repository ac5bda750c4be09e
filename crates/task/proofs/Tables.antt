-- The actions of a task in the first places of a table.
use Rattle.std.proofs.Common.{◌≡◌, ℕ, ◌<◌, ◌≤◌, List, length, get_or, take, ap, ◌∙◌, arith, length-take}
use Rattle.std.proofs.lemmas.List.{length-map, get_or-map, get_or-take}
use Rattle.task.specs.declared.data.Action.{Action}
use Rattle.task.specs.declared.data.Task.{Task}
use Rattle.task.specs.Benches.{act, act_of, bench_of, idle}

module _ (task : Task) (table : List Action) (enough : task.actions ≤ length table) where
  -- as many as the task says
  pub act_count : length (bench_of task table).actions ≡ task.actions
  act_count = length-map (take task.actions table) act_of ∙ simp length-take (omega arith)

  -- each is the table's, by its number
  pub act_at : (k : ℕ) (d : Action) → k < task.actions → act (bench_of task table) k ≡ act_of (get_or table k d)
  act_at k d low =
      let long : k < length (take task.actions table) = simp length-take (omega arith) in
      get_or-map act_of (take task.actions table) k d idle long ∙ ap act_of (get_or-take task.actions table k d low)
