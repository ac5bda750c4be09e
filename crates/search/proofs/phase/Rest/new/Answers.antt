use Rattle.std.proofs.Common.{refl}
use Rattle.task.proofs.Tables.{act_count}
use Rattle.search.proofs.phase.Rest.new.Goals as goal

pub returns : goal.returns
returns c = record { task = refl; bench = λ table long. record { sizes = refl; goal = refl; number = act_count c.args.task table long } }
