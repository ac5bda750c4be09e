use Rattle.task.proofs.Meets.{met_where_none}
use Rattle.task.proofs.applicable.Goals as goal

pub returns : goal.returns
returns c = met_where_none _ _ _ _ _ c.is_none.ensures c.first_unmet.ensures c.list.ensures
