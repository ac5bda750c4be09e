use Rattle.search.proofs.Worked.{worked}
use Rattle.search.proofs.cases_stand.Goals as goal

pub returns : goal.returns
returns c = worked
