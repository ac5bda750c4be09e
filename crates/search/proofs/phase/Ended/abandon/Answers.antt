use Rattle.std.proofs.Common.{ap}
use Rattle.search.specs.Session.{abandoning, after}
use Rattle.search.proofs.Sessions.{abandoned}
use Rattle.search.proofs.phase.Ended.abandon.Goals as goal

pub returns-clause-promised : goal.returns-clause-promised
returns-clause-promised g c = λ b K calls plan lawful left. abandoned b K calls lawful c.args.self.asked.task c.give_up.result left.task c.give_up.ensures (ap (λ p. after b K p abandoning) left.is)
