use Rattle.book.proofs.Runs.{Surveyed}
use Rattle.book.proofs.survey.Given as goal

abbrev pub invariant-loop-raw : goal.invariant-loop-raw
invariant-loop-raw l = Surveyed l.book l.raw-iterator.left.now l.raw-iterator.at l.seen
