use Rattle.book.proofs.Accepted.{Filling}
use Rattle.book.proofs.fill.Given as goal

abbrev pub invariant-loop-raw : goal.invariant-loop-raw
invariant-loop-raw l = Filling l.book l.raw-iterator.left.now l.raw-iterator.at l.count l.initial.actions l.actions
