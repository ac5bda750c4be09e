use Rattle.book.proofs.AtomLists.{count_is}
use Rattle.book.proofs.atoms.AtomsIn.len.Goals as goal

pub returns : goal.returns
returns c = count_is c.args.self.now.bytes.now
