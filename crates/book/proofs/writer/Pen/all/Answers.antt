use Rattle.book.proofs.Puts.{room_here, writes_on}
use Rattle.book.proofs.writer.Pen.all.Goals as goal

pub put-requires : goal.put-requires
put-requires g c = room_here g.T.Spelled.spelling c.args.items.now c.loop-item.item-index c.item-item.result c.loop-item-test.true c.item-item.is c.requires c.loop-item.invariant

pub loop-item-preserved : goal.loop-item-preserved
loop-item-preserved g c = writes_on g.T.Spelled.spelling c.args.items.now c.loop-item.item-index c.item-item.result c.loop-item-test.true c.item-item.is c.loop-item.invariant c.put.ensures
