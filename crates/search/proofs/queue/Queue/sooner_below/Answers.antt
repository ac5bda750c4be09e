use Rattle.std.proofs.Common.{◌+◌, ◌*◌, true, false, subst, arith}
use Rattle.std.specs.BinaryHeap.Sift.{IsGreaterChild}
use Rattle.std.proofs.HeapSift as sifts
use Rattle.search.specs.Queues.{queue, turned_order}
use Rattle.search.proofs.Ranks.{queue_order}
use Rattle.search.proofs.Tells.{tells}
use Rattle.search.proofs.queue.Queue.sooner_below.Goals as goal

pub returns-then-self-left-clause-best : goal.returns-then-self-left-clause-best
returns-then-self-left-clause-best g c =
    let q = c.args.self.now in
    let K = g.T.Tariff.charges q.tariff.now in
    sifts.only_child (turned_order K.le) (queue_order K) (queue q.count q.table.now) c.args.place (2 * c.args.place + 1) q.count (omega arith) (omega arith)

pub returns-then-is_sooner-clause-best : goal.returns-then-is_sooner-clause-best
returns-then-is_sooner-clause-best g c =
    let q = c.args.self.now in
    let K = g.T.Tariff.charges q.tariff.now in
    let xs = queue q.count q.table.now in
    let left = 2 * c.args.place + 1 in
    let told = tells K.le q.table.now q.count (left + 1) left c.waiting_at-other.result c.waiting_at-one.result _ (omega arith) (omega arith) q.fits.0 c.waiting_at-other.ensures c.waiting_at-one.ensures c.if-is_sooner.ensures in
    subst (λ k. IsGreaterChild (turned_order K.le) xs c.args.place k q.count) (omega arith) (sifts.either_child (turned_order K.le) (queue_order K) xs c.args.place left q.count true (omega arith) told).1

pub returns-clause-best : goal.returns-clause-best
returns-clause-best g c =
    let q = c.args.self.now in
    let K = g.T.Tariff.charges q.tariff.now in
    let xs = queue q.count q.table.now in
    let left = 2 * c.args.place + 1 in
    let told = tells K.le q.table.now q.count (left + 1) left c.waiting_at-other.result c.waiting_at-one.result _ (omega arith) (omega arith) q.fits.0 c.waiting_at-other.ensures c.waiting_at-one.ensures c.if-is_sooner.ensures in
    (sifts.either_child (turned_order K.le) (queue_order K) xs c.args.place left q.count false (omega arith) told).1
