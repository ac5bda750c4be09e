use Rattle.std.proofs.Common.{◌≡◌, ◌<◌, ◌≤◌}
use Rattle.std.specs.List.Sorted.{IsPermutation}
use Rattle.std.proofs.HeapSift as sifts
use Rattle.search.specs.Lending.{SameTable}
use Rattle.search.specs.Queues.{queue, Placed, turned_order}
use Rattle.search.proofs.Ranks.{queue_order}
use Rattle.search.proofs.queue.Queue.rise.Given as goal

abbrev pub invariant-loop-place : goal.invariant-loop-place
invariant-loop-place g l =
    let n = l.initial.self.count in
    let K = g.T.Tariff.charges l.initial.self.tariff.now in
    let was = l.initial.self.table in
    let table = l.self.table in
    record {
      within : l.place < n;
      higher : l.place ≤ l.initial.place;
      shuffled : IsPermutation (queue n was.now) (queue n table.now);
      rising : sifts.Rising (turned_order K.le) (queue_order K) (queue n was.now) l.initial.place (queue n table.now) l.place;
      noted : Placed n was.now → Placed n table.now;
      same : SameTable was table;
      tariff : l.self.tariff ≡ l.initial.self.tariff;
      count : l.self.count ≡ n;
    }

abbrev pub decreases-loop-place : goal.decreases-loop-place
decreases-loop-place g l = l.place
