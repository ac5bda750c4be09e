use Rattle.std.proofs.Common.{◌≡◌, ◌≤◌, length, set, ap, ◌∙◌}
use Rattle.std.proofs.lemmas.List.{length-map}
use Rattle.search.specs.Queues.{waitings, places}
use Rattle.search.proofs.Entries.{swap_is, swap_noted}
use Rattle.search.proofs.queue.Queue.exchange.Goals as goal

pub returns-clause-swapped : goal.returns-clause-swapped
returns-clause-swapped g c =
    let q = c.args.self.now in
    let table = q.table.now in
    let down = c.waiting_at-down.result in
    let up = c.waiting_at-up.result in
    let fits : q.count ≤ length (waitings table) = simp length-map q.fits.0 in
    let after : waitings c.put-2.new.self.table.now ≡ set (set (waitings table) c.args.first up) c.args.second down = c.put-2.ensures.waits ∙ ap (λ l. set l c.args.second down) c.put.ensures.waits in
    swap_is (waitings table) (waitings c.put-2.new.self.table.now) q.count c.args.first c.args.second down up c.requires.0 c.requires.1 fits c.waiting_at-down.ensures c.waiting_at-up.ensures after

pub returns-clause-noted : goal.returns-clause-noted
returns-clause-noted g c =
    let q = c.args.self.now in
    let table = q.table.now in
    let a = c.args.first in
    let b = c.args.second in
    let down = c.waiting_at-down.result in
    let up = c.waiting_at-up.result in
    let fits : q.count ≤ length (waitings table) = simp length-map q.fits.0 in
    let after : waitings c.put-2.new.self.table.now ≡ set (set (waitings table) a up) b down = c.put-2.ensures.waits ∙ ap (λ l. set l b down) c.put.ensures.waits in
    let noted : places c.put-2.new.self.table.now ≡ set (set (places table) up.row a) down.row b = c.put-2.ensures.places ∙ ap (λ l. set l down.row b) c.put.ensures.places in
    swap_noted (waitings table) (waitings c.put-2.new.self.table.now) q.count a b down up c.requires.0 c.requires.1 fits c.waiting_at-down.ensures c.waiting_at-up.ensures after (places table) (places c.put-2.new.self.table.now) noted
