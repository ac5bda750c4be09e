use Rattle.std.proofs.Common.{◌≤◌, length, set, sym, refl, ap, ◌∙◌, arith, length-set}
use Rattle.std.proofs.lemmas.List.{map-set, set_past, length-map}
use Rattle.search.specs.Queues.{places}
use Rattle.search.proofs.Entries.{part_kept}
use Rattle.search.proofs.queue.Queue.put.Goals as goal

pub returns-then-note-self-clause-waits : goal.returns-then-note-self-clause-waits
returns-then-note-self-clause-waits g c = part_kept (λ e. e.waiting) _ c.args.waiting.row c.index-self-note.result _ refl ∙ map-set (λ e. e.waiting) c.args.self.now.table.now c.args.at _

pub returns-then-note-self-clause-places : goal.returns-then-note-self-clause-places
returns-then-note-self-clause-places g c =
    map-set (λ e. e.place) _ c.args.waiting.row _ ∙ ap (λ l. set l c.args.waiting.row c.args.at) (part_kept (λ e. e.place) c.args.self.now.table.now c.args.at c.index-self-at.result _ refl)

pub returns-else-note-self-clause-waits : goal.returns-else-note-self-clause-waits
returns-else-note-self-clause-waits g c = map-set (λ e. e.waiting) c.args.self.now.table.now c.args.at _

pub returns-else-note-self-clause-places : goal.returns-else-note-self-clause-places
returns-else-note-self-clause-places g c =
    let far : length (places c.args.self.now.table.now) ≤ c.args.waiting.row = simp length-map (omega (arith, c.if-note-self.false, length-set c.args.self.now.table.now c.args.at)) in
    part_kept (λ e. e.place) c.args.self.now.table.now c.args.at c.index-self-at.result _ refl ∙ sym (set_past (places c.args.self.now.table.now) c.args.waiting.row c.args.at far)
