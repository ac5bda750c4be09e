use Rattle.std.proofs.Common.{◌||◌, None, refl}
use Rattle.task.specs.Settings.{listed, some_atom}
use Rattle.task.specs.Benches.{act_of}
use Rattle.rules.specs.Waits.{beside, asks}
use Rattle.rules.proofs.Writes.{wrote_then}
use Rattle.rules.proofs.waiting.Pending.ask_interferers.Goals as goal

pub returns-clause-wrote : goal.returns-clause-wrote
returns-clause-wrote c =
    let sizes = c.args.self.now.sizes in
    let conditions = listed c.args.member.now.conditions in
    let effects = listed c.args.member.now.effects in
    wrote_then (λ x. some_atom (λ a. beside sizes 0 a x) conditions) (λ x. some_atom (λ a. beside sizes 0 a x) effects || some_atom (λ a. beside sizes 2048 a x) effects) (asks sizes None (act_of c.args.member.now))
    (λ x. refl)
    (simp c.list.ensures at c.ask_all_siblings.ensures.wrote)
    (wrote_then (λ x. some_atom (λ a. beside sizes 0 a x) effects) (λ x. some_atom (λ a. beside sizes 2048 a x) effects) (λ x. some_atom (λ a. beside sizes 0 a x) effects || some_atom (λ a. beside sizes 2048 a x) effects)
    (λ x. refl)
    (simp (c.list-2.ensures, c.ask_all_siblings.ensures.same.2) at c.ask_all_siblings-2.ensures.wrote)
    (simp (c.list-3.ensures, c.ask_all_siblings-2.ensures.same.2, c.ask_all_siblings.ensures.same.2) at c.ask_all_siblings-3.ensures.wrote))
