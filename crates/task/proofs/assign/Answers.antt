use Rattle.std.proofs.Common.{◌≡◌, ◌+◌, ◌≤◌, length, get_or, drop, set, sym, ap, ◌∙◌, arith, length-set}
use Rattle.std.proofs.lemmas.List.{at_drop_more, at_drop_all, set_past}
use Rattle.task.specs.Settings.{assigned}
use Rattle.task.proofs.assign.Goals as goal
use Rattle.task.proofs.assign.Goals.{then-at-lt64, else-at-lt64}

pub loop-atom-preserved : goal.loop-atom-preserved
loop-atom-preserved c =
    let atom = get_or c.args.atoms.now c.loop-atom.atom-index (record { variable = 0; value = 0 }) in
    let is : c.if-at-lt64.next ≡ set c.loop-atom.next atom.variable atom.value =
    elim c.if-at-lt64.branch [
      | then-at-lt64 w ↦ w.next-is
      | else-at-lt64 w ↦ let far : length c.loop-atom.next ≤ atom.variable = omega (arith, w.if-at-lt64.false, c.loop-atom.invariant.1) in w.next-is ∙ sym (set_past c.loop-atom.next atom.variable atom.value far)
    ] in (
      ap (λ s. assigned s (drop (c.loop-atom.atom-index + 1) c.args.atoms.now)) is ∙ sym (at_drop_more (assigned c.loop-atom.next) c.args.atoms.now c.loop-atom.atom-index (record { variable = 0; value = 0 }) c.loop-atom-test.true) ∙ c.loop-atom.invariant.0,
      ap length is ∙ length-set _ _ _ ∙ c.loop-atom.invariant.1,
    )

pub returns : goal.returns
returns c = sym (at_drop_all (assigned c.loop-atom.next) c.args.atoms.now c.loop-atom.atom-index c.loop-atom-test.false) ∙ c.loop-atom.invariant.0
