use Rattle.std.proofs.Common.{ap, ◌∙◌, rules}
use Rattle.task.specs.Settings.{listed}
use Rattle.book.specs.Records.{shown}
use Rattle.book.proofs.Outlines.{with_variable, with_action, with_goal, variable_room, goal_room}
use Rattle.book.proofs.grow.Goals as goal
use Rattle.book.proofs.grow.Goals.{in-Variable, in-Action, in-Goal}

pub returns : goal.returns
returns c b o =
    elim c.match-part.branch [
      | in-Variable w ↦
          let said = ap shown w.in-Variable.is in
          with_variable c.args.task b o _ said (variable_room c.args.task _ w.in-Variable.values c.args.task.limits.0 (search rules) c.requires said) (ap (λ x. x.0) w.next-is) (ap (λ x. x.1.0) w.next-is) (ap (λ x. x.1.1.0) w.next-is) (ap (λ x. x.1.1.1.0) w.next-is)
      | in-Action w ↦
          with_action c.args.task b o _ (ap shown w.in-Action.is) (ap (λ x. x.0) w.next-is) (ap (λ x. x.1.0) w.next-is) (ap (λ x. x.1.1.0) w.next-is) (ap (λ x. x.1.1.1.0) w.next-is)
      | in-Goal w ↦
          let said = ap shown w.in-Goal.is in
          with_goal c.args.task b o _ said (ap (λ x. x.0) w.next-is) (ap (λ x. x.1.0) w.next-is) (ap (λ x. x.1.1.0) w.next-is) (ap (λ x. listed x.1.1.1.0) w.next-is ∙ w.atoms_of-next.ensures (goal_room c.args.task _ _ c.args.task.limits.0 c.requires said))
    ]
