use Rattle.std.proofs.Common.{◌≡◌, [], ◌∷◌, take, Some, None, refl, ap, ◌∙◌, subst}
use Rattle.task.specs.Benches.{bench_of}
use Rattle.search.specs.Lined.{Lined}
use Rattle.search.specs.Session.{begin_fault}
use Rattle.search.specs.Left.{lent, many, first_row}
use Rattle.search.proofs.Promises.{promised}
use Rattle.search.proofs.Sessions.{begin_by}
use Rattle.search.proofs.rest.begin.Goals as goal

pub returns-in-Err-clause-promised : goal.returns-in-Err-clause-promised
returns-in-Err-clause-promised g c = λ b calls actions lawful left.
    let K = g.T.Tariff.charges c.args.tariff.now in
    let w = begin_by b K calls c.args.start c.args.bound (lent actions c.args.tables) left.is (Some c.in-Err.refusal) (c.in-Err.ensures.refused b actions left.task ∙ ap (begin_fault b c.args.start) (ap (many actions) c.lengths.ensures)) in
    (ap (λ p. p.1) w, record { task = left.task; is = ap (λ p. p.0) w }, promised b K lawful _)

pub returns-in-Err-clause-refused : goal.returns-in-Err-clause-refused
returns-in-Err-clause-refused g c = λ b actions of. c.in-Err.ensures.refused b actions of ∙ ap (begin_fault b c.args.start) (ap (many actions) c.lengths.ensures)

pub returns-clause-promised : goal.returns-clause-promised
returns-clause-promised g c = λ b calls actions lawful left.
    let K = g.T.Tariff.charges c.args.tariff.now in
    let first : take 1 c.begin_rows.new.rows ≡ first_row K.zero c.args.start ∷ [] = c.begin_rows.ensures.rows b (record { bound = c.args.bound; capacity = 0 }) in
    let w = begin_by b K calls c.args.start c.args.bound (lent actions c.args.tables) left.is None (c.in_default.ensures.refused b actions left.task ∙ ap (begin_fault b c.args.start) (ap (many actions) c.lengths.ensures)) in (
      ap (λ p. p.1) w,
      record {
        task = left.task;
        held = first_row K.zero c.args.start ∷ [];
        is = ap (λ p. p.0) w;
        number = refl;
        in_rows = λ _. first;
        in_queue = λ _. subst (λ rows. Lined K.le rows 1 c.begin_rows.new.queue) first c.begin_rows.ensures.lined;
        in_marks = λ _. c.clear_first.ensures.clear;
        in_work = λ _. c.clear_first-2.ensures.clear;
      },
      promised b K lawful _,
    )

pub returns-clause-refused : goal.returns-clause-refused
returns-clause-refused g c = λ b actions of. c.in_default.ensures.refused b actions of ∙ ap (begin_fault b c.args.start) (ap (many actions) c.lengths.ensures)

pub returns-clause-laid : goal.returns-clause-laid
returns-clause-laid g c =
    let K = g.T.Tariff.charges c.args.tariff.now in
    let first : take 1 c.begin_rows.new.rows ≡ first_row K.zero c.args.start ∷ [] = c.begin_rows.ensures.rows (bench_of c.args.rest.task []) (record { bound = c.args.bound; capacity = 0 }) in
    record {
      task = refl;
      asked = refl;
      first = record { first = first; rest = c.begin_rows.ensures.rest };
      plan_stays = refl;
      no_marks = record { zeros = c.clear_first.ensures.clear; rest = c.clear_first.ensures.rest };
      no_work = record { zeros = c.clear_first-2.ensures.clear; rest = c.clear_first-2.ensures.rest };
    }
