use Rattle.std.proofs.Common.{◌≤◌, ◌++◌, length, take, drop, Some, sym, ap, ◌∙◌, subst, arith}
use Rattle.std.proofs.lemmas.List.{length-take-le}
use Rattle.task.specs.Benches.{bench_of}
use Rattle.search.specs.declared.checks.Lengths.{Lengths}
use Rattle.search.specs.Steps.{State}
use Rattle.search.specs.Session.{advance_fault}
use Rattle.search.specs.Counts.{state_of}
use Rattle.search.specs.Left.{lent, on_entry, many, quest, Written, plan_found}
use Rattle.search.specs.Conclusions.{Concluded}
use Rattle.search.proofs.Advancings.{later, stood, went_so, listed_so, kept_past}
use Rattle.search.proofs.Cuts.{lined_cut, lined_join}
use Rattle.search.proofs.Promises.{promised}
use Rattle.search.proofs.Sessions.{advance_by}
use Rattle.search.proofs.searching.advance.Goals as goal

pub returns-in-Err-clause-promised : goal.returns-in-Err-clause-promised
returns-in-Err-clause-promised g c = λ b calls lawful is left.
    let K = g.T.Tariff.charges c.args.tariff.now in
    let s = c.args.search in
    let count = length c.args.actions.now in
    let w = advance_by b K calls (quest s) left.held s.expanded c.args.steps (g.R.Rule.marking c.args.rule.now) (lent count c.args.tables) left.is (Some c.in-Err.refusal) (c.in-Err.ensures.refused b left.task ∙ ap (advance_fault b s.asked.limits.capacity) (ap (many count) c.lengths.ensures)) in (
      ap (λ p. p.1) w,
      record { task = left.task; held = left.held; is = ap (λ p. p.0) w; number = left.number; in_rows = left.in_rows; in_queue = left.in_queue; in_marks = left.in_marks; in_work = left.in_work },
      promised b K lawful _,
    )

pub returns : goal.returns
returns g c =
    let K = g.T.Tariff.charges c.args.tariff.now in
    let t = c.args.tables in
    let s = c.args.search in
    let m = g.R.Rule.marking c.args.rule.now in
    let k = c.args.steps in
    let table = c.args.actions.now in
    let l = lent (length table) t in
    let space = c.in_default.ensures.space in
    let lent_rows : s.asked.limits.capacity ≤ length t.rows.now = omega (arith, space, ap (λ (l : Lengths). l.rows) c.lengths.ensures) in
    let lent_queue : s.asked.limits.capacity ≤ length t.queue.now = omega (arith, space, ap (λ (l : Lengths). l.queue) c.lengths.ensures) in
    let lent_work : 4096 ≤ length t.work.now = omega (arith, space, ap (λ (l : Lengths). l.work) c.lengths.ensures) in
    let r = c.run-ran.result in
    let e = c.run-ran.ensures in
    let rows' = c.run-ran.new.rows in
    let plan' = c.conclude.new.plan in
    let used = take r.sizes.used rows' in
    let room : r.sizes.used ≤ length rows' = omega (arith, e.tallied.within, lent_rows, c.run-ran.auto.rows) in
    let x = c.conclude.result in
    let cap = s.asked.limits.capacity in
    let old = take s.sizes.used t.rows.now in
    let few : length old ≤ cap = omega (arith, length-take-le s.sizes.used t.rows.now (omega (arith, s.numbers, lent_rows)), s.numbers) in
    let behind = drop cap t.queue.now in
    let zs = c.run-ran.new.queue in
    let waits : r.sizes.waiting ≤ length zs = omega (arith, e.tallied.within, e.tallied.waiting, c.run-ran.auto.queue, length-take-le cap t.queue.now lent_queue) in
    let done : Concluded K.zero K.le s.asked r used t.plan.now plan' x = c.conclude.ensures in
    record {
      promised = λ b calls lawful lent left.
          let w = stood b K lawful calls s (on_entry t) left lent_rows lent_queue k m (state_of r rows') (bench_of s.asked.task table) (lent space.0) (λ proper sound lined. e.ran s.asked.start proper sound (lined_cut K.le old s.sizes.waiting t.queue.now cap few lined)) in
          went_so b K lawful calls s left.held left.task left.is k m l r t.plan.now (record { rows = rows'; queue = zs ++ behind; plan = plan'; marks = c.run-ran.new.marks; work = c.run-ran.new.work }) (c.in_default.ensures.refused b left.task ∙ ap (advance_fault b s.asked.limits.capacity) (ap (many (length table)) c.lengths.ensures)) w.0 room (lined_join K.le used r.sizes.waiting zs behind waits (e.lined (lined_cut K.le old s.sizes.waiting t.queue.now cap few w.1))) e.marks (e.work (left.in_work lent_work)) x done;
      tables = λ b calls lawful lent left.
          let w = stood b K lawful calls s (on_entry t) left lent_rows lent_queue k m (state_of r rows') (bench_of s.asked.task table) (lent space.0) (λ proper sound lined. e.ran s.asked.start proper sound (lined_cut K.le old s.sizes.waiting t.queue.now cap few lined)) in
          let long = length-take-le r.sizes.used rows' room in
          record {
            in_rows = subst (λ (st : State g.row.T-Charge.Denot). Written st.rows t.rows.now rows') (sym w.0) (record { first = ap (λ n. take n rows') long; rest = ap (λ n. drop n rows') long ∙ e.rest ∙ ap (λ n. drop n t.rows.now) (sym long) });
            in_plan = subst (λ (st : State g.row.T-Charge.Denot). Written (plan_found K st) t.plan.now plan') (sym w.0) (listed_so K s.asked r used t.plan.now plan' x done);
            no_marks = record { zeros = e.marks; rest = e.kept.0 };
            no_work = record { zeros = e.work (left.in_work lent_work); rest = e.kept.1 };
          };
      refused = λ b of. c.in_default.ensures.refused b of ∙ ap (advance_fault b s.asked.limits.capacity) (ap (many (length table)) c.lengths.ensures);
      stays = tt;
      kept = record {
        past_rows = later r.sizes.used s.asked.limits.capacity rows' t.rows.now e.tallied.within e.rest;
        past_plan = kept_past K s.asked r used t.plan.now plan' x done;
        no_marks = record { zeros = e.marks; rest = e.kept.0 };
        past_work = e.kept.1;
      };
    }
