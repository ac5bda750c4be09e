use Rattle.std.proofs.Common.{◌≡◌, ◌≤◌, length, drop, sym, ap, ◌∙◌, arith}
use Rattle.std.proofs.lemmas.List.{length-take-le}
use Rattle.search.proofs.Plans.{written_first}
use Rattle.search.proofs.plan.write_plan.Goals as goal

pub returns : goal.returns
returns g c =
    let w = c.write_back-count in
    let list = c.reverse.new.self in
    let room : w.result ≤ length w.new.plan = omega arith in
    let long : length list ≡ w.result = c.reverse.ensures.len ∙ length-take-le w.result w.new.plan room in
    record {
      few = w.ensures.few;
      count = λ zero le. sym long ∙ ap length (c.reverse.ensures.after ∙ w.ensures.plan zero le);
      written = λ zero le. written_first _ list (drop w.result w.new.plan) c.args.plan.now w.result long (c.reverse.ensures.after ∙ w.ensures.plan zero le) w.ensures.rest;
    }
