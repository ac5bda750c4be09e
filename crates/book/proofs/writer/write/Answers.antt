use Rattle.std.proofs.Common.{◌≡◌, ◌++◌, length, take, sym, ap, arith, rules}
use Rattle.std.specs.List.{flat_map}
use Rattle.task.specs.Benches.{bench_of}
use Rattle.book.specs.Print.{variable_bytes, goal_bytes, print}
use Rattle.book.specs.Writer.{bench_with}
use Rattle.book.proofs.Puts.{put_length, writes_then, writes_as, book_parts, variables_size, actions_said, atoms_size, few_listed}
use Rattle.book.proofs.Printed.{is_read_back}
use Rattle.book.proofs.Writings.{has_output}
use Rattle.book.proofs.writer.write.Goals as goal

pub all-requires-2 : goal.all-requires-2
all-requires-2 c =
    let b = bench_with c.args.task.now (take c.args.task.now.actions c.args.actions.now) in
    omega (arith, book_parts b, c.book_size.ensures, c.if-out-book_size.false, variables_size c.sizes_of.result.now, ap length c.sizes_of.ensures, put_length c.all.ensures.put, c.all.ensures.put.size, ap length (actions_said (take c.args.task.now.actions c.args.actions.now)))

pub goal-requires : goal.goal-requires
goal-requires c =
    let b = bench_with c.args.task.now (take c.args.task.now.actions c.args.actions.now) in
    let goal = ap length c.list.ensures in (
      omega (arith, book_parts b, c.book_size.ensures, c.if-out-book_size.false, variables_size c.sizes_of.result.now, ap length c.sizes_of.ensures, put_length c.all.ensures.put, c.all.ensures.put.size, ap length (actions_said (take c.args.task.now.actions c.args.actions.now)), put_length c.all-2.ensures.put, c.all-2.ensures.put.size, goal, atoms_size c.list.result.now),
      omega (arith, goal, few_listed c.args.task.now.goal),
    )

pub returns : goal.returns
returns c =
    let actions = actions_said (take c.args.task.now.actions c.args.actions.now) in
    let whole = writes_as (writes_then c.all.ensures (writes_then c.all-2.ensures c.goal.ensures)) (λ i. flat_map variable_bytes (c.sizes_of.ensures i) ++ (actions i ++ goal_bytes (c.list.ensures i))) in
    let b = bench_of c.args.task.now c.args.actions.now in
    let size : c.goal.new.self.at ≡ length (print b) = omega (arith, whole.put.size) in
    let kept = sym whole.same in
    let is = whole.put.is in
    record {
      value = has_output c.args.task.now c.args.actions.now (length c.args.out.now) c.goal.new.self.at c.if-actions-task.false (omega (arith, c.book_size.ensures, c.if-out-book_size.false)) size;
      output = search rules;
      back = λ l. is_read_back b c.args.out.now _ c.goal.new.self.at l size (search rules);
    }
