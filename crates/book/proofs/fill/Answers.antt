use Rattle.std.proofs.Common.{◌≡◌, ap, sym, ◌∙◌, arith, rules}
use Rattle.book.specs.Records.{shown, shown_result}
use Rattle.book.proofs.Accepted.{filling_begins, said, said_by, second, no_fault, filled}
use Rattle.book.proofs.fill.Goals as goal

pub loop-raw-init : goal.loop-raw-init
loop-raw-init c = filling_begins c.args.book.now c.args.actions.now c.into_iter-raw-iterator.result (ap (λ z. z.left.now) c.into_iter-raw-iterator.ensures.into_iter_gives ∙ c.of-raw-items.ensures.left) (ap (λ z. z.at) c.into_iter-raw-iterator.ensures.into_iter_gives ∙ c.of-raw-items.ensures.place)

pub returns-in_default : goal.returns-in_default
returns-in_default c b e =
    let read : shown_result c.and_then.result ≡ said c.in-Some.raw = search (rules, said_by) in
    absurd (no_fault c.args.book.now c.loop-raw.raw-iterator c.next.new.self c.in-Some.raw c.loop-raw.count c.args.actions.now c.loop-raw.actions b c.in_default.field-0 c.loop-raw.invariant c.in-Some.ensures.steps e (sym (ap shown_result c.in_default.is) ∙ read))

pub put-count-requires : goal.put-count-requires
put-count-requires c =
    let read : shown_result c.and_then.result ≡ said c.in-Some.raw = search (rules, said_by) in
    let s = second c.args.book.now c.loop-raw.raw-iterator c.next.new.self c.in-Some.raw c.loop-raw.count c.args.actions.now c.loop-raw.actions (shown c.in-Ok.part) c.requires c.loop-raw.invariant c.in-Some.ensures.steps (sym (ap shown_result c.in-Ok.is) ∙ read) in
    (s.limited, omega (arith, s.room))

pub loop-raw-preserved : goal.loop-raw-preserved
loop-raw-preserved c =
    let read : shown_result c.and_then.result ≡ said c.in-Some.raw = search (rules, said_by) in
    let s = second c.args.book.now c.loop-raw.raw-iterator c.next.new.self c.in-Some.raw c.loop-raw.count c.args.actions.now c.loop-raw.actions (shown c.in-Ok.part) c.requires c.loop-raw.invariant c.in-Some.ensures.steps (sym (ap shown_result c.in-Ok.is) ∙ read) in
    s.on c.put-count.result c.put-count.new.actions c.put-count.ensures.value c.put-count.ensures.first c.put-count.ensures.rest

pub returns : goal.returns
returns c b e =
    filled c.args.book.now c.loop-raw.raw-iterator.left.now c.loop-raw.raw-iterator.at c.loop-raw.count c.args.actions.now c.loop-raw.actions b c.loop-raw.invariant c.in-None.ensures.steps e
