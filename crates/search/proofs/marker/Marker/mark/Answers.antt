use Rattle.std.proofs.Common.{◌≡◌, ◌-◌, length, take, sym, ap, ◌∙◌, subst, arith, take_at}
use borrow.Rule.Slice.PartMut.{post_of}
use Rattle.std.proofs.lemmas.List.{length-take-le, get_or_append_left}
use Rattle.std.proofs.lemmas.Slice.{drop-put_mid}
use Rattle.rules.specs.Marks.{Zeros}
use Rattle.search.proofs.Sweeps.{bit_marked}
use Rattle.search.proofs.marker.Marker.mark.Goals as goal

pub returns-clause-marked : goal.returns-clause-marked
returns-clause-marked g c =
    let o = c.args.self.now in
    let n = o.task.now.actions in
    let whole : n - 0 ≡ n = omega arith in
    let zs = c.mark.new.marks in
    let ws = c.mark.new.work in
    let marks = o.marks.now in
    let work = o.work.now in
    let one : length (take (n - 0) marks) ≡ n = ap (λ m. length (take m marks)) whole ∙ length-take-le n marks o.served.in_marks in
    let room : length (take 4096 work) ≡ 4096 = length-take-le 4096 work o.served.room in
    let long : length zs ≡ n = c.mark.auto.marks ∙ one in
    let wide : length ws ≡ 4096 = c.mark.auto.work ∙ room in
    λ lawful setting k h.
    bit_marked _ k _
    (get_or_append_left zs (post_of 0 (n - 0) marks) 0 k (omega arith)
    ∙ c.mark.ensures.marked (record { enough = o.served.in_table; lawful = lawful; setting = setting; one_each = one; room = room }) k (omega arith))

pub returns-clause-clear : goal.returns-clause-clear
returns-clause-clear g c =
    let o = c.args.self.now in
    let n = o.task.now.actions in
    let whole : n - 0 ≡ n = omega arith in
    let zs = c.mark.new.marks in
    let ws = c.mark.new.work in
    let marks = o.marks.now in
    let work = o.work.now in
    let one : length (take (n - 0) marks) ≡ n = ap (λ m. length (take m marks)) whole ∙ length-take-le n marks o.served.in_marks in
    let room : length (take 4096 work) ≡ 4096 = length-take-le 4096 work o.served.room in
    let long : length zs ≡ n = c.mark.auto.marks ∙ one in
    let wide : length ws ≡ 4096 = c.mark.auto.work ∙ room in
    subst Zeros (sym (take_at ws (post_of 0 4096 work) 4096 wide)) c.mark.ensures.cleared

pub returns-clause-rest : goal.returns-clause-rest
returns-clause-rest g c =
    let o = c.args.self.now in
    let n = o.task.now.actions in
    let whole : n - 0 ≡ n = omega arith in
    let zs = c.mark.new.marks in
    let ws = c.mark.new.work in
    let marks = o.marks.now in
    let work = o.work.now in
    let one : length (take (n - 0) marks) ≡ n = ap (λ m. length (take m marks)) whole ∙ length-take-le n marks o.served.in_marks in
    let room : length (take 4096 work) ≡ 4096 = length-take-le 4096 work o.served.room in
    let long : length zs ≡ n = c.mark.auto.marks ∙ one in
    let wide : length ws ≡ 4096 = c.mark.auto.work ∙ room in
    (drop-put_mid 0 (n - 0) marks zs n (omega arith) (omega arith) (omega arith), drop-put_mid 0 4096 work ws 4096 (omega arith) (omega arith) wide)
