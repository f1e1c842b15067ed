use Rattle.cj_spans.proofs.Common.{refl, rules, sym, ◌∙◌, compare}
use Rattle.cj_spans.proofs.Quoted.{order_ends, order_apart}
use Rattle.cj_spans.proofs.text.compare.compare_spellings.Goals as goal

pub returns-in-None-None : goal.returns-in-None-None
returns-in-None-None c =
    let p = c.pass_alike.new.left in
    let q = c.pass_alike.new.right in
    sym (order_ends p.bytes.now q.bytes.now p.place q.place (search rules) c.in-None-None.ensures)
    ∙ c.pass_alike.ensures.order ∙ (λ k. compare (c.of-left.ensures k) (c.of-right.ensures k))

pub returns-in-Some-Some : goal.returns-in-Some-Some
returns-in-Some-Some c =
    let p = c.pass_alike.new.left in
    let q = c.pass_alike.new.right in
    let t = c.if-differ_plainly.ensures in
    c.cmp.ensures ∙ sym (order_apart p.bytes.now q.bytes.now p.place q.place
    c.in-Some-Some.ensures c.in-Some-Some.ensures' (t.differ refl) (t.ascii refl) (t.plain refl))
    ∙ c.pass_alike.ensures.order ∙ (λ k. compare (c.of-left.ensures k) (c.of-right.ensures k))
