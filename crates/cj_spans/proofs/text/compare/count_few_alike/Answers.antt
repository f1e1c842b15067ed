use Rattle.cj_spans.proofs.Common.{arith, ◌-◌, refl}
use Rattle.cj_spans.proofs.Quoted.{alike_first, alike_more}
use Rattle.cj_spans.proofs.text.compare.count_few_alike.Goals as goal

pub returns-in-Some-find_unlike_of_few : goal.returns-in-Some-find_unlike_of_few
returns-in-Some-find_unlike_of_few c =
    let first = alike_first _ _ _ _ 8 (omega arith)
    (omega arith) c.in_default.ensures.none in
    let few = c.in-Some-find_unlike_of_few.ensures.found.0 in
    alike_more (c.args.room - 8) c.in-Some-find_unlike_of_few.more first (omega arith) refl (omega arith)
    (omega arith) c.in-Some-find_unlike_of_few.ensures.found.1

pub returns-in-None : goal.returns-in-None
returns-in-None c =
    let first = alike_first _ _ _ _ 8 (omega arith)
    (omega arith) c.in_default.ensures.none in
    alike_more (c.args.room - 8) 8 first (omega arith) (omega arith) (omega arith) (omega arith) c.in-None.ensures.none
