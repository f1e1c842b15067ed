use Rattle.cj_spans.proofs.Common.{sym, drop, rules}
use Rattle.cj_spans.proofs.Texts.{join_lone, join_other, join_not_low, join_pair}
use Rattle.cj_spans.proofs.text.decode.join.Goals as goal

pub returns-then-not-is_high : goal.returns-then-not-is_high
returns-then-not-is_high c = λ cs u t. join_lone (search rules) u t

pub returns-then-is_low : goal.returns-then-is_low
returns-then-is_low c = λ cs u t.
    join_pair (search rules)
    (sym (c.in-Some.ensures.is (drop 6 cs) t.rest)) (c.in-Some.ensures.reads (drop 6 cs) t.rest) (search rules) u t

pub returns-else-is_low : goal.returns-else-is_low
returns-else-is_low c =
    λ cs u t. join_not_low (c.in-Some.ensures.reads (drop 6 cs) t.rest) (search rules) u t

pub returns-in-None : goal.returns-in-None
returns-in-None c =
    λ cs u t. join_other (sym (c.in-None.ensures.is (drop 6 cs) t.rest)) u t
