use Rattle.cj_spans.proofs.Common.{sym, rules}
use Rattle.cj_spans.proofs.Texts.{join_lone}
use Rattle.cj_spans.proofs.text.decode.read_escape.Goals as goal

pub returns-then-not-is_high : goal.returns-then-not-is_high
returns-then-not-is_high c =
    λ cs e a. join_lone (search rules) (sym (c.in-Some.ensures.is cs e)) (c.in-Some.ensures.reads cs e)
