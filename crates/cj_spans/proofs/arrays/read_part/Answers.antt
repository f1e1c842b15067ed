use Rattle.cj_spans.proofs.Common.{sym, ◌∙◌}
use Rattle.cj_spans.proofs.WholeNumbers.{stands_on}
use Rattle.cj_spans.proofs.Leads.{too_deep}
use Rattle.cj_spans.proofs.arrays.read_part.Goals as goal

pub returns-then-len-limit-clause-answer : goal.returns-then-len-limit-clause-answer
returns-then-len-limit-clause-answer c = λ t0 s0 z.
    let e = c.in-Ok.ensures in
    let n = e.comes in
    too_deep (stands_on c.requires.stands e.answer)
    n.begins n.within n.bracket (sym c.len.ensures.value ∙ c.if-len-limit.true ∙ c.limit.ensures.value)
    (e.answer t0 s0 z)
