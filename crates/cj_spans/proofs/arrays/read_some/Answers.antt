use Rattle.cj_spans.proofs.Common.{subst, ReadsNumbers, rules}
use Rattle.cj_spans.proofs.Leads.{reads_on, stands_leads}
use Rattle.cj_spans.proofs.arrays.read_some.Goals as goal

pub read_number-requires-2-clause-stands : goal.read_number-requires-2-clause-stands
read_number-requires-2-clause-stands c = search (rules, stands_leads)

pub returns : goal.returns
returns c =
    let b = c.args.line.now in
    let n = c.read_block-numbers in
    reads_on
    (subst (λ f. ReadsNumbers b c.args.tokens.now c.args.from n.new.tokens
    (record { next = n.result.next; ended = f })) c.if-numbers.false n.ensures) c.read_number-2.ensures
