use Rattle.cj_spans.proofs.Common.{subst, ReadsNumbers, rules}
use Rattle.cj_spans.proofs.Leads.{reads_on, stands_leads}
use Rattle.cj_spans.proofs.arrays.read_numbers.Goals as goal

pub returns-then-numbers : goal.returns-then-numbers
returns-then-numbers c = search (rules, reads_on)

pub loop-next-preserved : goal.loop-next-preserved
loop-next-preserved c =
    let l = c.loop-next in
    let b = c.args.line.now in
    let n = c.read_some-numbers in
    let us = n.new.tokens in
    let more = subst (λ f. ReadsNumbers b l.tokens l.next us (record { next = n.result.next; ended = f }))
    c.if-numbers.false n.ensures in
    record {
      stands = stands_leads l.invariant.stands n.ensures.leads;
      reads = reads_on l.invariant.reads more;
      begins = n.ensures.begins c.if-numbers.false;
    }
