use Rattle.cj_spans.proofs.Common.{rules, arith, tree, line_of, source_of, members_left, members_line, members_source, pairs_of}
use Rattle.cj_spans.proofs.SourceWalks.{at_name, member_on, shown_none, whole_later}
use Rattle.cj_spans.proofs.node.MembersIterator.next.Goals as goal

pub returns-then-name-self-clause-steps : goal.returns-then-name-self-clause-steps
unfolding members_left members_source
returns-then-name-self-clause-steps c = search (rules, pairs_of, shown_none)

pub after-self-requires : goal.after-self-requires
after-self-requires c =
    let s = c.args.self.now in
    let a = at_name s.source s.next s.stop s.whole s.named (omega arith) in
    let v = a.value in
    let w = s.whole.0 in
    omega arith

pub invariant_of-self : goal.invariant_of-self
invariant_of-self c =
    let s = c.args.self.now in
    let m = member_on s.source s.next s.stop _ s.whole s.named (omega arith)
    c.after-self.ensures.link in
    record {
      whole = whole_later s.source s.next _ s.stop (omega arith) s.whole;
      named = m.named;
    }

pub returns-clause-steps : goal.returns-clause-steps
unfolding members_left tree members_line line_of members_source source_of
returns-clause-steps c = search (rules, member_on)

pub returns-clause-goes : goal.returns-clause-goes
unfolding members_left tree
returns-clause-goes c = search (rules, member_on)
