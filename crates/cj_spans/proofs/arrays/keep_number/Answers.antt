use Rattle.cj_spans.proofs.Common.{subst, sym, arith, rules, ReadsNumbers}
use Rattle.cj_spans.proofs.Leads.{in_small, in_room, reads_item, reads_last}
use Rattle.cj_spans.proofs.arrays.keep_number.Goals as goal

pub keep_atom-requires : goal.keep_atom-requires
keep_atom-requires c =
    let n = c.requires.number in
    let order = n.order in let within = n.within in
    record {
      short = search rules;
      small = (in_small c.requires.stands (omega arith)).1;
      room = in_room c.requires.stands (omega arith) c.requires.begins;
      reserved = search rules;
    }

pub returns-then-line-stop-eq44-clause-reads : goal.returns-then-line-stop-eq44-clause-reads
returns-then-line-stop-eq44-clause-reads c =
    let us = c.keep_atom.new.tokens in
    subst (λ r. ReadsNumbers c.args.line.now c.args.tokens.now c.args.from us r) (sym c.before_more.ensures)
    (reads_item c.args.tokens.now us c.args.from c.requires.begins c.requires.number
    c.keep_atom.ensures c.if-line-stop-eq44.true)

pub keep_atom-requires-2 : goal.keep_atom-requires-2
keep_atom-requires-2 c =
    let n = c.requires.number in
    let order = n.order in let within = n.within in
    record {
      short = search rules;
      small = (in_small c.requires.stands (omega arith)).1;
      room = in_room c.requires.stands (omega arith) c.requires.begins;
      reserved = search rules;
    }

pub returns-clause-reads : goal.returns-clause-reads
returns-clause-reads c = search (rules, reads_last)
