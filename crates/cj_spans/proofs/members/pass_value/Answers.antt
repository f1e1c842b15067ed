use Rattle.cj_spans.proofs.Common.{rules, Ready, After}
use Rattle.cj_spans.proofs.Leads.{leads_on}
use Rattle.cj_spans.proofs.Signs.{leads_string, leads_comma, name_small, string_room, name_reserved}
use Rattle.cj_spans.proofs.members.pass_value.Goals as goal

pub read_string-requires : goal.read_string-requires
read_string-requires c = record {
  short = search rules;
  small = (name_small _ _ c.requires.stands c.if-place-line.false).1;
  within = search rules;
  room = string_room _ _ c.requires.stands c.if-place-line.false;
  reserved = name_reserved _ _ c.requires.stands;
}

pub returns-then-stands_at-clause-leads : goal.returns-then-stands_at-clause-leads
returns-then-stands_at-clause-leads c =
    let us = c.read_string.new.tokens in
    let q = c.in-Some.ensures.string in
    leads_on
    (leads_string _ _ us Ready After tt q.0 q.1)
    (leads_comma _ us _ (c.stands_at.ensures c.if-stands_at.true))

pub returns-clause-leads : goal.returns-clause-leads
returns-clause-leads c = let q = c.in-Some.ensures.string in leads_string _ _ _ Ready After tt q.0 q.1
