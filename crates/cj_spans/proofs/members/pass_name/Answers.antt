use Rattle.cj_spans.proofs.Common.{rules, AfterName}
use Rattle.cj_spans.proofs.Leads.{leads_on}
use Rattle.cj_spans.proofs.Signs.{name_leads, leads_string, leads_colon, name_small, name_room, name_reserved}
use Rattle.cj_spans.proofs.members.pass_name.Goals as goal

pub read_string-requires : goal.read_string-requires
read_string-requires c = record {
  short = search rules;
  small = (name_small _ _ c.requires.stands c.requires.within).1;
  within = search rules;
  room = name_room _ _ c.requires.stands c.requires.within c.requires.begins;
  reserved = name_reserved _ _ c.requires.stands;
}

pub returns-then-stands_at-clause-leads : goal.returns-then-stands_at-clause-leads
returns-then-stands_at-clause-leads c =
    let f = c.args.from in
    let us = c.read_string.new.tokens in
    let q = c.in-Some.ensures.string in
    leads_on (leads_string _ _ us f.mode AfterName
    (name_leads f.mode c.requires.begins) q.0 q.1)
    (leads_colon _ us _ (c.stands_at.ensures c.if-stands_at.true))

pub returns-clause-leads : goal.returns-clause-leads
returns-clause-leads c =
    let f = c.args.from in
    let q = c.in-Some.ensures.string in
    leads_string _ _ _ f.mode AfterName
    (name_leads f.mode c.requires.begins) q.0 q.1
