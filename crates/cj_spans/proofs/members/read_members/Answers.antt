use Rattle.cj_spans.proofs.Common.{arith, refl, rules, Ready}
use Rattle.cj_spans.proofs.WholeNumbers.{stands_on, stands_small, stands_within, stands_room, stands_reserved, opens_array, opens_object, standing_opened, opened_in, standing_refused}
use Rattle.cj_spans.proofs.Leads.{leads_from, stands_from, innermost_from, stands_inside}
use Rattle.cj_spans.proofs.members.read_members.Goals as goal

pub open-requires : goal.open-requires
open-requires c =
    let i = c.loop-next.invariant in
    let s = stands_from i.stands i.object c.pass_name-named.ensures.leads c.in-Ready.is in
    let h = c.stands_at.ensures c.if-stands_at.true in
    record {
      small = stands_small s h.0;
      lists = stands_within s;
      room = stands_room s h.0 tt;
      reserved = stands_reserved s;
    }

pub open-requires-then-stands_at-2 : goal.open-requires-then-stands_at-2
open-requires-then-stands_at-2 c =
    let i = c.loop-next.invariant in
    let s = stands_from i.stands i.object c.pass_name-named.ensures.leads c.in-Ready.is in
    let h = c.stands_at-else-stands_at.ensures c.if-stands_at-2.true in
    record {
      small = stands_small s h.0;
      lists = stands_within s;
      room = stands_room s h.0 tt;
      reserved = stands_reserved s;
    }

pub returns-in-Err-clause-answer : goal.returns-in-Err-clause-answer
returns-in-Err-clause-answer c = λ ts ks z.
    let l = c.loop-next in
    let from = leads_from l.stack l.invariant.object c.pass_name-named.ensures.leads c.in-Ready.is in
    let h = c.stands_at.ensures c.if-stands_at.true in
    standing_refused opens_object c.in-Err.ensures tt h.0 h.1 (from ts ks (l.invariant.answer ts ks z))

pub loop-next-preserved-then-stands_at : goal.loop-next-preserved-then-stands_at
loop-next-preserved-then-stands_at c =
    let l = c.loop-next in
    let n = c.pass_name-named in
    let s = stands_from l.invariant.stands l.invariant.object n.ensures.leads c.in-Ready.is in
    let from = leads_from l.stack l.invariant.object n.ensures.leads c.in-Ready.is in
    let h = c.stands_at.ensures c.if-stands_at.true in
    let order = l.invariant.order in let more = n.ensures.order in
    let go = standing_opened opens_object _ Ready c.in-Ok.ensures tt h.0 h.1 in
    record {
      stands = stands_on s go;
      answer = λ ts ks z. go ts ks (from ts ks (l.invariant.answer ts ks z));
      object = opened_in opens_object c.in-Ok.ensures;
      order = omega arith;
    }

pub returns-in-Ok-open : goal.returns-in-Ok-open
returns-in-Ok-open c =
    let l = c.loop-next in
    let from = leads_from l.stack l.invariant.object c.pass_name-named.ensures.leads c.in-Ready.is in
    let h = c.stands_at-else-stands_at.ensures c.if-stands_at-2.true in
    let go = standing_opened opens_array _ Ready c.in-Ok-open.ensures tt h.0 h.1 in
    record {
      answer = λ ts ks z. rw c.in_array.ensures (go ts ks (from ts ks (l.invariant.answer ts ks z)));
      array = rw c.in_array.ensures (λ t. (opened_in opens_array c.in-Ok-open.ensures, tt));
      order = search rules;
    }

pub returns-in-Err-open-clause-answer : goal.returns-in-Err-open-clause-answer
returns-in-Err-open-clause-answer c = λ ts ks z.
    let l = c.loop-next in
    let from = leads_from l.stack l.invariant.object c.pass_name-named.ensures.leads c.in-Ready.is in
    let h = c.stands_at-else-stands_at.ensures c.if-stands_at-2.true in
    standing_refused opens_array c.in-Err-open.ensures tt h.0 h.1 (from ts ks (l.invariant.answer ts ks z))

pub pass_value-next-requires : goal.pass_value-next-requires
pass_value-next-requires c =
    let i = c.loop-next.invariant in
    let n = c.pass_name-named.ensures.leads in
    let s = stands_from i.stands i.object n c.in-Ready.is in
    record { stands = stands_inside s (innermost_from i.stands i.object n) }

pub loop-next-preserved : goal.loop-next-preserved
loop-next-preserved c =
    let l = c.loop-next in
    let n = c.pass_name-named in
    let s = stands_from l.invariant.stands l.invariant.object n.ensures.leads c.in-Ready.is in
    let from = leads_from l.stack l.invariant.object n.ensures.leads c.in-Ready.is in
    let v = c.pass_value-next in
    let order = l.invariant.order in let more = n.ensures.order in let most = v.ensures.order in
    let object = innermost_from l.invariant.stands l.invariant.object n.ensures.leads in
    let go = leads_from l.stack {o = v.result.mode} object v.ensures.leads refl in
    record {
      stands = stands_on s go;
      answer = λ ts ks z. go ts ks (from ts ks (l.invariant.answer ts ks z));
      object = innermost_from s object v.ensures.leads;
      order = omega arith;
    }
