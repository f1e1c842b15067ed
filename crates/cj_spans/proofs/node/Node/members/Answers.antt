use Rattle.cj_spans.proofs.Common.{ap, arith, rules, line_of, source_of, members_line, members_source, members_left, shown_between}
use Rattle.cj_spans.proofs.SourceWalks.{few_pairs}
use Rattle.cj_spans.proofs.Sizes.{pairs_rise, values_rise, shown_rise}
use Rattle.cj_spans.proofs.node.Node.members.Goals as goal

pub returns : goal.returns
unfolding members_left line_of members_line members_source source_of
returns c = record {
  members = search rules;
  order =
      let w = c.walk.result in let s = w.source in
      pairs_rise (shown_between s.line.now s.tokens.now w.next w.stop)
      (shown_rise s.line.now s.tokens.now w.next w.stop s.within);
  values =
      let w = c.walk.result in let s = w.source in
      values_rise (shown_between s.line.now s.tokens.now w.next w.stop)
      (shown_rise s.line.now s.tokens.now w.next w.stop s.within);
  line = ap (λ s. s.line.now) c.walk.ensures.source;
  source = search rules;
  few =
      let w = c.walk.result in let s = w.source in
      let l = few_pairs s w.next w.stop in omega arith;
}
