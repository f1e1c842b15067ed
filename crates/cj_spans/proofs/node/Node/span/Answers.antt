use Rattle.cj_spans.proofs.Common.{◌∙◌, refl, rules, tree, line_of}
use Rattle.cj_spans.proofs.Triples.{number_of_spelling}
use Rattle.cj_spans.proofs.Views.{kind_shown, spelling_shown}
use Rattle.cj_spans.proofs.node.Node.span.Goals as goal

pub returns : goal.returns
unfolding tree line_of
returns c = record {
  order = search rules;
  within = (c.args.self.source.within _ _ c.token_at-token.ensures).1;
  spelling =
      let s = c.args.self.source in
      spelling_shown s.line.now s.tokens.now _ _ c.token_at-token.ensures;
  kind =
      let s = c.args.self.source in
      kind_shown s.line.now s.tokens.now _ _ c.token_at-token.ensures refl;
  number =
      λ is.
      let s = c.args.self.source in
      let token = c.token_at-token.result in
      number_of_spelling _ ((s.spelled _ token c.token_at-token.ensures).0
      (kind_shown s.line.now s.tokens.now _ token {r = _} c.token_at-token.ensures refl ∙ is));
}
