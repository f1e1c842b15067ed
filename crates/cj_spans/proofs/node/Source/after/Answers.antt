use Rattle.cj_spans.proofs.Common.{◌+◌, drop, ap, sym, ◌∙◌, arith, length-drop, Token, before}
use Rattle.cj_spans.proofs.Views.{before_length}
use Rattle.cj_spans.proofs.Spellings.{some_same}
use Rattle.cj_spans.proofs.node.Source.after.Goals as goal

pub returns : goal.returns
returns c = record {
  order =
      let s = c.args.self in
      let t = c.token_at.result in
      let l = s.linked _ t c.token_at.ensures in
      let d = drop (c.args.index + 1) s.tokens.now in
      let e = before_length t.stop d in
      let f = length-drop (c.args.index + 1) s.tokens.now in
      (omega arith, omega arith);
  link =
      λ t h.
      let s = c.args.self in
      let u = c.token_at.result in
      let l = s.linked _ u c.token_at.ensures in
      l ∙ ap (λ (v : Token). c.args.index + 1 + before v.stop (drop (c.args.index + 1) s.tokens.now))
      (some_same u t (sym c.token_at.ensures ∙ h));
}
