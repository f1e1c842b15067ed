use Rattle.cj_spans.proofs.Common.{◌≡◌, true, refl, sym, subst, ◌∙◌, is_marked_at, tree, line_of, source_of, tokens_in, rules}
use Rattle.cj_spans.proofs.Noted.{mark_of, marked_within, one_number}
use Rattle.cj_spans.proofs.node.Node.marked.Goals as goal

-- what is answered is whether the node's own token has a mark
own : (c : goal.After-has_mark) → c.has_mark.result ≡ is_marked_at c.args.self.source.tokens.now c.args.self.index
own c = search (rules, mark_of)

pub returns : goal.returns
unfolding tree line_of source_of tokens_in
returns c = record {
  yes = λ yes. record { number = c.args.self.index; marked = sym (own c) ∙ yes; shown = refl };
  no =
      λ no m.
      let n = c.args.self in
      let ts = n.source.tokens.now in
      let same = one_number n.source.line.now ts m.number n.index n.source.rising (marked_within ts m.number m.marked)
      n.known m.shown in
      let here : is_marked_at ts n.index ≡ true = subst (λ k. is_marked_at ts k ≡ true) same m.marked in
      absurd (cc (sym (own c) ∙ no, here));
}
