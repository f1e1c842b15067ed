use Rattle.cj_spans.proofs.Common.{arith, sym, ap, ◌∙◌, kind_by, tree, line_of}
use Rattle.cj_spans.proofs.Triples.{room_within, three_long, wholes, few_wholes}
use Rattle.cj_spans.proofs.Views.{kind_shown}
use Rattle.cj_spans.proofs.node.Node.is_short_triple.Goals as goal

pub are_whole_signs-requires-clause-order : goal.are_whole_signs-requires-clause-order
are_whole_signs-requires-clause-order c =
    let n = c.args.self in
    let s = n.source in
    let t = c.token_at-token.result in
    let here = c.token_at-token.ensures in
    room_within s.line.now t.start t.stop (s.within n.index t here).0 c.if-self-start-ne91.false
    ((s.spelled n.index t here).1 c.if-self-start-ne91.false)

pub returns-then-stop-start-le-FEW_BYTES : goal.returns-then-stop-start-le-FEW_BYTES
unfolding tree line_of
returns-then-stop-start-le-FEW_BYTES c =
    let n = c.args.self in
    let s = n.source in
    let t = c.token_at-token.result in
    let here = c.token_at-token.ensures in
    record {
      array = λ so.
          sym (kind_shown s.line.now s.tokens.now n.index t here (sym (ap kind_by c.if-self-start-ne91.false)));
      three = λ so.
          three_long s n.index t here c.if-self-start-ne91.false
          (sym (c.after.ensures.link t here) ∙ c.if-after-self.false)
          (c.are_whole_signs.ensures c.if-are_whole_signs.true);
      wholes = λ so.
          few_wholes s n.index t here c.if-self-start-ne91.false
          (sym (c.after.ensures.link t here) ∙ c.if-after-self.false)
          (c.are_whole_signs.ensures c.if-are_whole_signs.true) (omega arith);
    }

pub returns-else-stop-start-le-FEW_BYTES : goal.returns-else-stop-start-le-FEW_BYTES
unfolding tree line_of
returns-else-stop-start-le-FEW_BYTES c =
    let n = c.args.self in
    let s = n.source in
    let t = c.token_at-token.result in
    let here = c.token_at-token.ensures in
    record {
      array = λ so.
          sym (kind_shown s.line.now s.tokens.now n.index t here (sym (ap kind_by c.if-self-start-ne91.false)));
      three = λ so.
          three_long s n.index t here c.if-self-start-ne91.false
          (sym (c.after.ensures.link t here) ∙ c.if-after-self.false)
          (c.are_whole_signs.ensures c.if-are_whole_signs.true);
      wholes = λ so.
          wholes s n.index t here c.if-self-start-ne91.false
          (sym (c.after.ensures.link t here) ∙ c.if-after-self.false)
          (c.are_whole_signs.ensures c.if-are_whole_signs.true) (λ m u l h g. c.has_short_items.ensures so m u l h g);
    }
