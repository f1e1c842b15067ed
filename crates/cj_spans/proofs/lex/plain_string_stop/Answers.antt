use Rattle.cj_spans.proofs.Common.{arith, refl, sym, ap, InString, lex_step}
use Rattle.cj_spans.proofs.Atoms.{read_first, read_more}
use Rattle.cj_spans.proofs.lex.plain_string_stop.Goals as goal

pub returns-then-ends_string : goal.returns-then-ends_string
returns-then-ends_string c =
    let o = c.skip_plain-stop.ensures.order in
    let q = c.ends_string.ensures c.if-ends_string.true in
    let within = q.0 in
    record {
      opens = c.if-line-place-ne34.false;
      goes = read_more _ _ _
          (c.skip_plain-stop.ensures.same _ _ (read_first _ _ InString)) refl
          (sym (ap (lex_step InString) q.1));
      order = omega arith;
      within = omega arith;
    }
