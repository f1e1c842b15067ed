use Rattle.cj_stream.proofs.Common.{ap, line_end}
use Rattle.cj_stream.proofs.CutLemmas.{CopiesLines-puts}
use Rattle.cj_stream.proofs.line_pieces.headline_of_lines.Goals as goal

pub returns-clause-copies : goal.returns-clause-copies
returns-clause-copies g c = λ p st.
    CopiesLines-puts _ _ _ p
    _ _ _ _
    _ (c.put_lines.ensures.puts p st)

pub returns-clause-headline : goal.returns-clause-headline
returns-clause-headline g c = λ p st.
    let fed = c.put_lines.ensures.fed p st in
    record {
      writes = (returns-clause-copies g c p st).writes;
      gives = (c.put_lines.ensures.notes p st).noted;
      ends = (c.put_lines.ensures.puts p st).ends;
      cause = c.put_lines.ensures.cause;
      held = fed.bounded;
      exact = λ h. fed.exact (ap line_end h);
    }
