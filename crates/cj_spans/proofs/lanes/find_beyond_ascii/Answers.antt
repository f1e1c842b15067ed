use Rattle.cj_spans.proofs.Common.{arith}
use Rattle.cj_spans.proofs.Strings.{all_ascii, letter_within, ascii_before}
use Rattle.cj_spans.proofs.lanes.find_beyond_ascii.Goals as goal

pub returns-then-others-eq0-clause-none : goal.returns-then-others-eq0-clause-none
returns-then-others-eq0-clause-none c = all_ascii 16 _ _ (omega arith) c.requires c.if-others-eq0.true

pub returns-else-others-eq0-clause-found : goal.returns-else-others-eq0-clause-found
returns-else-others-eq0-clause-found c =
    let within = letter_within 16 _ _ (omega arith) c.requires c.if-others-eq0.false in (
      omega arith,
      omega arith,
      ascii_before 16 _ _ (omega arith) c.requires c.if-others-eq0.false,
    )
