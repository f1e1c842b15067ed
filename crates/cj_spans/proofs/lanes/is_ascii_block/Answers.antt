use Rattle.cj_spans.proofs.Common.{arith, eqb-true}
use Rattle.cj_spans.proofs.Strings.{all_ascii}
use Rattle.cj_spans.proofs.lanes.is_ascii_block.Goals as goal

pub returns : goal.returns
returns c = λ h. all_ascii 64 _ _ (omega arith) c.requires (eqb-true _ _ h)
