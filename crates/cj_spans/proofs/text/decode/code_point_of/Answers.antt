use Rattle.cj_spans.proofs.Common.{rules}
use Rattle.cj_spans.proofs.Texts.{plain_point}
use Rattle.cj_spans.proofs.text.decode.code_point_of.Goals as goal

pub returns-else-first : goal.returns-else-first
returns-else-first c = plain_point _ _ _ c.requires (search rules)
