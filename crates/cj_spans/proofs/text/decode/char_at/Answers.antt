use Rattle.cj_spans.proofs.Common.{refl}
use Rattle.cj_spans.proofs.Texts.{char_some, char_none}
use Rattle.cj_spans.proofs.text.decode.char_at.Goals as goal

pub returns-in-Some : goal.returns-in-Some
returns-in-Some c = λ cs e. char_some _ _ _ c.in-Some.ensures.char e

pub returns-in-None : goal.returns-in-None
returns-in-None c = λ cs e. char_none _ _ _ c.in-None.ensures.char e refl refl
