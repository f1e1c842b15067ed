use Rattle.std.proofs.Common.{refl}
use Rattle.cj_spans.proofs.Judgements.{syntax_end}
use Rattle.cj_spans_tests.proofs.examples.lone_minus.Goals as goal

pub returns : goal.returns
returns c = syntax_end _ _ _ refl refl (λ ts p h. cc)
