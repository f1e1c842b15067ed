use Rattle.std.proofs.Common.{refl, ap}
use Rattle.cj_spans.proofs.Spellings.{some_same}
use Rattle.cj_spans.proofs.Judgements.{syntax_end}
use Rattle.cj_spans_tests.proofs.examples.empty_line.Goals as goal

pub returns : goal.returns
returns c = syntax_end _ _ _ refl refl (λ ts p h. let e = ap (λ u. u.phase) (some_same _ _ h) in cc)
