use Rattle.std.proofs.Common.{refl, lit<}
use Rattle.cj_spans.proofs.Judgements.{syntax_inside}
use Rattle.cj_spans_tests.proofs.examples.trailing_comma.Goals as goal

pub returns : goal.returns
returns c = syntax_inside _ _ _ refl (lit< tt) refl
