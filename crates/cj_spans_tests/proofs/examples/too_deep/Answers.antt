use Rattle.std.proofs.Common.{refl, lit<, lit≤}
use Rattle.cj_spans.proofs.Judgements.{deep_inside}
use Rattle.cj_spans_tests.proofs.examples.too_deep.Goals as goal

pub returns : goal.returns
returns c = deep_inside _ _ _ _ refl (lit< tt) (lit≤ tt) refl
