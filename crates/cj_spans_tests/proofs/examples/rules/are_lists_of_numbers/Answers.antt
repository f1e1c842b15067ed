use Rattle.cj_spans_tests.specs.Examples.{not_numbers}
use Rattle.cj_spans.proofs.Findings.{least_on}
use Rattle.cj_spans_tests.proofs.examples.rules.are_lists_of_numbers.Goals as goal

pub loop-item-preserved : goal.loop-item-preserved
loop-item-preserved c =
    least_on not_numbers _ _ _ _ _ _ c.loop-item.invariant c.in-Some.ensures.steps.0 c.are_numbers.ensures
