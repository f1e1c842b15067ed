use Rattle.cj_spans.proofs.Common.{rules, Some}
use Rattle.cj_spans.proofs.Findings.{added_kept}
use Rattle.cj_spans.proofs.least.Least.add.Goals as goal

pub returns-then-is_before-clause-least : goal.returns-then-is_before-clause-least
returns-then-is_before-clause-least c = λ fs a. added_kept fs _ (Some _) _ (search rules) a

pub returns-else-is_before-clause-least : goal.returns-else-is_before-clause-least
returns-else-is_before-clause-least c = λ fs a. added_kept fs _ _ _ (search rules) a
