use Rattle.cj_spans.proofs.Common.{is_eq-slice_cmp, rules}
use Rattle.cj_spans.proofs.text.compare.spells.Goals as goal

pub returns-else-is_spelled_so : goal.returns-else-is_spelled_so
returns-else-is_spelled_so c = search (rules, is_eq-slice_cmp)
