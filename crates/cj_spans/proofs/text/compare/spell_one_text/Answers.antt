use Rattle.cj_spans.proofs.Common.{is_eq-slice_cmp, rules}
use Rattle.cj_spans.proofs.text.compare.spell_one_text.Goals as goal

pub returns : goal.returns
returns c = search (rules, is_eq-slice_cmp)
