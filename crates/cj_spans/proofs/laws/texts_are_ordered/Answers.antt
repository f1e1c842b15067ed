use Rattle.cj_spans.proofs.Common.{◌∙◌, ap, tied_itself, is_eq}
use Rattle.std.specs.Cmp.Lexicographic.{bytes_decides, nat_list_cmp_total, options_total, texts_ties}
use Rattle.cj_spans.proofs.laws.texts_are_ordered.Goals as goal

pub returns-clause-total : goal.returns-clause-total
returns-clause-total c = options_total nat_list_cmp_total

pub returns-clause-same : goal.returns-clause-same
returns-clause-same c =
    λ s t. (
      λ h. (bytes_decides s t).0 (texts_ties s t ∙ ap is_eq h),
      λ h. rw (← h) (tied_itself nat_list_cmp_total s),
    )
