use Rattle.cj_spans.proofs.Common.{◌≡◌, refl, ◌∙◌, ap, nat_cmp, YieldsList-from_first, cmp_from_yields_List, characters_left}
use Rattle.cj_spans.proofs.text.compare.compare_strings.Goals as goal

pub returns : goal.returns
returns c =
    cmp_from_yields_List {v = λ x. x} (λ s t. t ≡ s) _ nat_cmp _ c.cmp.ensures.ran
    (YieldsList-from_first (λ x. x) characters_left _ c.of.ensures)
    (λ it e. YieldsList-from_first (λ x. x) characters_left _
    (ap characters_left {x = it} {y = c.of-2.result} e ∙ c.of-2.ensures)) (λ x y. refl)
