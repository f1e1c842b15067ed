use Rattle.cj_feature.proofs.Walking.{if-none}
use Rattle.cj_feature.proofs.feature.search.reached.find_listed.Goals as goal

-- each name is looked for
pub returns-in-Few-clause-none : goal.returns-in-Few-clause-none
returns-in-Few-clause-none c =
    if-none c.find_among.result
    (λ all p held marked item listed m among same. all p held marked item listed m among same tt)
    c.find_among.ensures.none
