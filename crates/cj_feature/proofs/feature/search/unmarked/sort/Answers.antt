use Rattle.cj_feature.proofs.Common.{always_returns_same, compare_sides, is_lt, ranks_by, rules, side_in}
use Rattle.cj_feature.proofs.Questions.{sides_total}
use Rattle.cj_feature.proofs.feature.search.unmarked.sort.Goals as goal

pub returns-clause-order : goal.returns-clause-order
returns-clause-order c =
    let side = side_in c.args.objects in
    c.sort_unstable_by.ensures.sorted (λ a b. is_lt (compare_sides (side a) (side b))) (ranks_by sides_total side)
    (always_returns_same _ _ _ (λ a r g h. search rules))
