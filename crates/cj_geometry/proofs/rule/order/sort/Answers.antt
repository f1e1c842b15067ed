use Rattle.cj_geometry.proofs.Common.{All-permutation, IsWorded, compare_worded, is_lt, ranks_by, rules, source_of}
use Rattle.cj_geometry.proofs.Distinct.{ascend_sorted, compares_as, worded_order}
use Rattle.cj_geometry.proofs.rule.order.sort.Goals as goal

pub returns-clause-order : goal.returns-clause-order
returns-clause-order c =
    let s = source_of c.args.object in
    ascend_sorted s _
    (All-permutation (IsWorded s) _ _ c.sort_unstable_by.ensures.permutation c.requires)
    (c.sort_unstable_by.ensures.sorted (λ d e. is_lt (compare_worded s d e)) (ranks_by (worded_order s) (λ e. e))
    (compares_as (compare_worded s) (λ a r f k. search rules)))
