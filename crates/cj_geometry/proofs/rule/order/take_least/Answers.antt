use Rattle.cj_geometry.proofs.Common.{compare_worded, is_lt, ranks_by, rules, source_of}
use Rattle.cj_geometry.proofs.Distinct.{compares_as, worded_order, least_copied}
use Rattle.cj_geometry.proofs.rule.order.take_least.Goals as goal

pub returns-clause-least : goal.returns-clause-least
returns-clause-least c =
    let s = source_of c.args.object in
    let r = c.select_nth_unstable_by-front.ensures in
    least_copied s _ _ _ c.copy_from_slice.ensures.after r.permutation
    (r.partitioned (λ d e. is_lt (compare_worded s d e)) (ranks_by (worded_order s) (λ e. e))
    (compares_as (compare_worded s) (λ a r f k. search rules)))
