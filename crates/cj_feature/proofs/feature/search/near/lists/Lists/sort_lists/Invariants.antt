use Rattle.cj_feature.proofs.Common.{AddsNone}
use Rattle.cj_feature.proofs.feature.search.near.lists.Lists.sort_lists.Given as goal

abbrev pub invariant-loop-list : goal.invariant-loop-list
invariant-loop-list g l = AddsNone l.fn.self l.self
