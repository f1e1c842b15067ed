use Rattle.cj_feature.proofs.Common.{AddsNone}
use Rattle.cj_feature.proofs.feature.search.near.lists.Lists.count_lists.Given as goal

abbrev pub invariant-loop-name : goal.invariant-loop-name
invariant-loop-name g l = AddsNone l.fn.self l.self
