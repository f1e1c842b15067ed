use Rattle.cj_feature.proofs.Common.{Knows}
use Rattle.cj_feature.proofs.Walking.{Among}
use Rattle.cj_feature.proofs.feature.search.near.lists.Lists.fill_lists.Given as goal

abbrev pub invariant-loop-name : goal.invariant-loop-name
invariant-loop-name g l = record {
  walk : Among l.objects l.name-iterator;
  known : Knows l.objects l.self;
}
