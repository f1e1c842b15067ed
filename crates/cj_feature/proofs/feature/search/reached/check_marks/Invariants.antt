use Rattle.cj_feature.proofs.Common.{FindsAll, members_left, members_of, tree, unreached}
use Rattle.cj_feature.proofs.Walking.{Among}
use Rattle.cj_feature.proofs.feature.search.reached.check_marks.Given as goal

abbrev pub invariant-loop-object : goal.invariant-loop-object
invariant-loop-object l = record {
  walk : Among l.objects l.object-iterator;
  found : FindsAll (unreached (members_of (tree l.objects)) (tree l.id)) l.found (members_left l.object-iterator)
      l.initial.found (members_of (tree l.objects));
}
