use Rattle.cj_feature.proofs.Common.{FindsAll, members_left, members_of, object_links, tree}
use Rattle.cj_feature.proofs.feature.links.check_few_links.Given as goal

abbrev pub invariant-loop-name : goal.invariant-loop-name
invariant-loop-name l =
    FindsAll (object_links (members_of (tree l.objects))) l.found (members_left l.name-iterator) l.initial.found
    (members_of (tree l.objects))
