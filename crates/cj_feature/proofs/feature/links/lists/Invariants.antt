use Rattle.cj_feature.proofs.Common.{chars, lists, members_left, members_of, tree, ◌≡◌}
use Rattle.cj_feature.proofs.feature.links.lists.Given as goal

abbrev pub invariant-loop-name : goal.invariant-loop-name
invariant-loop-name l = lists (chars l.list) (members_left l.name-iterator) (tree l.from) (tree l.to)
    ≡ lists (chars l.list) (members_of (tree l.objects)) (tree l.from) (tree l.to)
