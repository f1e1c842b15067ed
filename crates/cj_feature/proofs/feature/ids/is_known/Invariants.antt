use Rattle.cj_feature.proofs.Common.{is_known, members_left, members_of, tree, ◌≡◌}
use Rattle.cj_feature.proofs.feature.ids.is_known.Given as goal

abbrev pub invariant-loop-name : goal.invariant-loop-name
invariant-loop-name l = is_known (members_left l.name-iterator) (tree l.id) ≡ is_known (members_of (tree l.objects))
    (tree l.id)
