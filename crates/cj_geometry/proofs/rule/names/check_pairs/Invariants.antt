use Rattle.cj_geometry.proofs.Common.{distinct, least, length, members_left, repeats, tree, ◌≡◌}
use Rattle.cj_geometry.proofs.rule.names.check_pairs.Given as goal

abbrev pub invariant-loop-name : goal.invariant-loop-name
invariant-loop-name l =
    least l.found (repeats (members_left l.rest)) ≡ least l.initial.found (distinct (tree l.object))

abbrev pub decreases-loop-name : goal.decreases-loop-name
decreases-loop-name l = length (members_left l.rest)
