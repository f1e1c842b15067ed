use Rattle.cj_geometry.proofs.Common.{are_apart, false, length, members_left, members_of, replicate, tree, ◌≡◌}
use Rattle.cj_geometry.proofs.rule.names.begin_apart.Given as goal

abbrev pub invariant-loop-name : goal.invariant-loop-name
invariant-loop-name l =
    (are_apart (replicate 32 false) (members_of (tree l.object)) ≡ are_apart l.taken (members_left l.name-iterator))
    × (length l.taken ≡ 32)
