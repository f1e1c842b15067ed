use Rattle.cj_geometry.proofs.Common.{least, members_left, repeats_of, tree, ◌≡◌}
use Rattle.cj_geometry.proofs.rule.names.check_later.Given as goal

abbrev pub invariant-loop-later : goal.invariant-loop-later
invariant-loop-later l =
    least l.found (repeats_of (tree l.name) (members_left l.later-iterator))
    ≡ least l.initial.found (repeats_of (tree l.name) (members_left l.rest))
