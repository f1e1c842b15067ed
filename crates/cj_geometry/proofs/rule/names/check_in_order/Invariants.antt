use Rattle.cj_geometry.proofs.Common.{IfSome, IsWorded, length, limit_in, members_of, names_of, source_of, tree, ◌<◌}
use Rattle.cj_geometry.proofs.Distinct.{HasReached, left_above}
use Rattle.cj_geometry.proofs.rule.names.check_in_order.Given as goal

abbrev pub invariant-loop-floor : goal.invariant-loop-floor
invariant-loop-floor l = record {
  some : 0 < length l.kept;
  fewer : length l.kept < length l.room;
  word : IfSome l.floor (IsWorded (source_of l.object));
  reached : HasReached (members_of (tree l.object)) l.initial.found l.found (limit_in (source_of l.object) l.floor);
}

abbrev pub decreases-loop-floor : goal.decreases-loop-floor
decreases-loop-floor l = left_above (names_of (members_of (tree l.object))) (limit_in (source_of l.object) l.floor)
