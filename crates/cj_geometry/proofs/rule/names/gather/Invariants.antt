use Rattle.cj_geometry.proofs.Common.{IsSome, length, limit_in, members_left, members_of, members_source, names_of, source_of, take, tree, ◌<◌, ◌≡◌}
use Rattle.cj_geometry.proofs.Rooms.{HasGathered}
use Rattle.cj_geometry.proofs.rule.names.gather.Given as goal

abbrev pub invariant-loop-node : goal.invariant-loop-node
invariant-loop-node l = record {
  some : 0 < length l.kept;
  fewer : length l.kept < length l.room;
  count : l.held.count < length l.room;
  more : IsSome l.held.ceiling → 0 < l.held.count;
  source : members_source l.node-iterator ≡ source_of l.object;
  gathered : HasGathered (source_of l.object) (names_of (members_of (tree l.object)))
      (names_of (members_left l.node-iterator)) (limit_in (source_of l.object) l.fn.floor) l.held.ceiling
      (take l.held.count l.room);
}
