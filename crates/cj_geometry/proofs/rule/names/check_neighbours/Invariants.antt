use Rattle.cj_geometry.proofs.Common.{IfSome, IsWorded, drop, last_of, least, limit_in, names_in, neighbours, source_of, ◌≡◌}
use Rattle.cj_geometry.proofs.rule.names.check_neighbours.Given as goal

abbrev pub invariant-loop-name : goal.invariant-loop-name
invariant-loop-name l = record {
  word : IfSome l.before (IsWorded (source_of l.object));
  last : last_of (limit_in (source_of l.object) l.before) (names_in (source_of l.object) (drop l.name-index l.names))
      ≡ last_of (limit_in (source_of l.object) l.fn.floor) (names_in (source_of l.object) l.names);
  found : least l.found (neighbours (limit_in (source_of l.object) l.before)
      (names_in (source_of l.object) (drop l.name-index l.names)))
      ≡ least l.initial.found (neighbours (limit_in (source_of l.object) l.fn.floor)
      (names_in (source_of l.object) l.names));
}
