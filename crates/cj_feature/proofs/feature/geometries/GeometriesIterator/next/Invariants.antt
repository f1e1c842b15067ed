use Rattle.cj_feature.proofs.Common.{IfSome, flat_map, items_line, length, members_left, members_line, object_geometries, ◌++◌, ◌≡◌}
use Rattle.cj_geometry.specs.ListSteps.{left_of}
use Rattle.cj_feature.specs.Walks.{geometries_left, geometries_line}
use Rattle.cj_feature.proofs.feature.geometries.GeometriesIterator.next.Given as goal

abbrev pub decreases-loop-items : goal.decreases-loop-items
decreases-loop-items l = length (members_left l.objects)

abbrev pub invariant-loop-items : goal.invariant-loop-items
invariant-loop-items l = record {
  left : left_of l.items ++ flat_map object_geometries (members_left l.objects) ≡ geometries_left l.initial.self;
  objects : members_line l.objects ≡ geometries_line l.initial.self;
  items : IfSome l.items (λ w. items_line w ≡ geometries_line l.initial.self);
}
