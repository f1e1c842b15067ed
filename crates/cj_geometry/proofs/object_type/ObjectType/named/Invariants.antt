use Rattle.cj_geometry.proofs.Common.{drop, map, row_at, row_named, row_named_in, ◌≡◌}
use Rattle.cj_geometry.proofs.object_type.ObjectType.named.Given as goal

abbrev pub invariant-loop-object_type : goal.invariant-loop-object_type
invariant-loop-object_type l = row_named_in (map row_at (drop l.object_type-index l.object_type-items)) l.name
    ≡ row_named l.name
