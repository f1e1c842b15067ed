use Rattle.cj_geometry.proofs.Common.{drop, map, row_at, tree, ◌≡◌}
use Rattle.cj_geometry.specs.Meaning.ObjectTypes.{row_in, row_of}
use Rattle.cj_geometry.proofs.object_type.ObjectType.of_other.Given as goal

abbrev pub invariant-loop-object_type : goal.invariant-loop-object_type
invariant-loop-object_type l = row_in (map row_at (drop l.object_type-index l.object_type-items)) (tree l.node)
    ≡ row_of (tree l.node)
