use Rattle.cj_stream.proofs.Common.{feature_tree, geometries_left, has_lod, header_tree, is_one_of, list_any, lod, map, string_bytes, there_is, ◌≡◌}
use Rattle.cj_geometry.specs.Given.{given}
use Rattle.cj_stream.proofs.query.holding.has_lod_alone.Given as goal

abbrev pub invariant-loop-geometry : goal.invariant-loop-geometry
invariant-loop-geometry l =
    list_any (λ g. there_is (is_one_of (map string_bytes l.lods)) (lod (given l.templates) g))
    (geometries_left l.geometry-iterator) ≡ has_lod (map string_bytes l.lods) (header_tree l.fn.header)
    (feature_tree l.fn.feature)
