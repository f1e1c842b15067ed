-- The members of a geometry that its rules look up, as numbers of the line.
use Rattle.std.specs.Prelude.{◌≡◌, option_map, codes}
use Rattle.std.specs.Str.{chars}
use Rattle.cj_spans.specs.Meaning.Parts.{member_of}
use Rattle.cj_spans.specs.View.{tree, tree_in, source_of}
use Rattle.cj_geometry.specs.declared.geometry.Geometry.{Geometry}

-- each number is that of the member, and is there where the member is
pub record AreParts (g : Geometry) : Type 0 where
  pub lod : option_map (tree_in (source_of g.object)) g.lod ≡ member_of (chars (codes "lod")) (tree g.object)
  pub boundaries : option_map (tree_in (source_of g.object)) g.boundaries
      ≡ member_of (chars (codes "boundaries")) (tree g.object)
  pub semantics : option_map (tree_in (source_of g.object)) g.semantics
      ≡ member_of (chars (codes "semantics")) (tree g.object)
