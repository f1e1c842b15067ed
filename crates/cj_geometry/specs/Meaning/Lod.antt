-- The level of detail of a geometry (RULES, geometries and queries).
use Rattle.std.specs.Prelude.{List, Bool, false, cond, Option, Some, None, ℤ, pos, negsuc, codes, option_and_then}
use Rattle.std.specs.Prelude.{slice_get}
use Rattle.std.specs.Option.{option_map_or}
use Rattle.std.specs.Str.{chars}
use Rattle.cj_spans.specs.Meaning.Tree.{Tree}
use Rattle.cj_spans.specs.Meaning.Parts.{items_of, member_of, has_text}
use Rattle.cj_geometry.specs.Meaning.Numbers.{whole_of}
use Rattle.cj_geometry.specs.Meaning.Geometry.{TemplateSource, listed}

-- the tree at an index that counts from 0
abbrev pub at_index : List Tree → ℤ → Option Tree
at_index ts (pos k) = slice_get ts k
at_index ts (negsuc k) = None

-- the template that an index chooses, if there is one
abbrev pub chosen : TemplateSource → Tree → Option Tree
chosen (listed l) t = option_and_then (at_index (items_of l)) (whole_of t)
chosen templates t = None

-- the geometry is an instance of a template, by its type
abbrev pub is_instance : Tree → Bool
is_instance g = option_map_or (has_text (chars (codes "GeometryInstance"))) (member_of (chars (codes "type")) g) false

-- the level of detail of an instance's template
abbrev pub template_lod : TemplateSource → Tree → Option Tree
template_lod templates g = option_and_then (member_of (chars (codes "lod")))
    (option_and_then (chosen templates) (member_of (chars (codes "template")) g))

-- the level of detail: that of the geometry, or of its template
abbrev pub lod : TemplateSource → Tree → Option Tree
lod templates g = cond (is_instance g) (template_lod templates g) (member_of (chars (codes "lod")) g)
