-- The parents of a city object of the second level.
use Rattle.std.specs.Prelude.{cond, Option, Some, None, codes}
use Rattle.std.specs.Str.{chars}
use Rattle.cj_spans.specs.Meaning.Tree.{Tree}
use Rattle.cj_spans.specs.Meaning.Kinds.{is_array}
use Rattle.cj_spans.specs.Meaning.Parts.{kind_of, member_of}
use Rattle.cj_feature.specs.Meaning.Links.{at_second_level}

-- the value, if it is an array
abbrev pub array_if : Option Tree → Option Tree
array_if None = None
array_if (Some t) = cond (is_array (kind_of t)) (Some t) None

-- the array of parents of a city object of the second level
abbrev pub part_parents : Tree → Option Tree
part_parents o = cond (at_second_level o) (array_if (member_of (chars (codes "parents")) o)) None
