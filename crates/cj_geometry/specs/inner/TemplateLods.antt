-- Levels of detail of templates that were found before, and are at hand.
use Rattle.std.specs.Prelude.{◌≡◌, ℕ, List, map, Option, Some, None, codes, option_map, option_and_then, slice_get}
use Rattle.std.specs.Prelude.{get_or}
use Rattle.std.specs.Str.{chars}
use Rattle.cj_spans.specs.declared.node.Node.{Node}
use Rattle.cj_spans.specs.Meaning.Tree.{Tree}
use Rattle.cj_spans.specs.Meaning.Parts.{member_of}
use Rattle.cj_spans.specs.View.{tree}
use Rattle.cj_geometry.specs.declared.lods.TemplateLod.{TemplateLod}

-- what an answer tells
abbrev pub lod_answered : Option TemplateLod → Option Tree
lod_answered None = None
lod_answered (Some a) = option_map tree a.lod

-- the level of detail of the template of its number
abbrev pub lod_for : List Tree → Option TemplateLod → Option Tree
lod_for ts None = None
lod_for ts (Some a) = option_and_then (member_of (chars (codes "lod"))) (slice_get ts a.number)

-- each of these answers is right of this list
abbrev pub AreAnswersIn : List Tree → List (Option TemplateLod) → Type 0
AreAnswersIn ts os = map lod_answered os ≡ map (lod_for ts) os

-- the level of detail that the answer in a slot tells, if there is one
abbrev pub kept_in : Option TemplateLod → Option Node
kept_in None = None
kept_in (Some a) = a.lod

abbrev pub kept_at : List (Option TemplateLod) → ℕ → Option Node
kept_at os slot = kept_in (get_or os slot None)
