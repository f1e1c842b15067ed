-- What contracts see of levels of detail, asked one after another.
use Rattle.std.specs.Prelude.{ℕ, List, Option}
use Rattle.cj_spans.specs.declared.node.Source.{Source}
use Rattle.cj_geometry.specs.declared.lods.Lods.{Lods}
use Rattle.cj_geometry.specs.Meaning.Geometry.{TemplateSource}
use Rattle.cj_geometry.specs.Given.{given, given_line, given_source}

-- the templates that are asked
abbrev pub given_to : Lods → TemplateSource
given_to l = given l.templates

-- the line that their list stands in, and this line with its tokens
abbrev pub line_given_to : Lods → Option (List ℕ)
line_given_to l = given_line l.templates

abbrev pub source_given_to : Lods → Option Source
source_given_to l = given_source l.templates
