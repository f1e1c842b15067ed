-- What contracts see of templates.
use Rattle.std.specs.Prelude.{Option, Some, None, ℕ, List, option_map}
use Rattle.cj_spans.specs.Meaning.Tree.{Tree}
use Rattle.cj_geometry.specs.Meaning.Geometry.{TemplateSource, listed, empty, itself}
use Rattle.cj_spans.specs.declared.node.Node.{Node}
use Rattle.cj_spans.specs.declared.node.Source.{Source}
use Rattle.cj_spans.specs.View.{tree, line_of, source_of}
use Rattle.cj_geometry.specs.declared.templates.Choice.{Choice}
use Rattle.cj_geometry.specs.declared.templates.Choice.TheVariants.{Listed, Stepped, Empty, Itself}
use Rattle.cj_geometry.specs.declared.templates.Templates.{Templates}

-- the list, if there is one
abbrev pub list_of : TemplateSource → Option Tree
list_of (listed t) = Some t
list_of empty = None
list_of itself = None

abbrev pub given_by : Choice → TemplateSource
given_by (Listed l) = listed (tree l.node)
given_by (Stepped l) = listed (tree l.node)
given_by Empty = empty
given_by Itself = itself

-- the templates that a geometry may name
abbrev pub given : Templates → TemplateSource
given t = given_by t.choice

-- the node of their list, if there is one
abbrev pub node_by : Choice → Option Node
node_by (Listed l) = Some l.node
node_by (Stepped l) = Some l.node
node_by Empty = None
node_by Itself = None

-- the line that their list stands in, and this line with its tokens
abbrev pub given_line : Templates → Option (List ℕ)
given_line t = option_map line_of (node_by t.choice)

abbrev pub given_source : Templates → Option Source
given_source t = option_map source_of (node_by t.choice)
