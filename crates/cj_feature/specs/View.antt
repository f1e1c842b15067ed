-- What a view of a feature shows: a tree, a line, and its header's tree and line.
use Rattle.std.specs.Prelude.{ℕ, List}
use Rattle.cj_spans.specs.Meaning.Tree.{Tree}
use Rattle.cj_spans.specs.View.{document, document_line}
use Rattle.cj_feature.specs.declared.feature.Feature.{Feature}

-- the tree of a feature, its line, and the tree and the line of its header
unfoldable pub feature_tree : Feature → Tree
feature_tree f = document f.doc

unfoldable pub feature_line : Feature → List ℕ
feature_line f = document_line f.doc

unfoldable pub feature_header : Feature → Tree
feature_header f = document f.header

unfoldable pub feature_header_line : Feature → List ℕ
feature_header_line f = document_line f.header
