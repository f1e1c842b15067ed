-- What a view of a header shows: a tree and a line, and whether it was judged for a box.
use Rattle.std.specs.Prelude.{ℕ, List, Bool}
use Rattle.cj_spans.specs.Meaning.Tree.{Tree}
use Rattle.cj_spans.specs.View.{document, document_line}
use Rattle.cj_feature.specs.declared.header.Header.{Header}

-- the tree of a header, and its line
unfoldable pub header_tree : Header → Tree
header_tree h = document h.doc

unfoldable pub header_line : Header → List ℕ
header_line h = document_line h.doc

unfoldable pub has_box : Header → Bool
has_box h = h.with_box
