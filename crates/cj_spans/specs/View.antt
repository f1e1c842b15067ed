-- What views of a line show: trees that are told by the spans of the tokens and the bytes of the line alone.
use Rattle.std.specs.Prelude.{◌≡◌, ℕ, zero, suc, ◌-◌, min, List, [], ◌∷◌, length, Option, IfSome}
use Rattle.std.specs.Iterator.{YieldsFirstBy}
use Rattle.cj_spans.specs.declared.token.Kind.TheVariants.{Null}
use Rattle.cj_spans.specs.declared.token.Token.{Token}
use Rattle.cj_spans.specs.declared.node.Source.{Source}
use Rattle.cj_spans.specs.declared.node.Doc.{Doc}
use Rattle.cj_spans.specs.declared.node.Node.{Node}
use Rattle.cj_spans.specs.declared.node.Items.{Items}
use Rattle.cj_spans.specs.declared.node.Members.{Members}
use Rattle.cj_spans.specs.Meaning.Tree.{Tree, scalar}
use Rattle.cj_spans.specs.Meaning.Json.{byte, atom_at}
use Rattle.cj_spans.specs.Preorder.{Span, spans_of}
use Rattle.cj_spans.specs.Forest.{forest, held, kind_by, node}
use Rattle.cj_spans.specs.Sound.{shown_between}

-- the tree that the k-th span shows
unfoldable pub tree_at : List ℕ → List Span → ℕ → Tree
tree_at b [] k = scalar Null (atom_at b 0 0)
tree_at b (s ∷ ss) zero = node b (kind_by (byte b s.start)) s.start s.stop (held s.stop (forest b ss))
tree_at b (s ∷ ss) (suc k) = tree_at b ss k

-- names and values in turn, as pairs
abbrev pub pairs_of : List Tree → List (Tree × Tree)
pairs_of [] = []
pairs_of (n ∷ []) = []
pairs_of (n ∷ t ∷ ts) = (n, t) ∷ pairs_of ts

-- the tree of a node
unfoldable pub tree : Node → Tree
tree n = tree_at n.source.line.now (spans_of n.source.tokens.now) n.index

-- the trees of a name and its value
abbrev pub trees : Node × Node → Tree × Tree
trees p = (tree p.0, tree p.1)

-- the line that a node stands in
unfoldable pub line_of : Node → List ℕ
line_of n = n.source.line.now

-- the items that are left
unfoldable pub items_left : Items → List Tree
items_left w = shown_between w.source.line.now w.source.tokens.now w.next w.stop

-- the members that are left
unfoldable pub members_left : Members → List (Tree × Tree)
members_left w = pairs_of (shown_between w.source.line.now w.source.tokens.now w.next w.stop)

-- the tree of a document, and its line
unfoldable pub document : Doc → Tree
document d = tree_at d.source.line.now (spans_of d.source.tokens.now) 0

unfoldable pub document_line : Doc → List ℕ
document_line d = d.source.line.now

-- the line that a walk goes over
unfoldable pub items_line : Items → List ℕ
items_line w = w.source.line.now

unfoldable pub members_line : Members → List ℕ
members_line w = w.source.line.now

-- the line and the tokens that a node stands in, and those that a walk goes over
unfoldable pub source_of : Node → Source
source_of n = n.source

unfoldable pub items_source : Items → Source
items_source w = w.source

unfoldable pub members_source : Members → Source
members_source w = w.source

unfoldable pub document_source : Doc → Source
document_source d = d.source

-- those tokens
unfoldable pub tokens_in : Source → List Token
tokens_in s = s.tokens.now

-- the tree of the node of this number, or of the last one where there is none of it
unfoldable pub tree_in : Source → ℕ → Tree
tree_in s k = tree_at s.line.now (spans_of s.tokens.now) (min k (length s.tokens.now - 1))

-- a step of a walk gives the next item, of the line and the tokens that the walk goes over
abbrev pub YieldsItem : Items → Option Node → Items → Type 0
YieldsItem s r t =
    YieldsFirstBy tree items_left s r t × (items_line t ≡ items_line s) × IfSome r (λ n. line_of n ≡ items_line s)
    × (items_source t ≡ items_source s) × IfSome r (λ n. source_of n ≡ items_source s)

-- a step of a walk gives the next member
abbrev pub YieldsMember : Members → Option (Node × Node) → Members → Type 0
YieldsMember s r t =
    YieldsFirstBy trees members_left s r t × (members_line t ≡ members_line s)
    × IfSome r (λ p. (line_of p.0 ≡ members_line s) × (line_of p.1 ≡ members_line s))
    × (members_source t ≡ members_source s)
    × IfSome r (λ p. (source_of p.0 ≡ members_source s) × (source_of p.1 ≡ members_source s))
