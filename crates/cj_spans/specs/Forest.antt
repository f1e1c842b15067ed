-- The trees that a list of spans shows in a line: each span holds those after it that start before it stops. A span's
-- kind is told by the line's byte at its start.
use Rattle.std.specs.Prelude.{ℕ, ◌+◌, List, [], ◌∷◌, cond, nat_eq, nat_lt, ◌||◌}
use Rattle.cj_spans.specs.Meaning.Tree.{Tree, size, Atom, scalar, array, object, Items, no_items, item, Members}
use Rattle.cj_spans.specs.Meaning.Tree.{no_members, member, start_of}
use Rattle.cj_spans.specs.declared.token.Kind.{Kind}
use Rattle.cj_spans.specs.declared.token.Kind.TheVariants.{Null, Truth, Number, Text, Array, Object}
use Rattle.cj_spans.specs.Meaning.Json.{byte, atom_at}
use Rattle.cj_spans.specs.Preorder.{Span}
use Rattle.cj_spans.specs.Meaning.Signs.{left_brace, left_bracket, quote, small_f, small_n, small_t}

-- that of some trees together
abbrev pub total_size : List Tree → ℕ
total_size [] = 0
total_size (t ∷ ts) = size t + total_size ts

-- the kind of a value that begins with this byte
abbrev pub kind_by : ℕ → Kind
kind_by b =
    cond (nat_eq b left_bracket) Array (cond (nat_eq b left_brace) Object (cond (nat_eq b quote) Text
    (cond (nat_eq b small_n) Null (cond (nat_eq b small_t || nat_eq b small_f) Truth Number))))

-- the trees at the front that start before the place j
abbrev pub held : ℕ → List Tree → List Tree
held j [] = []
held j (t ∷ ts) = cond (nat_lt (start_of t) j) (t ∷ held j ts) []

-- the trees after those
abbrev pub past : ℕ → List Tree → List Tree
past j [] = []
past j (t ∷ ts) = cond (nat_lt (start_of t) j) (past j ts) (t ∷ ts)

-- a name, of its tree
abbrev pub atom_of : Tree → Atom
atom_of (scalar k a) = a
atom_of (array i j ts) = record { start = i; stop = j; spelling = [] }
atom_of (object i j ms) = record { start = i; stop = j; spelling = [] }

-- the items that are these trees
abbrev pub items_from : List Tree → Items
items_from [] = no_items
items_from (t ∷ ts) = item t (items_from ts)

-- names and values in turn
abbrev pub members_from : List Tree → Members
members_from [] = no_members
members_from (n ∷ []) = no_members
members_from (n ∷ t ∷ ts) = member (atom_of n) t (members_from ts)

-- the tree of a kind from i to j that holds these trees
abbrev pub node : List ℕ → Kind → ℕ → ℕ → List Tree → Tree
node b Array i j ts = array i j (items_from ts)
node b Object i j ts = object i j (members_from ts)
node b k i j ts = scalar k (atom_at b i j)

-- the trees that these spans of the line b show
unfoldable pub forest : List ℕ → List Span → List Tree
forest b [] = []
forest b (s ∷ ss) = node b (kind_by (byte b s.start)) s.start s.stop (held s.stop (forest b ss))
    ∷ past s.stop (forest b ss)
