-- What rules ask of a tree: its kind, its items, its members, its text, and the member of a name.
use Rattle.std.specs.Prelude.{ℕ, List, [], ◌∷◌, Bool, false, cond, Option, Some, None, option_and_then}
use Rattle.std.specs.Option.{option_map_or}
use Rattle.cj_spans.specs.declared.token.Kind.{Kind}
use Rattle.cj_spans.specs.declared.token.Kind.TheVariants.{Text, Array, Object}
use Rattle.cj_spans.specs.Meaning.Tree.{Tree, scalar, array, object, Items, no_items, item, Members, no_members, member}
use Rattle.cj_spans.specs.Meaning.Text.{text, are_same}

-- the kind of a value or a name
abbrev pub kind_of : Tree → Kind
kind_of (scalar k a) = k
kind_of (array i j ts) = Array
kind_of (object i j ms) = Object

-- the items as a list
abbrev pub list_items : Items → List Tree
list_items no_items = []
list_items (item t ts) = t ∷ list_items ts

-- the items of an array, in order; of any other tree none
abbrev pub items_of : Tree → List Tree
items_of (array i j ts) = list_items ts
items_of t = []

-- the members as a list of names with their values
abbrev pub list_members : Members → List (Tree × Tree)
list_members no_members = []
list_members (member n t ms) = (scalar Text n, t) ∷ list_members ms

-- the members of an object, in order; of any other tree none
abbrev pub members_of : Tree → List (Tree × Tree)
members_of (object i j ms) = list_members ms
members_of t = []

-- the text of a scalar of the kind
abbrev pub text_if : Kind → List ℕ → Option (List ℕ)
text_if Text s = Some (text s)
text_if k s = None

-- the text of a string or a name (the law `one_text` ties it to the grammar); of any other tree none
abbrev pub text_of : Tree → Option (List ℕ)
text_of (scalar k a) = text_if k a.spelling
text_of t = None

-- there are two texts, and they are the same
abbrev pub are_same_texts : Option (List ℕ) → Option (List ℕ) → Bool
are_same_texts (Some s) (Some t) = are_same s t
are_same_texts o p = false

-- the tree is a string or a name with this text
abbrev pub has_text : List ℕ → Tree → Bool
has_text s t = are_same_texts (text_of t) (Some s)

-- the value of the first member whose name has the text
abbrev pub first_named : List ℕ → List (Tree × Tree) → Option Tree
first_named s [] = None
first_named s (m ∷ ms) = cond (has_text s m.0) (Some m.1) (first_named s ms)

-- the first member of an object that has a name with the text; of any other tree none
abbrev pub member_of : List ℕ → Tree → Option Tree
member_of s t = first_named s (members_of t)

-- the same of a tree that may be missing: nothing if it is

abbrev pub items_if : Option Tree → List Tree
items_if o = option_map_or items_of o []

abbrev pub member_if : List ℕ → Option Tree → Option Tree
member_if name o = option_and_then (member_of name) o

abbrev pub members_if : Option Tree → List (Tree × Tree)
members_if o = option_map_or members_of o []
