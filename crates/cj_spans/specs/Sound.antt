-- When tokens show the tree of a line.
use Rattle.std.specs.Prelude.{◌≡◌, ℕ, suc, ◌+◌, ◌-◌, ◌%◌, ◌^◌, ◌<◌, ◌≤◌, List, [], ◌∷◌, length, drop, slice_range, Bool}
use Rattle.std.specs.Prelude.{true, false, ◌&&◌, cond, nat_lt, Some, slice_get}
use Rattle.cj_spans.specs.declared.token.Kind.TheVariants.{Text, Null, Truth, Number, Array, Object}
use Rattle.cj_spans.specs.declared.token.Kind.{Kind}
use Rattle.cj_spans.specs.declared.token.Token.{Token}
use Rattle.cj_spans.specs.Meaning.Tree.{Tree, scalar, array, object, size}
use Rattle.cj_spans.specs.Forest.{total_size, forest, held, kind_by}
use Rattle.cj_spans.specs.Meaning.Json.{Json, byte}
use Rattle.cj_spans.specs.Preorder.{spans_of}
use Rattle.cj_spans.specs.Meaning.Kinds.{is_text}
use Rattle.cj_spans.specs.Meaning.Signs.{left_brace, left_bracket, quote, right_bracket}
use Rattle.cj_spans.specs.Meaning.Spelling.{IsNumber}

-- how many tokens at the front start before the place
abbrev pub before : ℕ → List Token → ℕ
before j [] = 0
before j (t ∷ ts) = cond (nat_lt t.start j) (suc (before j ts)) 0

-- the token that a token links to; no link reaches the top bit, which a mark may take
abbrev pub link_of : Token → ℕ
link_of t = t.link % 2 ^ 31

-- each token links to the first later one that does not start before it stops, or past the last one
abbrev pub AreLinked : List Token → Type 0
AreLinked tokens = (k : ℕ) (t : Token) → slice_get tokens k ≡ Some t
    → link_of t ≡ k + 1 + before t.stop (drop (k + 1) tokens)

-- the tokens are what a scan of the line leaves: they show a tree that the line spells, with one token for each of its
-- values and names
pub record AreOf (line : List ℕ) (tokens : List Token) : Type 0 where
  pub tree : Tree
  pub json : Json line tree
  pub shown : forest line (spans_of tokens) ≡ tree ∷ []
  pub count : length tokens ≡ size tree
  pub linked : AreLinked tokens

-- the tokens show as many values and names as they are
abbrev pub AreFull : List ℕ → List Token → Type 0
AreFull line tokens = total_size (forest line (spans_of tokens)) ≡ length tokens

-- each token has a byte or more, all of the line
abbrev pub AreWithin : List ℕ → List Token → Type 0
AreWithin line tokens = (k : ℕ) (t : Token) → slice_get tokens k ≡ Some t → (t.start < t.stop) × (t.stop ≤ length line)

-- each token starts before those after it
abbrev pub AreRising : List Token → Type 0
AreRising tokens = (i k : ℕ) (t u : Token) → i < k → slice_get tokens i ≡ Some t → slice_get tokens k ≡ Some u
    → t.start < u.start

-- from the k-th token on, what starts before the place stops before it
abbrev pub StopBefore : List Token → ℕ → ℕ → Type 0
StopBefore tokens k j = (i : ℕ) (t : Token) → k ≤ i → slice_get tokens i ≡ Some t → t.start < j → t.stop ≤ j

-- a token that starts before an earlier one stops, stops before it too
abbrev pub AreNested : List Token → Type 0
AreNested tokens = (k : ℕ) (t : Token) → slice_get tokens k ≡ Some t → StopBefore tokens (k + 1) t.stop

-- a name or another string
abbrev pub is_name : Tree → Bool
is_name (scalar k a) = is_text k
is_name (array i j ts) = false
is_name (object i j ms) = false

-- names and other trees in turn
abbrev pub are_members : List Tree → Bool
are_members [] = true
are_members (n ∷ []) = false
are_members (n ∷ t ∷ ts) = is_name n && are_members ts

-- what a token of an object holds are names and values in turn
abbrev pub AreNamed : List ℕ → List Token → Type 0
AreNamed line tokens = (k : ℕ) (t : Token) → slice_get tokens k ≡ Some t → byte line t.start ≡ left_brace
    → are_members (held t.stop (forest line (drop (k + 1) (spans_of tokens)))) ≡ true

-- a token that begins as a number spells one, and an array goes up to its bracket
abbrev pub AreSpelled : List ℕ → List Token → Type 0
AreSpelled line tokens = (k : ℕ) (t : Token) → slice_get tokens k ≡ Some t
    → (kind_by (byte line t.start) ≡ Number → ∥ IsNumber (slice_range line t.start t.stop) ∥₁)
    × (byte line t.start ≡ left_bracket → byte line (t.stop - 1) ≡ right_bracket)

-- a string has no parts: its token links to the next one
abbrev pub AreLone : List ℕ → List Token → Type 0
AreLone line tokens = (k : ℕ) (t : Token) → slice_get tokens k ≡ Some t → byte line t.start ≡ quote → link_of t ≡ k + 1

-- there are n tokens, and none of those from the k-th to the n-th links past the n-th
abbrev pub AreWhole : List Token → ℕ → ℕ → Type 0
AreWhole tokens k n = (n ≤ length tokens)
    × ((i : ℕ) (t : Token) → k ≤ i → i < n → slice_get tokens i ≡ Some t → link_of t ≤ n)

-- the trees that the tokens from the k-th to the n-th show
abbrev pub shown_between : List ℕ → List Token → ℕ → ℕ → List Tree
shown_between line tokens k n = forest line (slice_range (spans_of tokens) k n)

-- the tokens from the k-th to the n-th show names and values in turn
abbrev pub ShowMembers : List ℕ → List Token → ℕ → ℕ → Type 0
ShowMembers line tokens k n = (ts : List Tree) → shown_between line tokens k n ≡ ts → are_members ts ≡ true

-- where a walk over the items, or the members, of a value of the kind ends, whose token links to j
abbrev pub items_end : Kind → ℕ → ℕ
items_end Array j = j
items_end Null j = 0
items_end Truth j = 0
items_end Number j = 0
items_end Text j = 0
items_end Object j = 0

abbrev pub members_end : Kind → ℕ → ℕ
members_end Object j = j
members_end Null j = 0
members_end Truth j = 0
members_end Number j = 0
members_end Text j = 0
members_end Array j = 0
