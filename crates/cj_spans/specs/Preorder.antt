-- The tokens of a tree, each before those of its parts.
use Rattle.std.specs.Prelude.{ℕ, suc, ◌+◌, List, [], ◌∷◌, ◌++◌}
use Rattle.cj_spans.specs.declared.token.Token.{Token}
use Rattle.cj_spans.specs.Meaning.Tree.{Tree, scalar, array, object, Items, no_items, item, Members, no_members, member}
use Rattle.cj_spans.specs.Meaning.Tree.{size, items_size, members_size}

-- where a value or a name starts and stops
pub record Span : Type 0 where
  pub start : ℕ
  pub stop : ℕ

-- the span from i to j
abbrev pub span_at : ℕ → ℕ → Span
span_at i j = record { start = i; stop = j }

-- one span for each value and each name, each before its parts
abbrev mutual
  pub preorder : Tree → List Span
  preorder (scalar k a) = span_at a.start a.stop ∷ []
  preorder (array i j ts) = span_at i j ∷ items_preorder ts
  preorder (object i j ms) = span_at i j ∷ members_preorder ms

  pub items_preorder : Items → List Span
  items_preorder no_items = []
  items_preorder (item t ts) = preorder t ++ items_preorder ts

  pub members_preorder : Members → List Span
  members_preorder no_members = []
  members_preorder (member n t ms) = span_at n.start n.stop ∷ (preorder t ++ members_preorder ms)

-- the token of a span, with its link
abbrev pub token_at : ℕ → ℕ → ℕ → Token
token_at i j l = record { start = i; stop = j; link = l }

-- one token for each value and each name of a tree, each before its parts, at the indices from n on; each links to the
-- first index after its parts
abbrev mutual
  pub flatten : ℕ → Tree → List Token
  flatten n (scalar k a) = token_at a.start a.stop (suc n) ∷ []
  flatten n (array i j ts) = token_at i j (suc n + items_size ts) ∷ flatten_items (suc n) ts
  flatten n (object i j ms) = token_at i j (suc n + members_size ms) ∷ flatten_members (suc n) ms

  pub flatten_items : ℕ → Items → List Token
  flatten_items n no_items = []
  flatten_items n (item t ts) = flatten n t ++ flatten_items (n + size t) ts

  pub flatten_members : ℕ → Members → List Token
  flatten_members n no_members = []
  flatten_members n (member m t ms) =
      token_at m.start m.stop (suc n) ∷ (flatten (suc n) t ++ flatten_members (suc n + size t) ms)

-- where each token starts and stops
abbrev pub spans_of : List Token → List Span
spans_of [] = []
spans_of (t ∷ ts) = span_at t.start t.stop ∷ spans_of ts
