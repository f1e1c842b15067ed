-- What a scan leaves in its lists.
use Rattle.std.specs.Prelude.{◌≡◌, ℕ, ◌+◌, ◌*◌, ◌≤◌, List, [], ◌∷◌, length, max, slice_get, Some, IsTrue}
use Rattle.cj_budget.specs.Bounded.{BoundedList, IsWithin, Becomes}
use Rattle.cj_spans.specs.declared.token.Token.{Token}
use Rattle.cj_spans.specs.Meaning.Tree.{Tree, size, nest}
use Rattle.cj_spans.specs.Meaning.Json.{Json}
use Rattle.cj_spans.specs.Meaning.Prefix.{JsonPrefix}
use Rattle.cj_spans.specs.Preorder.{preorder, spans_of}
use Rattle.cj_spans.specs.Forest.{forest}
use Rattle.cj_spans.specs.Sound.{link_of, AreLinked}
use Rattle.cj_spans.specs.View.{tree_at}

-- each token links past its tree: the k-th to k and the size of the tree that it shows
abbrev pub AreSized : List ℕ → List Token → Type 0
AreSized line tokens = (k : ℕ) (t : Token) → slice_get tokens k ≡ Some t
    → link_of t ≡ k + size (tree_at line (spans_of tokens) k)

-- the line spells the tree t and no other, which opens no more containers than the limit, and the lists show it
pub record IsScanOf (line : List ℕ) (t : Tree) (old_tokens new_tokens : BoundedList Token)
    (old_stack new_stack : BoundedList ℕ) : Type 0 where
  pub json : Json line t
  pub only : (u : Tree) → Json line u → u ≡ t
  pub shallow : nest t ≤ old_stack.limit
  pub spans : spans_of new_tokens.elements ≡ preorder t
  pub shown : forest line (spans_of new_tokens.elements) ≡ t ∷ []
  pub count : length new_tokens.elements ≡ size t
  pub linked : AreLinked new_tokens.elements
  pub closed : new_stack.elements ≡ []
  pub token_peak : new_tokens.peak ≡ max old_tokens.peak (size t)
  pub stack_peak : new_stack.peak ≡ max old_stack.peak (nest t)

-- n is the greatest number of containers that are open behind some of the first i bytes
pub record IsDeepest (line : List ℕ) (i n : ℕ) : Type 0 where
  pub place : ℕ
  pub within : place ≤ i
  pub front : JsonPrefix line 0 place n
  pub most : (k m : ℕ) → k ≤ i → JsonPrefix line 0 k m → m ≤ n

-- the peak is the greater of the old one and that number
pub record HasPeakAt (line : List ℕ) (i : ℕ) (old new : BoundedList ℕ) : Type 0 where
  pub deepest : ℕ
  pub counted : IsDeepest line i deepest
  pub peak : new.peak ≡ max old.peak deepest

-- at every exit: twice the tokens are within the bytes, the open containers and one; and what the lists keep
pub record KeepsLaw (line : List ℕ) (old_tokens new_tokens : BoundedList Token) (old_stack new_stack : BoundedList ℕ) :
    Type 0 where
  pub law : 2 * length new_tokens.elements ≤ length line + length new_stack.elements + 1
  pub token_limit : new_tokens.limit ≡ old_tokens.limit
  pub token_peak : new_tokens.peak ≡ max old_tokens.peak (length new_tokens.elements)
  pub token_room : IsTrue old_tokens.reserved → IsTrue new_tokens.reserved
  pub tokens_within : IsWithin new_tokens
  pub stack_limit : new_stack.limit ≡ old_stack.limit
  pub stack_peak : old_stack.peak ≤ new_stack.peak
  pub stack_room : IsTrue old_stack.reserved → IsTrue new_stack.reserved
  pub stack_within : IsWithin new_stack

-- the list was emptied, and a growth of it may have failed
abbrev pub IsEmptied : {T : Type 0} → BoundedList T → BoundedList T → Type 0
IsEmptied old new = Becomes old [] (record new { failed_growths = old.failed_growths })
