-- Marks on tokens: a mark is the top bit of a link, which no link of a scan reaches.
use Rattle.std.specs.Prelude.{◌≡◌, ℕ, zero, suc, ◌^◌, List, [], ◌∷◌, Bool, true, false, nat_le}
use Rattle.cj_budget.specs.Bounded.{BoundedList, IsWithin}
use Rattle.cj_spans.specs.declared.token.Token.{Token}
use Rattle.cj_spans.specs.Meaning.Tree.{Tree}
use Rattle.cj_spans.specs.Preorder.{spans_of, token_at}
use Rattle.cj_spans.specs.Sound.{AreOf, link_of}
use Rattle.cj_spans.specs.View.{tree_at}

-- whether a token has a mark
abbrev pub has_mark : Token → Bool
has_mark t = nat_le (2 ^ 31) t.link

-- whether the k-th token has one
abbrev pub is_marked_at : List Token → ℕ → Bool
is_marked_at [] k = false
is_marked_at (t ∷ ts) zero = has_mark t
is_marked_at (t ∷ ts) (suc k) = is_marked_at ts k

-- none has one
abbrev pub AreUnmarked : List Token → Type 0
AreUnmarked tokens = (k : ℕ) → is_marked_at tokens k ≡ false

-- the tokens without their marks
abbrev pub bare : List Token → List Token
bare [] = []
bare (t ∷ ts) = token_at t.start t.stop (link_of t) ∷ bare ts

-- a token that shows the tree in the line has a mark
pub record IsMarked (line : List ℕ) (tokens : List Token) (t : Tree) : Type 0 where
  pub number : ℕ
  pub marked : is_marked_at tokens number ≡ true
  pub shown : tree_at line (spans_of tokens) number ≡ t

-- nothing but marks has changed: each token keeps its span and its link, so the tokens show the line that they showed;
-- and the list its limit, its peak and its room
pub record KeepsTokens (old new : BoundedList Token) : Type 0 where
  pub tokens : bare new.elements ≡ bare old.elements
  pub spans : spans_of new.elements ≡ spans_of old.elements
  pub of : (line : List ℕ) → AreOf line old.elements → AreOf line new.elements
  pub list : new ≡ record old { elements = new.elements }
  pub within : IsWithin new
