-- What is held of the trees of a stream's lines.
use Rattle.std.specs.Prelude.{◌≡◌, ◌⊎◌, ℕ, ◌+◌, ◌*◌, ◌/◌, ◌<◌, ◌≤◌, List, [], ◌∷◌, ◌++◌, Bool, true, IsTrue, length}
use Rattle.std.specs.Prelude.{max, min}
use Rattle.std.specs.List.{list_all}
use Rattle.std.specs.Str.{is_utf8}
use Rattle.cj_budget.specs.Bounded.{BoundedList, IsWithin, Becomes}
use Rattle.cj_budget.specs.Meaning.Counts.{HasRisen}
use Rattle.cj_budget.specs.Meaning.Limits.{LimitPair}
use Rattle.cj_budget.specs.Limits.{InDepth}
use Rattle.cj_spans.specs.declared.token.Token.{Token}
use Rattle.cj_spans.specs.Meaning.Judgement.{judged_size, judged_nest}
use Rattle.cj_spans.proofs.Judgements.{judgement}
use Rattle.cj_stream.specs.declared.validator.Validator.{Validator}
use Rattle.cj_stream.specs.Lines.{closed, first_of, later_of}
use Rattle.cj_stream.specs.Reading.{Reading, IsBegun}
use Rattle.cj_stream.specs.Bound.{tree_size, tree_nest, is_readable}
use Rattle.cj_stream.specs.Meaning.Bound.{of_first, greatest}

-- the tokens of the first line, those of the line that is judged, and its open containers
pub record Scanning : Type 0 where
  pub header : BoundedList Token
  pub line : BoundedList Token
  pub opened : BoundedList ℕ

-- what a validator holds of trees
abbrev pub scanning : Validator → Scanning
scanning d = record { header = d.header_tokens; line = d.line_tokens; opened = d.opened }

-- the depth limit is in range, no list is longer than its peak, nor the peak above the limit, which is what a line
-- within the limits needs
pub record HasRoom (limits : LimitPair) (s : Scanning) : Type 0 where
  pub range : InDepth limits.depth
  pub header : s.header.limit ≡ (limits.line + limits.depth + 1) / 2
  pub line : s.line.limit ≡ (limits.line + limits.depth + 1) / 2
  pub opened : s.opened.limit ≡ limits.depth
  pub header_within : IsWithin s.header
  pub line_within : IsWithin s.line
  pub opened_within : IsWithin s.opened

-- a list has held at most so much: at least what is counted, and exactly that where all that was counted can be read
pub record HasHeld (all : Bool) (count peak : ℕ) : Type 0 where
  pub least : count ≤ peak
  pub exact : all ≡ true → peak ≡ count

-- the later ones of these contents can all be read
abbrev pub are_readable : LimitPair → List (List ℕ) → Bool
are_readable limits cs = list_all (is_readable limits) (later_of cs)

-- the lines with these contents were handled: the tokens of the first are held, and of the later ones none; what
-- was held at most is exact, unless a later line cannot be read, and within what the bytes allow
pub record Scanned (limits : LimitPair) (cs : List (List ℕ)) (s : Scanning) : Type 0 where
  pub header : length s.header.elements ≡ of_first (tree_size limits) cs
  pub header_peak : s.header.peak ≡ of_first (tree_size limits) cs
  pub line : s.line.elements ≡ []
  pub line_peak : HasHeld (are_readable limits cs) (greatest (tree_size limits) (later_of cs)) s.line.peak
  pub opened : s.opened.elements ≡ []
  pub opened_peak : HasHeld (are_readable limits cs) (greatest (tree_nest limits) cs) s.opened.peak
  pub header_law : 2 * s.header.peak ≤ min (length (first_of cs [])) limits.line + 1
  pub line_law : 2 * s.line.peak ≤ limits.line + limits.depth + 1

-- what was held at most, at any exit, where the first line has so many bytes at least
abbrev pub HoldsFew : LimitPair → ℕ → Scanning → Type 0
HoldsFew limits h s = 2 * (s.header.peak + s.line.peak) ≤ min h limits.line + limits.line + limits.depth + 2

-- no list of trees has held less at most than the lines with these contents need
pub record HeldAll (limits : LimitPair) (cs : List (List ℕ)) (s : Scanning) : Type 0 where
  pub header : of_first (tree_size limits) cs ≤ s.header.peak
  pub line : greatest (tree_size limits) (later_of cs) ≤ s.line.peak
  pub opened : greatest (tree_nest limits) cs ≤ s.opened.peak

-- so it is of n lines, which are those that LF had ended where these bytes after p were cut
pub record HeldUntil (limits : LimitPair) (p more : List ℕ) (n : ℕ) (s : Scanning) : Type 0 where
  pub done : List ℕ
  pub left : List ℕ
  pub cut : more ≡ done ++ left
  pub lines : n ≡ length (closed (p ++ done))
  pub held : HeldAll limits (closed (p ++ done)) s

-- the begun line of f was handled: what is held of trees is that of one line more, whatever lines came before it
abbrev pub ScansNext : Reading → Scanning → Scanning → Type 0
ScansNext f old new = (cs : List (List ℕ)) (c : List ℕ) → length cs ≡ f.lines → IsBegun f c
    → Scanned f.rules.limits cs old → Scanned f.rules.limits (cs ++ c ∷ []) new

-- whatever came of that line, no more was held than the bytes allow
abbrev pub HoldsFewNext : Reading → Scanning → Scanning → Type 0
HoldsFewNext f old new = (cs : List (List ℕ)) (c : List ℕ) → length cs ≡ f.lines → IsBegun f c
    → Scanned f.rules.limits cs old → HoldsFew f.rules.limits (length (first_of cs c)) new

-- peaks that do not fall
pub record Rises (old new : Scanning) : Type 0 where
  pub header : old.header.peak ≤ new.header.peak
  pub line : old.line.peak ≤ new.line.peak
  pub opened : old.opened.peak ≤ new.opened.peak

-- the tokens of a line, and its open containers
pub record TreeLists : Type 0 where
  pub tokens : BoundedList Token
  pub opened : BoundedList ℕ

abbrev pub tree_lists : BoundedList Token → BoundedList ℕ → TreeLists
tree_lists tokens opened = record { tokens = tokens; opened = opened }

-- the lists have taken the tree that a content spells
pub record HoldsTree (c : List ℕ) (old new : TreeLists) : Type 0 where
  pub text : is_utf8 c ≡ true
  pub count : length new.tokens.elements ≡ judged_size (judgement c old.opened.limit)
  pub peak : new.tokens.peak ≡ max old.tokens.peak (judged_size (judgement c old.opened.limit))
  pub closed : new.opened.elements ≡ []
  pub opened_peak : new.opened.peak ≡ max old.opened.peak (judged_nest (judgement c old.opened.limit))

-- A later line was scanned. What was held at most of its tree is exact, where it can be read, and else within what
-- the bytes allow.
pub record ScansLine (limits : LimitPair) (c : List ℕ) (old new : Scanning) : Type 0 where
  pub header : new.header ≡ old.header
  pub line : HasHeld (is_readable limits c) (max old.line.peak (tree_size limits c)) new.line.peak
  pub opened : HasHeld (is_readable limits c) (max old.opened.peak (tree_nest limits c)) new.opened.peak
  pub law : 2 * new.line.peak ≤ max (2 * old.line.peak) (limits.line + limits.depth + 1)

-- the lists that the next line goes into have room for their limits, so it takes no memory
pub record IsReady (f : Reading) (s : Scanning) : Type 0 where
  pub first : f.lines ≡ 0 → IsTrue f.header.reserved × IsTrue s.header.reserved
  pub later : 0 < f.lines → IsTrue f.line.reserved × IsTrue s.line.reserved
  pub opened : IsTrue s.opened.reserved

-- nothing has changed but that the tokens of a later line may have marks, and that there may be more room for such
-- lines, or that a growth of it failed
pub record IsStill (old new : Scanning) : Type 0 where
  pub room : IsTrue old.line.reserved → IsTrue new.line.reserved
  pub count : length new.line.elements ≡ length old.line.elements
  pub same : new ≡ record old {
    line = record old.line
        { elements = new.line.elements; reserved = new.line.reserved; failed_growths = new.line.failed_growths };
  }

-- a growth for later lines failed: the count of that has risen, of their bytes or of their tokens
abbrev pub ListsFailToGrow : Reading → Scanning → Reading → Scanning → Type 0
ListsFailToGrow f s g t =
    HasRisen f.line.failed_growths g.line.failed_growths ⊎ HasRisen s.line.failed_growths t.line.failed_growths

-- the lists of a line that was handled are emptied
pub record Forgets (old new : Scanning) : Type 0 where
  pub header : new.header ≡ old.header
  pub line : Becomes old.line [] new.line
  pub opened : Becomes old.opened [] new.opened
