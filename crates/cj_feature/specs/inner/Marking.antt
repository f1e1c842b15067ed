-- What a search for the next city object to mark answers. Private clauses alone cite it.
use Rattle.std.specs.Prelude.{◌≡◌, ℕ, ◌-◌, ◌<◌, List, true, length, codes, Some, slice_get}
use Rattle.std.specs.List.{Contains}
use Rattle.std.specs.Str.{chars}
use Rattle.cj_budget.specs.Bounded.{BoundedList}
use Rattle.cj_spans.specs.declared.token.Token.{Token}
use Rattle.cj_spans.specs.declared.node.Node.{Node}
use Rattle.cj_spans.specs.Marks.{IsMarked, bare}
use Rattle.cj_spans.specs.Meaning.Json.{Json}
use Rattle.cj_spans.specs.Preorder.{Span, spans_of}
use Rattle.cj_spans.specs.Sound.{AreOf}
use Rattle.cj_spans.specs.Meaning.Tree.{Tree}
use Rattle.cj_spans.specs.Meaning.Parts.{members_of, member_of}
use Rattle.cj_spans.specs.View.{tree, line_of, source_of, tokens_in, tree_at}
use Rattle.cj_feature.specs.declared.feature.search.near.Near.{Near}
use Rattle.cj_feature.specs.declared.feature.search.near.lists.Lists.{Lists}
use Rattle.cj_feature.specs.declared.feature.search.near.pending.Pending.{Pending}
use Rattle.cj_feature.specs.declared.feature.search.near.slot.Slot.{Slot}
use Rattle.cj_feature.specs.Meaning.Links.{same_text, listed_in}
use Rattle.cj_feature.specs.Meaning.Reachable.{IsReached, IsReachedObject}
use Rattle.cj_feature.specs.inner.Slots.{IsReady}

-- a token beside that of the node shows the tree and has a mark
abbrev pub IsMarkedBy : Node → Tree → Type 0
IsMarkedBy n t = IsMarked (line_of n) (tokens_in (source_of n)) t

-- two nodes of one line and its tokens
abbrev pub IsBeside : Node → Node → Type 0
IsBeside m n = (line_of n ≡ line_of m) × (source_of n ≡ source_of m)

-- the token of this number, beside that of the city objects, shows a city object of this name that has no mark
pub record IsUnmarked (objects : Node) (id : Tree) (number : ℕ) : Type 0 where
  pub name : Tree
  pub object : Tree
  pub held : Contains (members_of (tree objects)) (name, object)
  pub named : same_text name id ≡ true
  pub within : number < length (tokens_in (source_of objects))
  pub shown : tree_at (line_of objects) (spans_of (tokens_in (source_of objects))) number ≡ object
  pub unmarked : IsMarkedBy objects object → ⊥

-- all city objects among these have marks
abbrev pub AllMarked : Node → List (Tree × Tree) → Type 0
AllMarked n ms = (m : Tree × Tree) → Contains ms m → IsMarkedBy n m.1

-- all city objects among these that have this name have marks
abbrev pub HaveMarks : Node → List (Tree × Tree) → Tree → Type 0
HaveMarks n ms id = (m : Tree × Tree) → Contains ms m → same_text m.0 id ≡ true → IsMarkedBy n m.1

-- the same of the names that these items are
abbrev pub ItemsHaveMarks : Node → List Tree → Type 0
ItemsHaveMarks objects items = (item : Tree) → Contains items item → HaveMarks objects (members_of (tree objects)) item

-- all that those among these city objects list that have marks, have marks
abbrev pub ListMarks : Node → List (Tree × Tree) → Type 0
ListMarks objects ms = (m : Tree × Tree) → Contains ms m → IsMarkedBy objects m.1
    → ItemsHaveMarks objects (listed_in (chars (codes "children")) m.1)

-- one of these items is the name of the city object of this number, which has no mark
pub record IsListedUnmarked (objects : Node) (items : List Tree) (number : ℕ) : Type 0 where
  pub item : Tree
  pub held : Contains items item
  pub unmarked : IsUnmarked objects item number

-- a city object that has a mark lists the one of this number, which has none
pub record IsNext (objects : Node) (number : ℕ) : Type 0 where
  pub parent : Tree × Tree
  pub held : Contains (members_of (tree objects)) parent
  pub marked : IsMarkedBy objects parent.1
  pub listed : IsListedUnmarked objects (listed_in (chars (codes "children")) parent.1) number

-- the token of this number has no mark, and shows a city object that is reached if all are that have marks
pub record IsToMark (feature : Tree) (line : List ℕ) (tokens : List Token) (number : ℕ) : Type 0 where
  pub within : number < length tokens
  pub unmarked : IsMarked line tokens (tree_at line (spans_of tokens) number) → ⊥
  pub reached : ((t : Tree) → IsMarked line tokens t → IsReachedObject feature t)
      → IsReachedObject feature (tree_at line (spans_of tokens) number)

-- the city objects that have marks are those of the feature that are reached from the id
abbrev pub MarksFit : Node → Tree → Type 0
MarksFit objects id =
    (t : Tree) → (IsMarkedBy objects t
    → (name : Tree) × Contains (members_of (tree objects)) (name, t)
    × IsReached (members_of (tree objects)) id name)
    × ((name : Tree) → Contains (members_of (tree objects)) (name, t) → IsReached (members_of (tree objects)) id name
    → IsMarkedBy objects t)

-- ---- a guide that marks most of them first: it is sound, and need not be complete

-- all that has a mark is reached
abbrev pub AllReached : Tree → List ℕ → List Token → Type 0
AllReached feature line tokens = (t : Tree) → IsMarked line tokens t → IsReachedObject feature t

-- nothing but marks has changed
pub record OnlyMarks (old new : BoundedList Token) : Type 0 where
  pub tokens : bare new.elements ≡ bare old.elements
  pub list : new ≡ record old { elements = new.elements }

-- what these slots hold and is not finished is one of these city objects, whose name has the number before
abbrev pub AreNamed : List (Tree × Tree) → List ℕ → List Span → List Slot → Type 0
AreNamed objects line spans slots =
    (k n : ℕ) (s : Slot) → slice_get slots k ≡ Some s → IsReady s n
    → (n < length spans) × Contains objects (tree_at line spans (n - 1), tree_at line spans n)

-- each of the first numbers is that of a city object that is reached
abbrev pub AreReached : Tree → List ℕ → List Span → List ℕ → ℕ → Type 0
AreReached feature line spans numbers count =
    (k n : ℕ) → k < count → slice_get numbers k ≡ Some n
    → (n < length spans) × IsReachedObject feature (tree_at line spans n)

-- all city objects of this name are reached
abbrev pub ReachesName : Tree → Node → Tree → Type 0
ReachesName feature objects id = (name t : Tree) → Contains (members_of (tree objects)) (name, t)
    → same_text name id ≡ true → IsReachedObject feature t

-- the spans of the tokens that a node stands in
abbrev pub spans_by : Node → List Span
spans_by n = spans_of (tokens_in (source_of n))

-- those at hand are city objects beside this node
abbrev pub Knows : {O L : ℕ} → Node → Lists O L → Type 0
Knows objects lists = AreNamed (members_of (tree objects)) (line_of objects) (spans_by objects) lists.slots

-- those that wait to be marked are reached, in the feature of this tree
abbrev pub WaitsFor : {P : ℕ} → Tree → List ℕ → List Span → Pending P → Type 0
WaitsFor feature line spans pending = AreReached feature line spans pending.numbers pending.count

-- each city object at hand that is not finished was at hand before
pub record AddsNone {O L : ℕ} (old new : Lists O L) : Type 0 where
  pub slots : (k n : ℕ) (s : Slot) → slice_get new.slots k ≡ Some s → IsReady s n
      → (j : ℕ) × (slice_get old.slots j ≡ Some s)

-- of a line and its tokens: those at hand are city objects, and what waits and what has marks is reached
pub record IsGuide {O L P : ℕ} (line : List ℕ) (tokens : List Token) (near : Near O L P) : Type 0 where
  pub of : AreOf line tokens
  pub known : (feature objects : Tree) → Json line feature
      → member_of (chars (codes "CityObjects")) feature ≡ Some objects
      → AreNamed (members_of objects) line (spans_of tokens) near.lists.slots
  pub waiting : (feature : Tree) → Json line feature → WaitsFor feature line (spans_of tokens) near.pending
  pub sound : (feature : Tree) → Json line feature → AllReached feature line tokens
