-- Names of city objects that have no marks, in order, as many as there is room for. Private clauses alone cite it.
use Rattle.std.specs.Prelude.{◌≡◌, ◌⊎◌, List, true, codes}
use Rattle.std.specs.List.{Contains}
use Rattle.std.specs.List.Sorted.{IsSortedByKey}
use Rattle.std.specs.Str.{chars}
use Rattle.cj_spans.specs.declared.node.Node.{Node}
use Rattle.cj_spans.specs.Meaning.Parts.{members_of, text_of}
use Rattle.cj_spans.specs.Meaning.Tree.{Tree}
use Rattle.cj_spans.specs.View.{tree}
use Rattle.cj_feature.specs.declared.feature.search.noted.Noted.{Noted}
use Rattle.cj_feature.specs.declared.feature.search.unmarked.Names.{Names}
use Rattle.cj_feature.specs.declared.feature.search.unmarked.Names.TheVariants.{Every, These}
use Rattle.cj_feature.specs.Meaning.Links.{same_text, listed_in}
use Rattle.cj_feature.specs.inner.Marking.{IsMarkedBy}
use Rattle.cj_feature.specs.inner.Questions.{compare_sides, side_of, side_in}

-- names in the order of their short hashes, and those of one short hash in that of their texts
abbrev pub AreInNameOrder : Node → List Noted → Type 0
AreInNameOrder objects names = IsSortedByKey (side_in objects) compare_sides names

-- one of these names has the text
abbrev pub IsNoted : Node → List Noted → Tree → Type 0
IsNoted objects names t = (n : Noted) × Contains names n × (side_in objects n ≡ side_of (text_of t))

-- each of these city objects is one of the later ones, or has a mark, or its name is noted
abbrev pub ArePassed : Node → List (Tree × Tree) → List (Tree × Tree) → List Noted → Type 0
ArePassed objects these later names = (m : Tree × Tree) → Contains these m
    → Contains later m ⊎ (IsMarkedBy objects m.1 ⊎ IsNoted objects names m.0)

-- some names are in order
abbrev pub AreSearchable : Node → Names → Type 0
AreSearchable objects Every = Unit {0}
AreSearchable objects (These names) = AreInNameOrder objects names.now

-- a name of the text is looked for
abbrev pub IsSought : Node → Names → Tree → Type 0
IsSought objects Every t = Unit {0}
IsSought objects (These names) t = IsNoted objects names.now t

-- the city objects whose names are looked for and are these items, have marks
abbrev pub SoughtHaveMarks : Node → Names → List Tree → Type 0
SoughtHaveMarks objects names items =
    (item : Tree) → Contains items item → (m : Tree × Tree) → Contains (members_of (tree objects)) m
    → same_text m.0 item ≡ true → IsSought objects names m.0 → IsMarkedBy objects m.1

-- the same of what those among these city objects list that have marks
abbrev pub ListSoughtMarks : Node → Names → List (Tree × Tree) → Type 0
ListSoughtMarks objects names ms = (m : Tree × Tree) → Contains ms m → IsMarkedBy objects m.1
    → SoughtHaveMarks objects names (listed_in (chars (codes "children")) m.1)
