-- The marks on the city objects that are reached.
use Rattle.std.specs.Prelude.{ℕ, List}
use Rattle.cj_spans.specs.declared.token.Token.{Token}
use Rattle.cj_spans.specs.Marks.{IsMarked}
use Rattle.cj_spans.specs.Meaning.Tree.{Tree}
use Rattle.cj_feature.specs.Meaning.Reachable.{IsReachedObject}

-- the tokens of the line have marks exactly where they show the city objects that are reached
abbrev pub AreMarks : Tree → List ℕ → List Token → Type 0
AreMarks feature line tokens = (t : Tree)
    → (IsMarked line tokens t → IsReachedObject feature t) × (IsReachedObject feature t → IsMarked line tokens t)
