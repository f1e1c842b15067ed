-- What is said of a line as a text, and what its tokens show.
use Rattle.std.specs.Prelude.{◌≡◌, ℕ, ◌<◌, ◌≤◌, List, length, Option, Some, Result, Ok, Err, false, IsTrue}
use Rattle.cj_spans.specs.declared.finding.Finding.{Finding}
use Rattle.cj_spans.specs.declared.token.Token.{Token}
use Rattle.cj_budget.specs.Meaning.Limits.{LimitPair}
use Rattle.cj_spans.specs.Meaning.Tree.{Tree}
use Rattle.cj_spans.specs.Meaning.Json.{Json}
use Rattle.cj_spans.specs.Sound.{AreOf}
use Rattle.cj_feature.specs.declared.header.reading.HeaderParts.{HeaderParts}
use Rattle.cj_feature.specs.ReachedMarks.{AreMarks}
use Rattle.cj_feature.specs.Shown.{ArePartsOf, parts_box}
use Rattle.cj_stream.specs.Meaning.Criteria.{needs_box}
use Rattle.cj_stream.specs.Item.{tree_of}
use Rattle.cj_stream.specs.Meaning.Rules.{OptionSet, Rules}
use Rattle.cj_stream.specs.Reading.{Reading}
use Rattle.cj_stream.specs.Scanning.{Scanning}
use Rattle.cj_stream.specs.Meaning.Verdict.{Invalid}
use Rattle.cj_stream.specs.Verdict.{is_blank_line, verdict_at, tree_verdict}

-- what a content is says this of its verdict
abbrev pub Decides : Rules → ℕ → Tree → List ℕ → Result (Unit {0}) Finding → Type 0
Decides rules number header c (Ok x) =
    verdict_at rules number header c ≡ tree_verdict rules number header (tree_of rules.limits.depth c)
Decides rules number header c (Err f) = verdict_at rules number header c ≡ Invalid f.place f.reason

-- and it says so under any rules with this depth limit, on a line with any number and any header, unless it is blank
abbrev pub Says : List ℕ → ℕ → Result (Unit {0}) Finding → Type 0
Says c depth x = (rules : Rules) (number : ℕ) (header : Tree) → length c ≤ rules.limits.line
    → rules.limits.depth ≡ depth → is_blank_line number c ≡ false → Decides rules number header c x

-- the tokens are those of the content, which spells its tree
pub record ShowsTree (c : List ℕ) (depth : ℕ) (tokens : List Token) : Type 0 where
  pub tokens_of : AreOf c tokens
  pub json : Json c (tree_of depth c)

-- the tokens of a later line have the marks that its rules ask for: of the city objects that are reached, where each
-- has to be
abbrev pub HasMarks : List ℕ → LimitPair → OptionSet → List Token → Type 0
HasMarks c limits options tokens = IsTrue options.all_reached → AreMarks (tree_of limits.depth c) c tokens

-- parts of a header of this tree, read for a box where one is asked for
pub record IsHeaderOf (t : Tree) (rules : Rules) (known : HeaderParts) : Type 0 where
  pub parts_of : ArePartsOf t known
  pub for_box : parts_box known ≡ needs_box rules.criteria

-- what is kept of the header: its tokens, and its parts
pub record KeepsHeader (c : List ℕ) (rules : Rules) (tokens : List Token) (parts : Option HeaderParts) : Type 0 where
  pub shows : ShowsTree c rules.limits.depth tokens
  pub known : HeaderParts
  pub kept : parts ≡ Some known
  pub parts_of : ArePartsOf (tree_of rules.limits.depth c) known
  pub for_box : parts_box known ≡ needs_box rules.criteria

-- once the first line was handled, the header is kept
abbrev pub KeepsFirst : Reading → Scanning → Option HeaderParts → Type 0
KeepsFirst f s parts = 0 < f.lines → KeepsHeader f.header.elements f.rules s.header.elements parts
