-- Which lines of a stream are handled, in other words.
use Rattle.std.specs.Prelude.{◌≡◌, ◌+◌, ◌≤◌, ℕ, List, [], ◌∷◌, ◌++◌, Some, None, length}
use Rattle.cj_spans.specs.declared.reason.Reason.TheVariants.{NoHeader}
use Rattle.cj_stream.specs.declared.ending.End.{End}
use Rattle.cj_stream.specs.declared.ending.End.TheVariants.{Complete, Refused}
use Rattle.cj_stream.specs.Meaning.Lines.{Line, lines}
use Rattle.cj_stream.specs.Meaning.Rules.{Rules}
use Rattle.cj_stream.specs.Verdict.{verdict, refusal_of}

-- these are a prefix of all
pub record ArePrefix (ls all : List Line) : Type 0 where
  pub rest : List Line
  pub whole : all ≡ ls ++ rest

-- the refusal of none of these lines is an end, each one after those before it
abbrev pub NoneRefused : Rules → List Line → Type 0
NoneRefused rules ls = (before : List Line) (l : Line) (after : List Line) → ls ≡ before ++ l ∷ after
    → refusal_of rules (length before + 1) (verdict rules before l.content) ≡ None

-- the longest prefix of the lines of a stream in which no refusal is an end
pub record AreGood (rules : Rules) (s : List ℕ) (ls : List Line) : Type 0 where
  pub front : ArePrefix ls (lines s)
  pub unrefused : NoneRefused rules ls
  pub longest : (others : List Line) → ArePrefix others (lines s) → NoneRefused rules others → length others ≤ length ls

-- the end of a stream of which all lines are handled: it is complete, but for a stream without a line
abbrev pub EndsWell : List Line → End → Type 0
EndsWell [] e = e ≡ Refused 1 0 NoHeader
EndsWell (l ∷ ls) e = e ≡ Complete

-- the end of a stream by its handled lines and those after them: the refusal of the first of these
abbrev pub EndsAfter : Rules → List Line → List Line → End → Type 0
EndsAfter rules ls [] e = EndsWell ls e
EndsAfter rules ls (next ∷ rest) e = refusal_of rules (length ls + 1) (verdict rules ls next.content) ≡ Some e
