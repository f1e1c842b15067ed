-- The lines of a stream with their verdicts, and what follows from these.
use Rattle.std.specs.Prelude.{◌≡◌, ℕ, ◌+◌, List, [], ◌∷◌, Bool, true, false, not, ◌&&◌, ◌||◌, ◌==◌, Option, Some, None, option_and_then}
use Rattle.std.specs.List.{filter_map, find, flat_map, take_while}
use Rattle.cj_spans.specs.declared.reason.Reason.TheVariants.{NoHeader}
use Rattle.cj_spans.specs.Meaning.Tree.{Tree}
use Rattle.cj_stream.specs.declared.ending.End.{End}
use Rattle.cj_stream.specs.declared.ending.End.TheVariants.{Complete, Refused}
use Rattle.cj_stream.specs.declared.report_sink.Report.{Report}
use Rattle.cj_stream.specs.Meaning.Lines.{Line, raw}
use Rattle.cj_stream.specs.Meaning.Rules.{Rules}
use Rattle.cj_stream.specs.Meaning.Verdict.{Verdict, Invalid, Blank, LeftOut, Kept, IsVerdict}

-- a line with its number from 1, the tree of the header before it, the tree that it spells, and its verdict
pub record JudgedLine : Type 0 where
  pub number : ℕ
  pub line : Line
  pub header : Option Tree
  pub tree : Option Tree
  pub verdict : Verdict

-- j is the line l, the n-th of its stream, judged beside this header
pub record IsJudged (rules : Rules) (n : ℕ) (beside : Option Tree) (l : Line) (j : JudgedLine) : Type 0 where
  pub number : j.number ≡ n
  pub line : j.line ≡ l
  pub header : j.header ≡ beside
  pub verdict : IsVerdict rules beside l.content j.tree j.verdict

-- each of the later lines, from this number on, is judged beside the header
abbrev pub AreLater : Rules → Tree → ℕ → List Line → List JudgedLine → Type 0
AreLater rules header number [] [] = Unit {0}
AreLater rules header number [] (j ∷ js) = ⊥
AreLater rules header number (l ∷ ls) [] = ⊥
AreLater rules header number (l ∷ ls) (j ∷ js) =
    IsJudged rules number (Some header) l j × AreLater rules header (number + 1) ls js

-- The lines of a stream are judged. The first one must be a header. If it is invalid, no later line has a verdict.
pub data AreJudged (rules : Rules) : List Line → List JudgedLine → Type 0 where
  no_lines : AreJudged rules [] []
  no_header : (l : Line) (ls : List Line) (j : JudgedLine) → IsJudged rules 1 None l j → (j.verdict ≡ Kept → ⊥)
      → AreJudged rules (l ∷ ls) (j ∷ [])
  headed : (l : Line) (ls : List Line) (j : JudgedLine) (js : List JudgedLine) (header : Tree)
      → IsJudged rules 1 None l j → j.verdict ≡ Kept → j.tree ≡ Some header → AreLater rules header 2 ls js
      → AreJudged rules (l ∷ ls) (j ∷ js)

-- ---- what follows from the verdicts

abbrev pub is_invalid : Verdict → Bool
is_invalid (Invalid place reason) = true
is_invalid verdict = false

-- reading ends at an invalid line, unless it is told to go on and the line is not the first
abbrev pub ends : Rules → JudgedLine → Bool
ends rules j = is_invalid j.verdict && (j.number == 1 || not rules.options.keep_going)

-- the lines before the one at which reading ends
abbrev pub handled : Rules → List JudgedLine → List JudgedLine
handled rules js = take_while (λ j. not (ends rules j)) js

-- what is written of a line with a verdict: the line, if it is kept
abbrev pub written_by : Line → Verdict → List ℕ
written_by line Kept = raw line
written_by line verdict = []

-- the report of an invalid line
abbrev pub report_by : ℕ → Verdict → Option Report
report_by number (Invalid place reason) = Some (record { line = number; place = place; reason = reason })
report_by number verdict = None

abbrev pub report_of : JudgedLine → Option Report
report_of j = report_by j.number j.verdict

-- what is written: the kept lines
abbrev pub output_in : Rules → List JudgedLine → List ℕ
output_in rules js = flat_map (λ (j : JudgedLine). written_by j.line j.verdict) (handled rules js)

-- what is reported: the invalid lines after which reading went on
abbrev pub reported_in : Rules → List JudgedLine → List Report
reported_in rules js = filter_map report_of (handled rules js)

-- the end that an invalid line makes, by what would be its report; without one, the stream is complete
abbrev pub end_of_report : Option Report → End
end_of_report None = Complete
end_of_report (Some r) = Refused r.line r.place r.reason

-- how a stream ends: one without a line is refused, and another by the first line at which reading ends
abbrev pub ending_in : Rules → List JudgedLine → End
ending_in rules [] = Refused 1 0 NoHeader
ending_in rules (j ∷ js) = end_of_report (option_and_then report_of (find (ends rules) (j ∷ js)))
