-- How a header and a part, which are one text, were judged.
use Rattle.std.specs.Prelude.{◌≡◌, ℕ, List, Some}
use Rattle.cj_stream.specs.Bound.{IsBelow, exact_peaks, first_lines}
use Rattle.cj_stream.specs.declared.ending.End.{End}
use Rattle.cj_stream.specs.declared.ending.End.TheVariants.{Complete, Refused, WriteFault}
use Rattle.cj_stream.specs.declared.running.Outcome.{Outcome}
use Rattle.cj_stream.specs.Engine.{Delivers}
use Rattle.cj_stream.specs.Meaning.Headline.{IsUnhindered}
use Rattle.cj_stream.specs.Run.{Account, CountsAll, Run}
use Rattle.cj_stream.specs.Meaning.Outputs.{Took}
use Rattle.cj_stream.specs.Sink.{SinkContract}
use Rattle.cj_stream.specs.Meaning.Rules.{Rules}
use Rattle.cj_stream.specs.Verdict.{Stream, ending, kept, reported, reported_first, stretch}
use Rattle.cityseq_c.specs.ReportSlice.{Holds}
use Rattle.cityseq_c.specs.declared.report_slice.CReport.{CReport}

-- an end of a text that was judged: no reader failed, and memory was granted
abbrev pub IsJudged : End → Type 0
IsJudged Complete = Unit {0}
IsJudged (Refused line place reason) = Unit {0}
IsJudged WriteFault = Unit {0}
IsJudged other = ⊥

-- a run that read all of a text
abbrev pub run_over : Rules → List ℕ → Outcome → Run
run_over rules text outcome = record { rules = rules; read = text; outcome = outcome }

-- How a call reports a text that it judged by rules. Its end, its counts and the reports in the room for them are those
-- of the whole text, unless the sink failed. Whatever the end is, counts and reports are those of the first lines, as
-- many as were handled, and no less was held at most than these lines need.
pub record AnswersFor (rules : Rules) (text : List ℕ) (outcome : Outcome) (old new : List CReport) : Type 0 where
  pub judged : IsJudged outcome.ended
  pub account : Account (run_over rules text outcome) (Unit {0})
  pub ends : IsUnhindered outcome.ended → outcome.ended ≡ ending rules text
  pub counts : IsUnhindered outcome.ended → CountsAll rules text outcome
  pub reports : IsUnhindered outcome.ended → Holds text (reported rules text) old new
  pub first : Holds text (reported_first rules outcome.lines text) old new
  pub least : IsBelow (exact_peaks rules.limits (first_lines outcome.lines text)) outcome.peaks

-- what a call borrows for the lines of a text: a sink for the kept ones, and a list of reports
pub record Lent (S : Type 0) : Type 0 where
  pub sink : S
  pub reports : List CReport

abbrev pub lent : {S : Type 0} → S → List CReport → Lent S
lent sink reports = record { sink = sink; reports = reports }

-- A text was judged: what the call reports of it, and what its sink took. Without a fault the sink took all kept lines.
-- Else it took those of the lines that were handled, and then what a fault may leave.
pub record Judged {S : Type 0} (law : SinkContract S) (text : Stream) (outcome : Outcome)
    (old new : Lent S) : Type 0 where
  pub answers : AnswersFor text.rules text.bytes outcome old.reports new.reports
  pub took : IsUnhindered outcome.ended → Took law.takes old.sink (kept text.rules text.bytes) new.sink
  pub delivers : Delivers law (stretch text.rules text.bytes 0 outcome.lines) old.sink new.sink (Some outcome.ended)
