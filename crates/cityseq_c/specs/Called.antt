-- What the calls of C answer.
use Rattle.std.specs.Prelude.{◌≡◌, ◌⊎◌, ℕ, ◌+◌, ◌<◌, ◌≤◌, ◌≢◌, List, ◌++◌, Some, Result, Ok, Err, true, length}
use Rattle.std.specs.Prelude.{drop, slice_get, take}
use Rattle.cj_stream.specs.declared.ending.End.TheVariants.{WriteFault}
use Rattle.cj_stream.specs.declared.running.Outcome.{Outcome}
use Rattle.cj_stream.specs.Meaning.Headline.{IsUnhindered}
use Rattle.cj_stream.specs.Meaning.Lines.{Line, lines, raw}
use Rattle.cj_stream.specs.TallySink.{Tally as Tallied, IsTallyOf}
use Rattle.cj_stream.specs.Meaning.Rules.{Rules}
use Rattle.cj_stream.specs.Verdict.{is_kept, kept, output, output_first, verdict}
use Rattle.cityseq_c.specs.Answer.{answer_to}
use Rattle.cityseq_c.specs.Judged.{AnswersFor}
use Rattle.cityseq_c.specs.Query.{DeclinesCall}
use Rattle.cityseq_c.specs.Request.{IsAsked}
use Rattle.cityseq_c.specs.Tally.{IsTally}
use Rattle.cityseq_c.specs.Features.{HoldsRecords, spots}
use Rattle.cityseq_c.specs.declared.answer.Answer.{Answer}
use Rattle.cityseq_c.specs.declared.features.record_of.FeatureRecord.{FeatureRecord}
use Rattle.cityseq_c.specs.declared.report_slice.CReport.{CReport}
use Rattle.cityseq_c.specs.declared.request.NotJudged.{NotJudged}
use Rattle.cityseq_c.specs.declared.request.Request.{Request}
use Rattle.cityseq_c.specs.declared.tally.Tally.{Tally}

-- a call: the request, a header and a part, and the room for reports, before and after
pub record Call : Type 0 where
  pub request : Request
  pub header : List ℕ
  pub part : List ℕ
  pub old : List CReport
  pub new : List CReport

abbrev pub call : Request → List ℕ → List ℕ → List CReport → List CReport → Call
call request header part old new =
    record { request = request; header = header; part = part; old = old; new = new }

-- the stream that is judged
abbrev pub text_of : Call → List ℕ
text_of c = c.header ++ c.part

-- A call, by how it went: header and part were judged, as one stream, by the rules that were asked for, and this is
-- answered of it, with what else comes of these; or nothing was read, for what is wrong or for want of memory, and
-- no room has changed.
abbrev pub Goes : Call → (Rules → Outcome → Type 0) → Result Outcome NotJudged → Type 0
Goes c also (Ok outcome) =
    (rules : Rules) × IsAsked c.request rules × AnswersFor rules (text_of c) outcome c.old c.new × also rules outcome
Goes c also (Err why) = DeclinesCall c.request c.header c.part why × (c.new ≡ c.old)

-- the answer of a call says how it went, and that it wrote this number of bytes of output
pub record Calls (c : Call) (also : Rules → Outcome → Type 0) (written : ℕ) (answer : Answer) : Type 0 where
  pub went : Result Outcome NotJudged
  pub goes : Goes c also went
  pub shown : answer ≡ answer_to c.request went written

-- a check
abbrev pub Checks : Call → Answer → Type 0
Checks c answer = Calls c (λ rules outcome. Unit {0}) 0 answer

-- A buffer begins with these bytes, and `written` is their number. The rest of it is as it was.
pub record IsWritten (bytes old new : List ℕ) (written : ℕ) : Type 0 where
  pub size : length new ≡ length old
  pub count : written ≡ length bytes
  pub there : take written new ≡ bytes
  pub rest : drop written new ≡ drop written old

-- the output did not fit: that of the first n lines is there, and the next line, which is kept, has no room behind it
pub record IsFull (rules : Rules) (text old new : List ℕ) (written n : ℕ) : Type 0 where
  pub first : IsWritten (output_first rules n text) old new written
  pub next : Line
  pub at : slice_get (lines text) n ≡ Some next
  pub kept : is_kept (verdict rules (take n (lines text)) next.content) ≡ true
  pub full : length old < written + length (raw next)

-- what was written of a text: its output, or that of the lines that were handled where the next one did not fit;
-- room for as many bytes as the text has is always enough
pub record Copied (rules : Rules) (text old new : List ℕ) (written : ℕ) (outcome : Outcome) : Type 0 where
  pub all : IsUnhindered outcome.ended → IsWritten (output rules text) old new written
  pub full : outcome.ended ≡ WriteFault → IsFull rules text old new written outcome.lines
  pub enough : length text ≤ length old → outcome.ended ≢ WriteFault

-- a filter, with the room for the output before and after
abbrev pub Filters : Call → List ℕ → List ℕ → Answer → Type 0
Filters c before after answer =
    Calls c (λ rules outcome. Copied rules (text_of c) before after answer.written outcome) answer.written answer

-- the tally is that of what is kept of a text
pub record IsTalliedOf (rules : Rules) (text : List ℕ) (tally : Tally) : Type 0 where
  pub tallied : Tallied
  pub all : IsTallyOf (kept rules text) tallied
  pub shown : IsTally tallied tally

-- a tally
abbrev pub TalliesPart : Call → Tally → Answer → Type 0
TalliesPart c tally answer =
    Calls c (λ rules outcome. IsUnhindered outcome.ended → IsTalliedOf rules (text_of c) tally) 0 answer

-- nothing was judged: the request is wrong, or no memory was granted
abbrev pub IsUnjudged : Answer → Type 0
IsUnjudged answer = (answer.status ≡ 2) ⊎ (answer.status ≡ 5)

-- records of features, in room that is as it was where nothing was judged
abbrev pub Lists : Call → List FeatureRecord → List FeatureRecord → Answer → Type 0
Lists c before after answer =
    Calls c (λ rules outcome. IsUnhindered outcome.ended → HoldsRecords (spots rules (text_of c)) before after) 0 answer
