-- What C gets of how it went.
use Rattle.std.specs.Prelude.{ℕ, Result, Ok, Err}
use Rattle.cj_spans.specs.Meaning.Reason.{code_of}
use Rattle.cj_stream.specs.declared.ending.End.{End}
use Rattle.cj_stream.specs.declared.ending.End.TheVariants.{Complete, Refused, ReadFault, ReadLimit, WriteFault}
use Rattle.cj_stream.specs.declared.ending.End.TheVariants.{Memory as NoMemory}
use Rattle.cj_stream.specs.declared.running.Outcome.{Outcome}
use Rattle.cityseq_c.specs.FaultPlace.{fault_place}
use Rattle.cityseq_c.specs.Request.{fault_code}
use Rattle.cityseq_c.specs.declared.answer.Answer.{Answer}
use Rattle.cityseq_c.specs.declared.request.NotJudged.{NotJudged}
use Rattle.cityseq_c.specs.declared.request.NotJudged.TheVariants.{Fault, Memory}
use Rattle.cityseq_c.specs.declared.request.Request.{Request}

-- the status of an end
abbrev pub status_of : End → ℕ
status_of Complete = 0
status_of (Refused line place reason) = 1
status_of ReadFault = 3
status_of ReadLimit = 3
status_of WriteFault = 4
status_of NoMemory = 5

-- the code, the line and the byte of an end
abbrev pub code_at : End → ℕ
code_at Complete = 0
code_at (Refused line place reason) = code_of reason
code_at ReadFault = 0
code_at ReadLimit = 0
code_at WriteFault = 0
code_at NoMemory = 0

abbrev pub line_at : End → ℕ
line_at Complete = 0
line_at (Refused line place reason) = line
line_at ReadFault = 0
line_at ReadLimit = 0
line_at WriteFault = 0
line_at NoMemory = 0

abbrev pub place_at : End → ℕ
place_at Complete = 0
place_at (Refused line place reason) = place
place_at ReadFault = 0
place_at ReadLimit = 0
place_at WriteFault = 0
place_at NoMemory = 0

-- what is answered of an outcome, where so many bytes were written
abbrev pub answer_of : Outcome → ℕ → Answer
answer_of o written = record {
  status = status_of o.ended;
  code = code_at o.ended;
  line = line_at o.ended;
  place = place_at o.ended;
  lines = o.lines;
  kept = o.kept;
  refused = o.refused;
  peak_bytes = o.peaks.bytes;
  peak_tokens = o.peaks.tokens;
  peak_depth = o.peaks.depth;
  written = written;
  list = 0;
  item = 0;
}

-- what is answered where nothing was read, with where the fault of the request is
abbrev pub not_judged : ℕ → ℕ → ℕ → ℕ → Answer
not_judged status code list item = record {
  status = status;
  code = code;
  line = 0;
  place = 0;
  lines = 0;
  kept = 0;
  refused = 0;
  peak_bytes = 0;
  peak_tokens = 0;
  peak_depth = 0;
  written = 0;
  list = list;
  item = item;
}

-- what is answered of a request, by how it went
abbrev pub answer_to : Request → Result Outcome NotJudged → ℕ → Answer
answer_to r (Ok outcome) written = answer_of outcome written
answer_to r (Err (Fault fault)) written =
    not_judged 2 (fault_code fault) (fault_place r fault).list (fault_place r fault).item
answer_to r (Err Memory) written = not_judged 5 0 0 0
