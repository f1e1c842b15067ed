-- What the program says of an end.
use Rattle.std.specs.Prelude.{◌≡◌, ℕ, zero, suc, List, [], ◌∷◌, ◌++◌, Option, Some, Result, Ok, Err, OnOk, OnErr, codes}
use Rattle.std.specs.Prelude.{decimal}
use Rattle.std.specs.Io.KnownBytes.{Appends}
use Rattle.cj_stream.specs.Lines.{joined}
use Rattle.cj_stream.specs.Output.{Channel}
use Rattle.cj_stream.specs.Sink.{AppendsPart, RisesOnErr}
use Rattle.cityseq_command.specs.declared.fault_lines.Shown.{Shown}
use Rattle.cj_budget.specs.declared.limits.LimitFault.{LimitFault}
use Rattle.cj_budget.specs.declared.limits.LimitFault.TheVariants.{LineLimit, DepthLimit}
use Rattle.cj_stream.specs.declared.output.WriteFault.{WriteFault as Unwritten}
use Rattle.cj_spans.specs.Meaning.Reason.{code_of}
use Rattle.cj_spans.specs.Meaning.ReasonWords.{words_of}
use Rattle.cj_stream.specs.declared.query.fault.QueryFault.{QueryFault}
use Rattle.cj_stream.specs.declared.query.fault.QueryFault.TheVariants.{Memory as NoMemory, UnknownTypeName, BadBox}
use Rattle.cj_stream.specs.declared.query.fault.QueryFault.TheVariants.{BoxRange, EmptyBox}
use Rattle.cj_stream.specs.declared.ending.End.{End}
use Rattle.cj_stream.specs.declared.ending.End.TheVariants.{Complete, Refused, ReadFault, ReadLimit, WriteFault, Memory}

-- ---- ends of runs

-- the status of the program
abbrev pub status_of : End → ℕ
status_of Complete = 0
status_of (Refused line place reason) = 1
status_of ReadFault = 3
status_of ReadLimit = 3
status_of WriteFault = 4
status_of Memory = 5

-- the status after a run that went on after so many refused lines, and of which this end is shown
abbrev pub status_after : ℕ → End → ℕ
status_after zero e = status_of e
status_after (suc n) Complete = 1
status_after (suc n) (Refused line place reason) = status_of (Refused line place reason)
status_after (suc n) ReadFault = status_of ReadFault
status_after (suc n) ReadLimit = status_of ReadLimit
status_after (suc n) WriteFault = status_of WriteFault
status_after (suc n) Memory = status_of Memory

-- what stands on standard error: for a refusal its line, place and reason
abbrev pub fault_line : End → List ℕ
fault_line Complete = []
fault_line (Refused line place reason) =
    joined (codes "line " ∷ decimal line ∷ codes ", byte " ∷ decimal place ∷ codes ": " ∷ decimal (code_of reason)
    ∷ codes " " ∷ words_of reason ∷ codes "\n" ∷ [])
fault_line ReadFault = codes "read fault\n"
fault_line ReadLimit = codes "read limit\n"
fault_line WriteFault = codes "write fault\n"
fault_line Memory = codes "out of memory\n"

-- what stands on standard error of a query that cannot be asked
abbrev pub query_line : QueryFault → List ℕ
query_line NoMemory = fault_line Memory
query_line UnknownTypeName = codes "unknown object type\n"
query_line BadBox = codes "bad box\n"
query_line BoxRange = codes "box number out of range\n"
query_line EmptyBox = codes "empty box\n"

-- the status then
abbrev pub status_of_query : QueryFault → ℕ
status_of_query NoMemory = status_of Memory
status_of_query UnknownTypeName = 2
status_of_query BadBox = 2
status_of_query BoxRange = 2
status_of_query EmptyBox = 2

-- what stands on standard error of a limit that is out of its range, and where the words name no command; the status is
-- 2
abbrev pub limit_line : LimitFault → List ℕ
limit_line LineLimit = codes "the line limit is out of range\n"
limit_line DepthLimit = codes "the depth limit is out of range\n"

abbrev pub no_command_line : List ℕ
no_command_line = codes "no command: check, filter or info\n"

-- the end that is shown of a run that ended so: a write fault where the flush after it failed
abbrev pub shown_end : Result (Unit {0}) Unwritten → End → End
shown_end (Ok x) e = e
shown_end (Err f) e = WriteFault

-- a text was written, by this answer: all of it, or a prefix of it where a write failed
pub record Wrote (text : List ℕ) (answer : Result (Unit {0}) Unwritten) (old new : Channel) : Type 0 where
  pub whole : OnOk answer (Appends old.bytes new.bytes text)
  pub front : OnErr answer (AppendsPart old.bytes new.bytes text)
  pub failures : RisesOnErr answer old.failures new.failures

-- a text after others, of which the writes answered so: it was written where they were, and else nothing more was
abbrev pub WroteAfter : Result (Unit {0}) Unwritten → List ℕ → Result (Unit {0}) Unwritten → Channel → Channel → Type 0
WroteAfter (Ok x) text answer old new = Wrote text answer old new
WroteAfter (Err f) text answer old new = (answer ≡ Err f) × (new ≡ old)

-- standard output and standard error
pub record Channels : Type 0 where
  pub out : Channel
  pub err : Channel

-- a run ended so, its output was flushed, and this is shown: the run's end, or a write fault where that flush failed;
-- and the line of that end after a text that came before, of which standard error has taken all, or a prefix where it
-- failed
pub record ShowsEnd (e : End) (before : List ℕ) (shown : Shown) (old new : Channels) : Type 0 where
  pub flushed : Result (Unit {0}) Unwritten
  pub answered : new.out.flushed ≡ Some flushed
  pub end : shown.end ≡ shown_end flushed e
  pub line : Wrote (before ++ fault_line shown.end) shown.line old.err new.err
