-- What a whole run makes of the bytes that it reads.
use Rattle.std.specs.Prelude.{◌≡◌, ◌⊎◌, ℕ, ◌*◌, ◌<◌, ◌≤◌, List, [], ◌++◌, Option, Some, None, true, length, take}
use Rattle.std.specs.Prelude.{slice_get}
use Rattle.std.specs.List.{filter}
use Rattle.std.specs.Io.KnownBytes.{Appends, Keeps}
use Rattle.cj_budget.specs.declared.limits.Peaks.{Peaks}
use Rattle.cj_stream.specs.declared.ending.End.{End}
use Rattle.cj_stream.specs.declared.ending.End.TheVariants.{Complete, Refused, ReadFault, ReadLimit, WriteFault, Memory}
use Rattle.cj_stream.specs.declared.report_sink.Report.{Report}
use Rattle.cj_stream.specs.declared.running.Outcome.{Outcome}
use Rattle.cj_stream.specs.Meaning.Lines.{Line, lines, raw}
use Rattle.cj_stream.specs.Lines.{whole}
use Rattle.cj_stream.specs.Items.{is_feature}
use Rattle.cj_stream.specs.Meaning.Rules.{Rules}
use Rattle.cj_stream.specs.Verdict.{refusal_in, judged, good, is_kept, kept, ending, output, output_first, reported}
use Rattle.cj_stream.specs.Verdict.{verdict, Stream, stream_of, UpTo, stretch}
use Rattle.cj_stream.specs.Bound.{IsBelow, IsExact, exact_peaks, first_lines}
use Rattle.cj_stream.specs.Meaning.Bound.{IsBounded}
use Rattle.cj_stream.specs.Cut.{IsUnread}
use Rattle.cj_stream.specs.Meaning.Headline.{Fate, Headline}
use Rattle.cj_stream.specs.Engine.{EngineState, Counts, Delivers, lines_of, refused_of, peaks_of}
use Rattle.cj_stream.specs.Reading.{LacksMemory}
use Rattle.cj_stream.specs.ReportSink.{Notes, NotesRun}
use Rattle.cj_stream.specs.Sink.{SinkContract, prefixes, TookFront, LeavesNext, AppendsPart}
use Rattle.cj_stream.specs.Meaning.Outputs.{Outputs, Took}

-- what became of a stream
abbrev pub fate_of : {E : Type 0} → Rules → List ℕ → List ℕ → E → Peaks → Fate E
fate_of rules text given end peaks = record { rules = rules; text = text; given = given; end = end; peaks = peaks }

-- a run: the rules that its lines are judged by, the bytes that it read, and how it went
pub record Run : Type 0 where
  pub rules : Rules
  pub read : List ℕ
  pub outcome : Outcome

-- how a run went that left its engine so, and came to this end
abbrev pub outcome_of : EngineState → End → Outcome
outcome_of e end = record {
  lines = lines_of e;
  kept = e.reading.kept;
  refused = refused_of e;
  peaks = peaks_of e;
  ended = end;
}

-- what the end of a run says of the bytes r that it read, after n of their lines; `at_end` says that r is all there
-- was. A line is refused before that only if LF ended it or it is too long. Reading was cut short where a read failed,
-- or the reads ran out.
abbrev pub Ends : Rules → List ℕ → ℕ → Type 0 → End → Type 0
Ends rules r n at_end Complete = (ending rules r ≡ Complete) × (n ≡ length (good rules r)) × at_end
Ends rules r n at_end (Refused number place reason) =
    (ending rules r ≡ Refused number place reason) × (n ≡ length (good rules r))
    × (at_end ⊎ (refusal_in rules (judged rules.limits r) ≡ Some (Refused number place reason)))
Ends rules r n at_end WriteFault = Unit {0}
Ends rules r n at_end Memory = Unit {0}
Ends rules r n at_end cut_short = (refusal_in rules (lines (whole r)) ≡ None) × (n ≡ length (lines (whole r)))

-- The account of a run: its counts of lines, kept features and refused lines, its end, and a bound on what it held. The
-- peaks are exact if the run is complete. `at_end` says that what it read is all there was.
pub record Account (run : Run) (at_end : Type 0) : Type 0 where
  pub bounded : IsBounded run.rules.limits run.read run.outcome.peaks
  pub exact : run.outcome.ended ≡ Complete → IsExact run.rules.limits run.read run.outcome.peaks
  pub counts : Counts run.rules run.read run.outcome.lines run.outcome.kept run.outcome.refused
  pub ends : Ends run.rules run.read run.outcome.lines at_end run.outcome.ended

-- the counts of a run are of all of a stream: of its good lines, of the features among them that are kept, and of the
-- lines among them that are reported
pub record CountsAll (rules : Rules) (s : List ℕ) (outcome : Outcome) : Type 0 where
  pub lines : outcome.lines ≡ length (good rules s)
  pub kept : outcome.kept ≡ length (filter is_feature (kept rules s))
  pub refused : outcome.refused ≡ length (reported rules s)

-- what a sink took of the bytes that were read, by the end of the run: what is kept of them, or of their whole lines
-- where a read failed or the reads ran out; or a prefix of that, and then what a failed step of the next one may leave,
-- or nothing more where memory was refused
abbrev pub Puts : {S : Type 0} → SinkContract S → Stream → End → S → S → Type 0
Puts law r Complete s t = Took law.takes s (kept r.rules r.bytes) t
Puts law r (Refused number place reason) s t = Took law.takes s (kept r.rules r.bytes) t
Puts law r WriteFault s t =
    TookFront law.takes (LeavesNext law.leaves) (prefixes (kept r.rules r.bytes) []) s t
Puts law r Memory s t = TookFront law.takes (λ others a b. b ≡ a) (prefixes (kept r.rules r.bytes) []) s t
Puts law r cut_short s t = Took law.takes s (kept r.rules (whole r.bytes)) t

-- of so many reads n gave bytes, by the end: not the one that found the end of the input, nor the one that failed; and
-- all, where the reads ran out
abbrev pub Gave : ℕ → ℕ → End → Type 0
Gave reads n Complete = n < reads
Gave reads n (Refused number place reason) = n ≤ reads
Gave reads n ReadFault = n < reads
Gave reads n ReadLimit = n ≡ reads
Gave reads n WriteFault = n ≤ reads
Gave reads n Memory = n ≤ reads

-- The bytes r came within this number of reads, by this end. Each read that gave bytes gave from 1 to 8,192 of them.
pub record IsReadWithin (reads : ℕ) (r : List ℕ) (end : End) : Type 0 where
  pub giving : ℕ
  pub gave : Gave reads giving end
  pub least : giving ≤ length r
  pub most : length r ≤ 8192 * giving

-- the last bytes that a run read, by its end: those of one read, or none where no bytes gave the end
abbrev pub IsLastRead : End → List ℕ → Type 0
IsLastRead (Refused number place reason) last = length last ≤ 8192
IsLastRead WriteFault last = length last ≤ 8192
IsLastRead Memory last = length last ≤ 8192
IsLastRead other last = last ≡ []

-- why memory was refused to a run: its reader was not read, as `at_start` says, and nothing was held; or the first line
-- is valid, LF ended it, and no line was handled
abbrev pub LacksRoom : Run → Type 0 → Type 0
LacksRoom run at_start =
    (at_start × (run.read ≡ []) × (run.outcome.peaks ≡ record { bytes = 0; tokens = 0; depth = 0 }))
    ⊎ LacksMemory run.rules run.read run.outcome.lines

-- of the begun line, which was not judged, the bytes were held too, by the end: after a read fault, and where the reads
-- ran out
abbrev pub HeldBegun : Run → End → Type 0
HeldBegun run Complete = Unit {0}
HeldBegun run (Refused number place reason) = Unit {0}
HeldBegun run WriteFault = Unit {0}
HeldBegun run Memory = Unit {0}
HeldBegun run cut_short = (exact_peaks run.rules.limits run.read).bytes ≤ run.outcome.peaks.bytes

-- A run stops in time. Before its last read nothing that can be judged of what it had read was refused; and all whole
-- lines were handled, so no write had failed, and no memory was refused. After a read fault, and where the reads ran
-- out, this is so of all that it read. Memory is refused before a read, or by a valid first line; `at_start` says that
-- the reader is as before. No less was held at most than the lines that were handled need.
pub record StopsInTime (run : Run) (at_start : Type 0) : Type 0 where
  pub front : List ℕ
  pub last : List ℕ
  pub cut : run.read ≡ front ++ last
  pub short : IsLastRead run.outcome.ended last
  pub good : refusal_in run.rules (judged run.rules.limits front) ≡ None
  pub done : length (lines (whole front)) ≤ run.outcome.lines
  pub memory : run.outcome.ended ≡ Memory → LacksRoom run at_start
  pub least : IsBelow (exact_peaks run.rules.limits (first_lines run.outcome.lines run.read)) run.outcome.peaks
  pub begun : HeldBegun run run.outcome.ended

-- a run from one state of a sink to another: its account, and what the sink took, by the lines that were handled and
-- by the end
pub record Runs {S : Type 0} (law : SinkContract S) (run : Run) (at_end : Type 0) (old new : S) : Type 0 where
  pub account : Account run at_end
  pub sink : Delivers law (stretch run.rules run.read 0 run.outcome.lines) old new (Some run.outcome.ended)
  pub puts : Puts law (stream_of run.rules run.read) run.outcome.ended old new

-- and from one state of a sink of reports to another: what it noted, by the lines and by the end
pub record RunsNoting {N : Type 0} (notes : N → Report → N → Type 0) (run : Run) (old new : N) : Type 0 where
  pub reports : Notes notes (stretch run.rules run.read 0 run.outcome.lines) old new
  pub noted : NotesRun notes (stream_of run.rules run.read) run.outcome.ended old new

-- the bytes that a writer got of those that were read, by the end of the run: their output, or that of their whole
-- lines where reading was cut short, or a prefix of the output where a write failed or memory was refused
abbrev pub Writes : Stream → End → Option (List ℕ) → Option (List ℕ) → Type 0
Writes r Complete old new = Appends old new (output r.rules r.bytes)
Writes r (Refused number place reason) old new = Appends old new (output r.rules r.bytes)
Writes r WriteFault old new = AppendsPart old new (output r.rules r.bytes)
Writes r Memory old new = AppendsPart old new (output r.rules r.bytes)
Writes r cut_short old new = Appends old new (output r.rules (whole r.bytes))

-- a run whose memory was refused before its first read: nothing was read, held, written or reported
pub record StopsUnread {N : Type 0} (run : Run) (old new : Outputs N) : Type 0 where
  pub ended : run.outcome.ended ≡ Memory
  pub unread : run.read ≡ []
  pub peaks : run.outcome.peaks ≡ record { bytes = 0; tokens = 0; depth = 0 }
  pub unwritten : Keeps old.bytes new.bytes
  pub unreported : new.reports ≡ old.reports

-- The headline of a run over the bytes that a reader gave, unless a read failed or the reads ran out. It is that of
-- each stream that begins with these bytes, and of which they are all if the reader was at its end. Or memory was
-- refused before the first read.
abbrev pub HeadlineOfRun : {N : Type 0} → (N → Report → N → Type 0) → Run → Type 0 → Outputs N → Outputs N → Type 0
HeadlineOfRun notes run at_end old new =
    StopsUnread run old new
    ⊎ ((rest : List ℕ) → (at_end → rest ≡ []) → IsUnread run.outcome.ended
    → Headline notes (fate_of run.rules (run.read ++ rest) run.read run.outcome.ended run.outcome.peaks) old new)

-- the bytes that a writer got where the write of the line after these failed: their output, and a prefix of that line,
-- which is kept
pub record WritesNext (first : UpTo) (old new : Option (List ℕ)) : Type 0 where
  pub line : Line
  pub next : slice_get (lines first.bytes) first.lines ≡ Some line
  pub kept : is_kept (verdict first.rules (take first.lines (lines first.bytes)) line.content) ≡ true
  pub front : List ℕ
  pub rest : List ℕ
  pub cut : raw line ≡ front ++ rest
  pub grows : Appends old new (output_first first.rules first.lines first.bytes ++ front)

-- the same by the lines that were handled: their output, and a prefix of the next one where its write failed; and
-- where memory was refused nothing, of no line
abbrev pub WritesLines : UpTo → End → Option (List ℕ) → Option (List ℕ) → Type 0
WritesLines first WriteFault old new = WritesNext first old new
WritesLines first Memory old new = (first.lines ≡ 0) × Keeps old new
WritesLines first other old new = Appends old new (output_first first.rules first.lines first.bytes)
