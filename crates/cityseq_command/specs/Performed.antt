-- What the program does of what it is asked.
use Rattle.std.specs.Prelude.{◌≡◌, ◌≢◌, ◌⊎◌, ℕ, ◌<◌, ◌^◌, List, [], false, Result, Ok, Err, length}
use Rattle.std.specs.List.{filter}
use Rattle.std.specs.Io.KnownBytes.{Keeps}
use Rattle.clap.specs.Words.{kind_of}
use Rattle.clap.specs.declared.error.kind.ErrorKind.{ErrorKind}
use Rattle.clap.specs.declared.error.kind.ErrorKind.TheVariants.{OutOfMemory, DisplayHelp, DisplayVersion}
use Rattle.cj_budget.specs.Meaning.Limits.{LimitPair}
use Rattle.cj_stream.specs.Usual.{everything}
use Rattle.cj_stream.specs.Bound.{exact_peaks}
use Rattle.cj_stream.specs.Run.{HeadlineOfRun, Run, Account, IsReadWithin, RunsNoting, StopsInTime, Writes}
use Rattle.cj_stream.specs.Run.{WritesLines}
use Rattle.cj_stream.specs.Output.{outputs, Channel}
use Rattle.cj_stream.specs.Items.{is_feature}
use Rattle.cj_stream.specs.Meaning.Rules.{OptionSet, Rules}
use Rattle.cj_stream.specs.Query.{rules_for}
use Rattle.cj_stream.specs.ReportSink.{Collects}
use Rattle.cj_stream.specs.Sink.{HasRisen}
use Rattle.cj_stream.specs.TallySink.{Tally, IsTallyOf}
use Rattle.cj_stream.specs.Verdict.{Stream, good, kept, reported, stream_of, up_to}
use Rattle.cj_stream.specs.declared.ending.End.{End}
use Rattle.cj_stream.specs.declared.ending.End.TheVariants.{Complete, Refused, ReadFault, ReadLimit, WriteFault, Memory}
use Rattle.cj_stream.specs.declared.output.WriteFault.{WriteFault as Unwritten}
use Rattle.cj_stream.specs.declared.report_sink.Report.{Report}
use Rattle.cj_stream.specs.declared.running.Outcome.{Outcome}
pub use Rattle.cityseq_command.specs.FaultLines.{Channels}
use Rattle.cityseq_command.specs.FaultLines.{ShowsEnd, Wrote, fault_line, limit_line, no_command_line, query_line}
use Rattle.cityseq_command.specs.FaultLines.{status_of, status_after, status_of_query}
use Rattle.cityseq_command.specs.ReportWriter.{AreReported, report_lines}
use Rattle.cityseq_command.specs.Summary.{check_text, summary_text}
use Rattle.cityseq_command.specs.declared.ask.Ask.{Ask}
use Rattle.cityseq_command.specs.declared.ask.Ask.TheVariants.{Check, Filter, Info}
use Rattle.cityseq_command.specs.declared.asking.NoAsk.{NoAsk}
use Rattle.cityseq_command.specs.declared.asking.NoAsk.TheVariants.{Words, NoCommand, Limits, Query}
use Rattle.cityseq_command.specs.declared.fault_lines.Shown.{Shown}

-- ---- texts of our own

-- the end that is said after a complete run, by what came of writing a text
abbrev pub end_of_writing : Result (Unit {0}) Unwritten → End
end_of_writing (Ok x) = Complete
end_of_writing (Err fault) = WriteFault

-- After a run that wrote nothing and ended so a text is written where the run is complete, and nothing otherwise. What
-- is said is the run's end; or a write fault where a write of the text failed, and then a prefix of it was written.
abbrev pub SaysText : List ℕ → End → End → Channel → Channel → Type 0
SaysText text Complete said old new = (written : Result (Unit {0}) Unwritten) × (said ≡ end_of_writing written)
    × Wrote text written old new
SaysText text (Refused line place reason) said old new = (said ≡ Refused line place reason) × Keeps old.bytes new.bytes
SaysText text ReadFault said old new = (said ≡ ReadFault) × Keeps old.bytes new.bytes
SaysText text ReadLimit said old new = (said ≡ ReadLimit) × Keeps old.bytes new.bytes
SaysText text WriteFault said old new = ⊥
SaysText text Memory said old new = (said ≡ Memory) × Keeps old.bytes new.bytes

-- of the bytes r: how many good lines they have, how many features, and how many lines are reported as refused
abbrev pub SaysCheck : Stream → End → End → Channel → Channel → Type 0
SaysCheck r e said old new =
    SaysText (check_text (length (good r.rules r.bytes)) (length (filter is_feature (kept r.rules r.bytes)))
    (length (reported r.rules r.bytes))) e said old new

-- of the bytes r: how many good lines they have, their tally, and what was held at most
pub record SaysSummary (r : Stream) (e said : End) (old new : Channel) : Type 0 where
  pub tally : Tally
  pub counted : e ≡ Complete → IsTallyOf (kept r.rules r.bytes) tally
  pub says : SaysText (summary_text (length (good r.rules r.bytes)) tally (exact_peaks r.rules.limits r.bytes)) e said
      old new

-- ---- what is asked

-- the rules that lines are judged by
abbrev pub all_under : LimitPair → OptionSet → Rules
all_under limits options = record { limits = limits; criteria = everything; options = options }

abbrev pub rules_of_ask : Ask → Rules
rules_of_ask (Check limits options) = all_under limits options
rules_of_ask (Filter limits query options) = rules_for limits query options
rules_of_ask (Info limits options) = all_under limits options

-- a command takes the options that are set: `filter` alone leaves out what is asked for, and a summary of `info` is of
-- valid streams alone, so it does not go on
abbrev pub TakesOptions : Ask → Type 0
TakesOptions (Check limits options) = options.exclude ≡ false
TakesOptions (Filter limits query options) = Unit {0}
TakesOptions (Info limits options) = (options.keep_going ≡ false) × (options.exclude ≡ false)

-- the run over these bytes that what is asked comes to
abbrev pub run_of : Ask → List ℕ → Outcome → Run
run_of ask r outcome = record { rules = rules_of_ask ask; read = r; outcome = outcome }

-- what is asked, the bytes that were read for it, what says that the reader is as before, and what says that these
-- bytes are all there was
pub record Asked : Type 1 where
  pub ask : Ask
  pub read : List ℕ
  pub at_start : Type 0
  pub at_end : Type 0

abbrev pub asked : Ask → List ℕ → Type 0 → Type 0 → Asked
asked ask r at_start at_end = record { ask = ask; read = r; at_start = at_start; at_end = at_end }

-- how a run went: the bytes that it read, what says that these are all there was, its outcome, and its reports
pub record Went : Type 1 where
  pub read : List ℕ
  pub at_end : Type 0
  pub outcome : Outcome
  pub reports : List Report

abbrev pub went : List ℕ → Type 0 → Outcome → List Report → Went
went r at_end outcome reports = record { read = r; at_end = at_end; outcome = outcome; reports = reports }

-- What is written of the bytes over which a run went so, and the end that is said of it. Of what is copied the headline
-- holds.
abbrev pub Answers : Ask → Went → End → Channel → Channel → Type 0
Answers (Check limits options) run said old new =
    SaysCheck (stream_of (all_under limits options) run.read) run.outcome.ended said old new
Answers (Filter limits query options) run said old new =
    (said ≡ run.outcome.ended)
    × Writes (stream_of (rules_for limits query options) run.read) run.outcome.ended old.bytes new.bytes
    × HeadlineOfRun Collects (run_of (Filter limits query options) run.read run.outcome) run.at_end (outputs old [])
    (outputs new run.reports)
    × WritesLines (up_to (rules_for limits query options) run.read run.outcome.lines) run.outcome.ended
    old.bytes new.bytes
Answers (Info limits options) run said old new =
    SaysSummary (stream_of (all_under limits options) run.read) run.outcome.ended said old new

-- an outcome with this end in place of its own
abbrev pub ended_by : Outcome → End → Outcome
ended_by outcome end = record {
  lines = outcome.lines;
  kept = outcome.kept;
  refused = outcome.refused;
  peaks = outcome.peaks;
  ended = end;
}

-- what is known of standard output, and a sink of reports
pub record Sinks (N : Type 0) : Type 0 where
  pub channel : Channel
  pub reports : N

abbrev pub sinks : {N : Type 0} → Channel → N → Sinks N
sinks c reports = record { channel = c; reports = reports }

-- What is asked was done with bytes r that were read, but for what is said at its end: the account of the run over
-- them, which stopped in time; its reports, which a sink of reports has taken; what standard output has got, and that a
-- write to it failed where that is said; and how many lines were refused that reading went on after. What is said is
-- the run's outcome, but for its end.
pub record Does {N : Type 0} (notes : N → Report → N → Type 0) (of : Asked) (said : Outcome) (old new : Sinks N) :
    Type 0 where
  pub outcome : Outcome
  pub refused : List Report
  pub rest : said ≡ ended_by outcome said.ended
  pub account : Account (run_of of.ask of.read outcome) of.at_end
  pub stops : StopsInTime (run_of of.ask of.read outcome) of.at_start
  pub within : IsReadWithin (2 ^ 40) of.read outcome.ended
  pub reported : AreReported notes (run_of of.ask of.read outcome) refused old.reports new.reports
  pub answers : Answers of.ask (went of.read of.at_end outcome refused) said.ended old.channel new.channel
  pub cause : said.ended ≡ WriteFault → HasRisen old.channel.failures new.channel.failures
  pub count : said.refused ≡ length refused

-- What is asked was done with bytes r that were read: the account of the run over them, which stopped in time; that its
-- reads ran out is never said of fewer than 2^40 bytes; its reports, of which there are none unless it goes on;
-- what standard output has got, and that a write to it failed where that is said; what the flush answered, and standard
-- error has got: the lines of the reports, and then that of the end; and the status.
pub record Performs (of : Asked) (answer : ℕ) (old new : Channels) : Type 0 where
  pub outcome : Outcome
  pub refused : List Report
  pub said : End
  pub shown : Shown
  pub account : Account (run_of of.ask of.read outcome) of.at_end
  pub stops : StopsInTime (run_of of.ask of.read outcome) of.at_start
  pub within : IsReadWithin (2 ^ 40) of.read outcome.ended
  pub enough : length of.read < 2 ^ 40 → said ≢ ReadLimit
  pub reported : RunsNoting Collects (run_of of.ask of.read outcome) [] refused
  pub usual : (rules_of_ask of.ask).options.keep_going ≡ false → refused ≡ []
  pub answers : Answers of.ask (went of.read of.at_end outcome refused) said old.out new.out
  pub cause : said ≡ WriteFault → HasRisen old.out.failures new.out.failures
  pub reports : ShowsEnd said (report_lines refused) shown old new
  pub status : answer ≡ status_after (length refused) shown.end

-- ---- other words

-- A text was written that the words ask for, as help: what standard output has got; what the flush answered, and
-- standard error has got; and the status.
pub record WritesHelp (answer : ℕ) (old new : Channels) : Type 0 where
  pub text : List ℕ
  pub said : End
  pub shown : Shown
  pub says : SaysText text Complete said old.out new.out
  pub reports : ShowsEnd said [] shown old new
  pub status : answer ≡ status_of shown.end

-- standard error has got all of this line, or a prefix of it where it failed; and the answer is the status that is due
pub record WritesFault (line : List ℕ) (due answer : ℕ) (old_err new_err : Channel) : Type 0 where
  pub written : Result (Unit {0}) Unwritten
  pub wrote : Wrote line written old_err new_err
  pub status : answer ≡ due

-- no memory was granted
abbrev pub WritesMemory : ℕ → Channel → Channel → Type 0
WritesMemory answer old_err new_err = WritesFault (fault_line Memory) (status_of Memory) answer old_err new_err

-- the words are wrong, as some text says
abbrev pub WritesWrongWords : ℕ → Channel → Channel → Type 0
WritesWrongWords answer old_err new_err = (text : List ℕ) × WritesFault text 2 answer old_err new_err

-- an error of the words asks for no help
abbrev pub IsNoHelp : ErrorKind → Type 0
IsNoHelp kind = (kind ≢ DisplayHelp) × (kind ≢ DisplayVersion)

-- an error of the words is said by its kind; memory may be refused to its text. But for help nothing is written to
-- standard output, and it is not flushed.
abbrev pub WritesError : ErrorKind → ℕ → Channels → Channels → Type 0
WritesError kind answer old new =
    ((new.out ≡ old.out) × WritesMemory answer old.err new.err)
    ⊎ ((kind ≢ OutOfMemory) × IsNoHelp kind × (new.out ≡ old.out) × WritesWrongWords answer old.err new.err)
    ⊎ (¬ IsNoHelp kind × WritesHelp answer old new)

-- Nothing is done with the stream, for this reason: an error of the words is said by its kind; and that no command is
-- named, the fault of a limit and that of a query each by a line of its own. But for help nothing is written to
-- standard output, and it is not flushed.
abbrev pub Declines : NoAsk → ℕ → Channels → Channels → Type 0
Declines (Words error) answer old new = WritesError (kind_of error) answer old new
Declines NoCommand answer old new = (new.out ≡ old.out) × WritesFault no_command_line 2 answer old.err new.err
Declines (Limits fault) answer old new = (new.out ≡ old.out) × WritesFault (limit_line fault) 2 answer old.err new.err
Declines (Query fault) answer old new =
    (new.out ≡ old.out) × WritesFault (query_line fault) (status_of_query fault) answer old.err new.err
