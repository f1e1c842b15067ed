-- What is reported of the invalid lines that a run went on after, and what a sink that writes these reports makes of
-- its output.
use Rattle.std.specs.Prelude.{◌≡◌, ℕ, List, [], Option, Result}
use Rattle.std.specs.List.{flat_map}
use Rattle.cj_stream.specs.Meaning.Outputs.{Took}
use Rattle.cj_stream.specs.Output.{Channel, channel}
use Rattle.cj_stream.specs.ReportSink.{Collects}
use Rattle.cj_stream.specs.Run.{Run, RunsNoting}
use Rattle.cj_stream.specs.declared.ending.End.TheVariants.{Refused}
use Rattle.cj_stream.specs.declared.output.Output.{Output}
use Rattle.cj_stream.specs.declared.output.WriteFault.{WriteFault as Unwritten}
use Rattle.cj_stream.specs.declared.report_sink.Report.{Report}
use Rattle.cityseq_command.specs.FaultLines.{fault_line, WroteAfter}
use Rattle.cityseq_command.specs.declared.report_writer.WriteReports.{WriteReports}

-- ---- the reports of a run

-- these are the reports of a run, one for each line that was refused and gone on after: what was collected of it from
-- its start; and they took a sink of reports from one state to another
pub record AreReported {N : Type 0} (notes : N → Report → N → Type 0) (run : Run) (reports : List Report) (old new : N)
    : Type 0 where
  pub collected : RunsNoting Collects run [] reports
  pub took : Took notes old reports new

-- the line of a report is that of a run which ended with this refusal
abbrev pub report_line : Report → List ℕ
report_line report = fault_line (Refused report.line report.place report.reason)

-- and the lines of several
abbrev pub report_lines : List Report → List ℕ
report_lines reports = flat_map report_line reports

-- ---- a sink that writes them

-- the output that is lent to it, which loan of that it holds, and what came of all its writes
abbrev pub lent_output : {E : Type 0} → WriteReports E → Output E
lent_output w = w.err.now

abbrev pub loan_name : {E : Type 0} → WriteReports E → ℕ
loan_name w = w.err.ghost_name

abbrev pub writing : {E : Type 0} → WriteReports E → Result (Unit {0}) Unwritten
writing w = w.written

-- a report is written as its line, after all others, and the sink keeps its loan
pub record WritesReport {E : Type 0} (contents : E → Option (List ℕ)) (a : WriteReports E) (report : Report)
    (b : WriteReports E) : Type 0 where
  pub same_loan : loan_name b ≡ loan_name a
  pub line : WroteAfter (writing a) (report_line report) (writing b) (channel contents (lent_output a))
      (channel contents (lent_output b))
