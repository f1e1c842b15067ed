-- Which count a sink that counts reports has of some.
use Rattle.std.specs.Prelude.{◌≡◌, List, ◌++◌, length}
use Rattle.cj_stream.specs.declared.ending.End.{End}
use Rattle.cj_stream.specs.declared.ending.End.TheVariants.{Complete, Refused, WriteFault, Memory}
use Rattle.cj_stream.specs.declared.report_sink.CountReports.{CountReports}
use Rattle.cj_stream.specs.declared.report_sink.Report.{Report}
use Rattle.cj_stream.specs.Cut.{InPieces, all_of, given_of}
use Rattle.cj_stream.specs.Lines.{whole}
use Rattle.cj_stream.specs.Tallied.{capped}
use Rattle.cj_stream.specs.Verdict.{Stream, reported}

-- how many reports there are, up to the greatest u64
abbrev pub count_of : List Report → CountReports
count_of rs = record { reports = capped (length rs) }

-- the count of nothing
abbrev pub no_reports : CountReports
no_reports = record { reports = 0 }

-- the count of the first of some reports
pub record CountsFirst (rs : List Report) (c : CountReports) : Type 0 where
  pub front : List Report
  pub others : List Report
  pub all : rs ≡ front ++ others
  pub counts : c ≡ count_of front

-- the count of what is reported of the bytes that a run read, by its end; of their whole lines where reading was cut
-- short, of the first reports where a write failed, and of nothing where memory was refused
abbrev pub CountsReportsOfRun : Stream → End → CountReports → Type 0
CountsReportsOfRun r Complete c = c ≡ count_of (reported r.rules r.bytes)
CountsReportsOfRun r (Refused number place reason) c = c ≡ count_of (reported r.rules r.bytes)
CountsReportsOfRun r WriteFault c = CountsFirst (reported r.rules r.bytes) c
CountsReportsOfRun r Memory c = c ≡ no_reports
CountsReportsOfRun r cut_short c = c ≡ count_of (reported r.rules (whole r.bytes))

-- the count of what is reported of a cut stream; or, after a write fault, of the first reports of the pieces that were
-- given; and of nothing where memory was refused
abbrev pub CountsReportsOfPieces : InPieces → End → CountReports → Type 0
CountsReportsOfPieces cut Complete c = c ≡ count_of (reported cut.rules (all_of cut))
CountsReportsOfPieces cut (Refused number place reason) c = c ≡ count_of (reported cut.rules (all_of cut))
CountsReportsOfPieces cut WriteFault c = CountsFirst (reported cut.rules (given_of cut)) c
CountsReportsOfPieces cut Memory c = c ≡ no_reports
CountsReportsOfPieces cut other c = ⊥
