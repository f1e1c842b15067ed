-- What is reported of invalid lines, and what a sink of reports has noted of a stream.
use Rattle.std.specs.Prelude.{◌≡◌, ◌+◌, ◌-◌, ◌^◌, List, [], ◌∷◌, ◌++◌, min}
use Rattle.cj_stream.specs.declared.ending.End.{End}
use Rattle.cj_stream.specs.declared.ending.End.TheVariants.{Complete, Refused, WriteFault, Memory}
use Rattle.cj_stream.specs.declared.report_sink.CountReports.{CountReports}
use Rattle.cj_stream.specs.declared.report_sink.Report.{Report}
use Rattle.cj_stream.specs.Cut.{InPieces, all_of, given_of}
use Rattle.cj_stream.specs.Lines.{whole}
use Rattle.cj_stream.specs.Meaning.Outputs.{Took}
use Rattle.cj_stream.specs.Sink.{TookOf, prefixes, TookFront}
use Rattle.cj_stream.specs.Verdict.{Stream, Stretch, reported, reported_of}

-- a report goes up a count by one, which stops at the greatest u64
abbrev pub CountsReport : CountReports → Report → CountReports → Type 0
CountsReport a r b = b.reports ≡ min (a.reports + 1) (2 ^ 64 - 1)

-- a list that collects reports gets one more at its end
abbrev pub Collects : List Report → Report → List Report → Type 0
Collects a r b = b ≡ a ++ r ∷ []

-- the reports of these lines were noted
abbrev pub Notes : {N : Type 0} → (N → Report → N → Type 0) → Stretch → N → N → Type 0
Notes notes part n m = TookOf notes reported_of part n m

-- what was noted of the bytes that a run read, by its end: what is reported of them, or of their whole lines where a
-- read failed or the reads ran out; or a prefix of that where a write failed, and nothing where memory was refused
abbrev pub NotesRun : {N : Type 0} → (N → Report → N → Type 0) → Stream → End → N → N → Type 0
NotesRun notes r Complete n m = Took notes n (reported r.rules r.bytes) m
NotesRun notes r (Refused number place reason) n m = Took notes n (reported r.rules r.bytes) m
NotesRun notes r WriteFault n m =
    TookFront notes (λ others a b. b ≡ a) (prefixes (reported r.rules r.bytes) []) n m
NotesRun notes r Memory n m = m ≡ n
NotesRun notes r cut_short n m = Took notes n (reported r.rules (whole r.bytes)) m

-- what was noted of a cut stream: what is reported of all of it, or, after a write fault, a prefix of what is reported
-- of the pieces that were given; and nothing where memory was refused
abbrev pub NotesPieces : {N : Type 0} → (N → Report → N → Type 0) → InPieces → End → N → N → Type 0
NotesPieces notes cut Complete n m = Took notes n (reported cut.rules (all_of cut)) m
NotesPieces notes cut (Refused number place reason) n m = Took notes n (reported cut.rules (all_of cut)) m
NotesPieces notes cut WriteFault n m =
    TookFront notes (λ others a b. b ≡ a) (prefixes (reported cut.rules (given_of cut)) []) n m
NotesPieces notes cut Memory n m = m ≡ n
NotesPieces notes cut other n m = ⊥
