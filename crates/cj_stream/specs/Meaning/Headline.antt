-- The headline.
use Rattle.std.specs.Prelude.{◌≡◌, ℕ, List, [], ◌∷◌, true}
use Rattle.std.specs.Io.KnownBytes.{Appends, Keeps}
use Rattle.cj_budget.specs.Meaning.Counts.{HasRisen}
use Rattle.cj_budget.specs.declared.limits.Peaks.{Peaks}
use Rattle.cj_stream.specs.declared.ending.End.{End}
use Rattle.cj_stream.specs.declared.ending.End.TheVariants.{Complete, Refused, ReadFault, ReadLimit, WriteFault, Memory}
use Rattle.cj_stream.specs.declared.report_sink.Report.{Report}
use Rattle.cj_stream.specs.Meaning.Bound.{IsBounded, HasPeaks}
use Rattle.cj_stream.specs.Meaning.Judged.{JudgedLine, AreJudged, output_in, reported_in, ending_in}
use Rattle.cj_stream.specs.Meaning.Lines.{lines}
use Rattle.cj_stream.specs.Meaning.Outputs.{Outputs, Took}
use Rattle.cj_stream.specs.Meaning.Rules.{Rules}
use Rattle.cj_stream.specs.Meaning.Verdict.{Kept}

-- no allocation failed, and no write
abbrev pub IsUnhindered : End → Type 0
IsUnhindered Complete = Unit {0}
IsUnhindered (Refused number place reason) = Unit {0}
IsUnhindered ReadFault = Unit {0}
IsUnhindered ReadLimit = Unit {0}
IsUnhindered WriteFault = ⊥
IsUnhindered Memory = ⊥

-- what became of a stream: the rules, its text, the prefix of it that was given, the end, and what was held at most
pub record Fate (E : Type 0) : Type 0 where
  pub rules : Rules
  pub text : List ℕ
  pub given : List ℕ
  pub end : E
  pub peaks : Peaks

-- the first line is a valid header, which LF ended
abbrev pub BeginsWell : List JudgedLine → Type 0
BeginsWell [] = ⊥
BeginsWell (j ∷ js) = (j.verdict ≡ Kept) × (j.line.lf ≡ true)

-- memory was refused: nothing was written or reported, and the first line is a valid header. After it, and only then,
-- the engine asks for the memory of the later lines.
pub record RefusedMemory {N : Type 0} (js : List JudgedLine) (old new : Outputs N) : Type 0 where
  pub unwritten : Keeps old.bytes new.bytes
  pub unreported : new.reports ≡ old.reports
  pub header : BeginsWell js

-- An engine with these rules was fed a prefix of a text, and ended. There is a list of the lines of the text with their
-- verdicts. If no write failed and no memory was refused, the output and the reports are exactly those of the list, in
-- order, and so is the end. After a write fault, a write to the writer has failed. What was held is always within the
-- bound, and it is that of the list if the stream is complete.
pub record Headline {N : Type 0} (notes : N → Report → N → Type 0) (fate : Fate End) (old new : Outputs N) :
    Type 0 where
  pub js : List JudgedLine
  pub judged : AreJudged fate.rules (lines fate.text) js
  pub writes : IsUnhindered fate.end → Appends old.bytes new.bytes (output_in fate.rules js)
  pub gives : IsUnhindered fate.end → Took notes old.reports (reported_in fate.rules js) new.reports
  pub ends : IsUnhindered fate.end → fate.end ≡ ending_in fate.rules js
  pub cause : fate.end ≡ WriteFault → HasRisen old.failures new.failures
  pub memory : fate.end ≡ Memory → RefusedMemory js old new
  pub held : IsBounded fate.rules.limits fate.given fate.peaks
  pub exact : fate.end ≡ Complete → HasPeaks fate.rules.limits js fate.peaks
