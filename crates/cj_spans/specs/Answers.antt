-- What a scan answers of a line, by the line's judgement.
use Rattle.std.specs.Prelude.{ℕ, ◌⊎◌, List, Result, IsOk, IsErrOf}
use Rattle.cj_spans.specs.declared.fault.ScanFault.{ScanFault}
use Rattle.cj_spans.specs.declared.fault.ScanFault.TheVariants.{NotUtf8, Syntax, TooDeep, Memory}
use Rattle.cj_spans.specs.declared.fault.LineFault.{LineFault}
use Rattle.cj_spans.specs.declared.fault.LineFault.TheVariants.{NotUtf8 as LineNotUtf8, Syntax as LineSyntax}
use Rattle.cj_spans.specs.declared.fault.LineFault.TheVariants.{TooDeep as LineTooDeep}
use Rattle.cj_spans.specs.Meaning.Judgement.{Judgement, spelled, broken, sunk}

-- what a scan answers of a line with this judgement, unless memory is refused
abbrev pub IsAnswerOf : {b : List ℕ} {d : ℕ} → Judgement b d → Result (Unit {0}) ScanFault → Type 0
IsAnswerOf (spelled t j n) r = IsOk r ⊎ IsErrOf r Memory
IsAnswerOf (broken i s n) r = IsErrOf r (Syntax i) ⊎ IsErrOf r Memory
IsAnswerOf (sunk i s) r = IsErrOf r (TooDeep i) ⊎ IsErrOf r Memory

-- what a scan in room that is reserved answers of a line with this judgement
abbrev pub IsReservedAnswerOf : {b : List ℕ} {d : ℕ} → Judgement b d → Result (Unit {0}) LineFault → Type 0
IsReservedAnswerOf (spelled t j n) r = IsOk r
IsReservedAnswerOf (broken i s n) r = IsErrOf r (LineSyntax i)
IsReservedAnswerOf (sunk i s) r = IsErrOf r (LineTooDeep i)

-- the same fault among those of a scan that may be refused memory
abbrev pub widened_fault : LineFault → ScanFault
widened_fault (LineNotUtf8 i) = NotUtf8 i
widened_fault (LineSyntax i) = Syntax i
widened_fault (LineTooDeep i) = TooDeep i
