-- The ends of the two readers, seen as ends of a stream.
use Rattle.std.specs.Prelude.{◌≡◌, ◌<◌, None, Result, Ok, Err}
use Rattle.cj_stream.specs.declared.ending.End.{End}
use Rattle.cj_stream.specs.declared.ending.End.TheVariants.{Complete, Refused, WriteFault, Memory}
use Rattle.cj_stream.specs.declared.ending.HeaderEnd.{HeaderEnd}
use Rattle.cj_stream.specs.declared.ending.HeaderEnd.TheVariants.{Complete as HeaderComplete, Refused as HeaderRefused}
use Rattle.cj_stream.specs.declared.ending.HeaderEnd.TheVariants.{WriteFault as HeaderWriteFault}
use Rattle.cj_stream.specs.declared.ending.HeaderEnd.TheVariants.{Memory as HeaderMemory}
use Rattle.cj_stream.specs.declared.ending.LineEnd.{LineEnd}
use Rattle.cj_stream.specs.declared.ending.LineEnd.TheVariants.{Complete as LineComplete, Refused as LineRefused}
use Rattle.cj_stream.specs.declared.ending.LineEnd.TheVariants.{WriteFault as LineWriteFault}
use Rattle.cj_stream.specs.Engine.{EngineState, lines_of}

-- what ends a reader of a header, and what ends a reader of lines
abbrev pub header_end : HeaderEnd → End
header_end HeaderComplete = Complete
header_end (HeaderRefused line place reason) = Refused line place reason
header_end HeaderWriteFault = WriteFault
header_end HeaderMemory = Memory

abbrev pub line_end : LineEnd → End
line_end LineComplete = Complete
line_end (LineRefused line place reason) = Refused line place reason
line_end LineWriteFault = WriteFault

-- what a call of a reader answers, with its end seen as an end of the stream
abbrev pub answer_of : {T E : Type 0} → (E → End) → Result T E → Result T End
answer_of ending (Ok x) = Ok x
answer_of ending (Err e) = Err (ending e)

-- the first line was taken, and no end has come
pub record IsAccepted (e : EngineState) : Type 0 where
  pub line : 0 < lines_of e
  pub going : e.ended ≡ None
