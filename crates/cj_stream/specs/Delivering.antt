-- What becomes of a later line where it is judged and put to a sink.
use Rattle.std.specs.Prelude.{◌≡◌, Result, Ok, Err}
use Rattle.cj_stream.specs.declared.validator.LineResult.{LineResult}
use Rattle.cj_stream.specs.declared.validator.LineResult.TheVariants.{Kept, LeftOut, Blank, Refused}
use Rattle.cj_stream.specs.declared.output.WriteFault.{WriteFault}
use Rattle.cj_stream.specs.Items.{Item}
use Rattle.cj_stream.specs.Reading.{DueLine, JudgedAs}
use Rattle.cj_stream.specs.Sink.{SinkContract}
use Rattle.cj_stream.specs.Meaning.Verdict.{Verdict, Invalid, Kept as KeptLine, LeftOut as LeftOutLine}
use Rattle.cj_stream.specs.Meaning.Verdict.{Blank as BlankLine}

-- what became of a line is the verdict on it
abbrev pub verdict_of : LineResult → Verdict
verdict_of Kept = KeptLine
verdict_of LeftOut = LeftOutLine
verdict_of Blank = BlankLine
verdict_of (Refused f) = Invalid f.place f.reason

-- the sink took the item if the line was kept, and stays if not
abbrev pub Gets : {S : Type 0} → SinkContract S → Item → LineResult → S → S → Type 0
Gets law i Kept s t = law.takes s i t
Gets law i other s t = t ≡ s

-- the answer is the verdict, and the sink has what is kept; or a fault of the sink is answered, at a line to keep
abbrev pub Hands : {S : Type 0} → SinkContract S → DueLine → S → Result LineResult WriteFault → S → Type 0
Hands law (JudgedAs number on v i) s (Ok handled) t = (v ≡ verdict_of handled) × Gets law i handled s t
Hands law (JudgedAs number on v i) s (Err fault) t = (v ≡ KeptLine) × law.leaves s i t
