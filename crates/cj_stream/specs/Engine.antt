-- Which bytes an engine stands for, and what it answers.
use Rattle.std.specs.Prelude.{◌≡◌, ◌⊎◌, ℕ, ◌+◌, ◌<◌, ◌≤◌, List, [], ◌++◌, true, Option, Some, None, is_none, Result, Ok, Err}
use Rattle.std.specs.Prelude.{if◌then◌else◌, length, take, slice_get}
use Rattle.cj_budget.specs.Meaning.Limits.{LimitPair}
use Rattle.cj_budget.specs.declared.limits.Peaks.{Peaks}
use Rattle.cj_stream.specs.declared.ending.End.{End}
use Rattle.cj_stream.specs.declared.ending.End.TheVariants.{Complete, Refused, WriteFault, Memory}
use Rattle.cj_stream.specs.Carrying.{SplitterState}
use Rattle.cj_stream.specs.Meaning.Lines.{Line, lines}
use Rattle.cj_stream.specs.Lines.{closed, first_content, whole, begun_later}
use Rattle.cj_stream.specs.Meaning.Rules.{Rules}
use Rattle.cj_stream.specs.Verdict.{refusal_in, judged, verdict, item_after, is_kept, good, ending, kept_of}
use Rattle.cj_stream.specs.Verdict.{AreCounted, rulings_first, UpTo, up_to, Stretch}
use Rattle.cj_stream.specs.Meaning.Bound.{IsBounded, of_first}
use Rattle.cj_stream.specs.Bound.{IsBelow, tree_size}
use Rattle.cj_stream.specs.Reading.{Reading, Reads, stored}
use Rattle.cj_stream.specs.Scanning.{Scanning, Scanned, ListsFailToGrow}
use Rattle.cj_stream.specs.Sink.{SinkContract, TookOf}

-- what a contract sees of an engine: the bytes and the tokens that it holds of a stream, the bytes it has taken, and
-- the end it has come to
pub record EngineState : Type 0 where
  pub reading : Reading
  pub scanning : Scanning
  pub taken : ℕ
  pub ended : Option End

-- what is seen of a splitter, of the bytes it has taken, and of the end it has come to
abbrev pub state : SplitterState → ℕ → Option End → EngineState
state f taken ended = record { reading = f.reading; scanning = f.scanning; taken = taken; ended = ended }

-- the rules that it judges by, and the limits among them
abbrev pub rules_of : EngineState → Rules
rules_of e = e.reading.rules

abbrev pub limits_of : EngineState → LimitPair
limits_of e = e.reading.rules.limits

-- the lines that were handled, and those of them that were refused
abbrev pub lines_of : EngineState → ℕ
lines_of e = e.reading.lines

abbrev pub refused_of : EngineState → ℕ
refused_of e = e.reading.refused

-- what is held now
abbrev pub held_by : EngineState → Peaks
held_by e = record {
  bytes = length e.reading.header.elements + length e.reading.line.elements;
  tokens = length e.scanning.header.elements + length e.scanning.line.elements;
  depth = length e.scanning.opened.elements;
}

-- the most that its lists have held, added up
abbrev pub peaks_of : EngineState → Peaks
peaks_of e = record {
  bytes = e.reading.header.peak + e.reading.line.peak;
  tokens = e.scanning.header.peak + e.scanning.line.peak;
  depth = e.scanning.opened.peak;
}

-- the first n lines of p are good, and this many features are kept of them, and lines refused
pub record Counts (rules : Rules) (p : List ℕ) (n features refusals : ℕ) : Type 0 where
  pub few : n ≤ length (lines p)
  pub counted : AreCounted (rulings_first rules n p) features refusals

-- The engine represents these bytes: what it holds is within their bound, and its counts are of their lines. Before an
-- end it has read them all.
pub record StandsFor (e : EngineState) (p : List ℕ) : Type 0 where
  pub held : IsBelow (held_by e) (peaks_of e)
  pub bounded : IsBounded (limits_of e) p (peaks_of e)
  pub counts : Counts (rules_of e) p (lines_of e) e.reading.kept (refused_of e)
  pub going : e.ended ≡ None → Reads e.reading p × Scanned (limits_of e) (closed p) e.scanning × (e.taken ≡ length p)

-- a growth for later lines failed: the count of that has risen, of one of their two lists
abbrev pub EngineFailsToGrow : EngineState → EngineState → Type 0
EngineFailsToGrow old new = ListsFailToGrow old.reading old.scanning new.reading new.scanning

-- some growth for later lines has failed
abbrev pub HasFailedToGrow : EngineState → Type 0
HasFailedToGrow e = (0 < e.reading.line.failed_growths) ⊎ (0 < e.scanning.line.failed_growths)

-- it has been given nothing
abbrev pub IsFresh : EngineState → Type 0
IsFresh e = StandsFor e [] × (e.ended ≡ None)

-- the bytes given so far, after a piece: those after an end do not count
abbrev pub given : EngineState → List ℕ → List ℕ → List ℕ
given e p piece = if is_none e.ended then p ++ piece else p

-- what a fault on the line after these may leave, if the end is a write fault, and else nothing
abbrev pub Faults : {S : Type 0} → SinkContract S → UpTo → S → S → Option End → Type 0
Faults law first s t (Some WriteFault) =
    (l : Line) × (slice_get (lines first.bytes) first.lines ≡ Some l)
    × (is_kept (verdict first.rules (take first.lines (lines first.bytes)) l.content) ≡ true)
    × law.leaves s (item_after first.rules (take first.lines (lines first.bytes)) l) t
Faults law first s t other = t ≡ s

-- the sink has taken the kept ones of these lines, and after a write fault what that leaves
pub record Delivers {S : Type 0} (law : SinkContract S) (part : Stretch) (s t : S) (ended : Option End) : Type 0 where
  pub middle : S
  pub took : TookOf law.takes kept_of part s middle
  pub fault : Faults law (up_to part.rules part.bytes part.to) middle t ended

-- nothing that could be judged of these bytes was the end: all whole lines are handled, and what is held are the
-- bytes of the first line and of the begun one, unless that is too long, and the tokens of the first line if it is
-- whole
pub record Going (e : EngineState) (q : List ℕ) : Type 0 where
  pub good : refusal_in (rules_of e) (judged (limits_of e) q) ≡ None
  pub lines : lines_of e ≡ length (lines (whole q))
  pub held : held_by e ≡ record {
    bytes = length (first_content q) + length (stored (limits_of e).line (begun_later q));
    tokens = of_first (tree_size (limits_of e)) (closed q);
    depth = 0;
  }

-- what an end says of the lines of q that can be judged, after n of them
abbrev pub IsEndAfter : Rules → List ℕ → ℕ → End → Type 0
IsEndAfter rules q n (Refused number place reason) =
    (refusal_in rules (judged rules.limits q) ≡ Some (Refused number place reason)) × (number ≡ n + 1)
IsEndAfter rules q n WriteFault = Unit {0}
IsEndAfter rules q n Memory = Unit {0}
IsEndAfter rules q n other = ⊥

-- what the end of a stream says of it, after n of its lines: its ending, after all good lines
abbrev pub Concludes : Rules → List ℕ → ℕ → End → Type 0
Concludes rules p n Complete = (ending rules p ≡ Complete) × (n ≡ length (good rules p))
Concludes rules p n (Refused number place reason) = (ending rules p ≡ Refused number place reason)
    × (n ≡ length (good rules p))
Concludes rules p n WriteFault = Unit {0}
Concludes rules p n Memory = Unit {0}
Concludes rules p n other = ⊥

-- the end of a stream, by what came of its last line
abbrev pub end_of : Result (Unit {0}) End → End
end_of (Ok x) = Complete
end_of (Err e) = e
