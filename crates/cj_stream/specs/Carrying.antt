-- What a splitter is as one value, what always holds of it, and what each call that takes bytes or ends the stream
-- carries on.
use Rattle.std.specs.Prelude.{◌<◌, ◌≤◌, List, ◌++◌, ℕ, Result, OnOk, IsErrOf, length}
use Rattle.cj_stream.specs.declared.ending.End.{End}
use Rattle.cj_stream.specs.declared.ending.End.TheVariants.{WriteFault, Memory}
use Rattle.cj_stream.specs.Bound.{contents}
use Rattle.cj_stream.specs.Lines.{closed, first_content}
use Rattle.cj_stream.specs.Reading.{Reading, IsSound, Stays, Reads, further, Advances, Stops, Finishes}
use Rattle.cj_stream.specs.Scanning.{Scanning, Scanned, HoldsFew, HasRoom, IsReady, ListsFailToGrow, Rises}
use Rattle.cj_stream.specs.Sink.{SinkContract, WithSink, with_sink, HasRisen}

-- what is held of bytes, and of trees
pub record SplitterState : Type 0 where
  pub reading : Reading
  pub scanning : Scanning

-- what always holds: all lists have their limits, and none is above its own
pub record IsLimited (f : SplitterState) : Type 0 where
  pub sound : IsSound f.reading
  pub room : HasRoom f.reading.rules.limits f.scanning

-- However a call ends, the rules stay, no peak falls, and no list is above its limit. A write fault has its cause
-- in the sink, and want of memory in a growth that failed; and it comes before the header is handled, or not at
-- all
pub record Carries {S T : Type 0} (law : SinkContract S) (old : WithSink SplitterState S) (answer : Result T End)
    (new : WithSink SplitterState S) : Type 0 where
  pub stays : Stays old.state.reading new.state.reading
  pub rises : Rises old.state.scanning new.state.scanning
  pub limited : IsLimited new.state
  pub counts : law.failures old.sink ≤ law.failures new.sink
  pub cause : IsErrOf answer WriteFault → HasRisen (law.failures old.sink) (law.failures new.sink)
  pub memory : IsErrOf answer Memory
      → ListsFailToGrow old.state.reading old.state.scanning new.state.reading new.state.scanning
  pub late : 0 < old.state.reading.lines → IsReady new.state.reading new.state.scanning

-- these bytes were all taken: splitter and sink have advanced over them, and what is held of trees is that of the lines
-- that were handled
pub record TakesAll {S : Type 0} (law : SinkContract S) (bytes : List ℕ)
    (old new : WithSink SplitterState S) : Type 0 where
  pub advances : (p : List ℕ) → Reads old.state.reading p
      → Advances law (further p bytes) (with_sink old.state.reading old.sink) (with_sink new.state.reading new.sink)
  pub scanned : (p : List ℕ) → Reads old.state.reading p
      → Scanned old.state.reading.rules.limits (closed p) old.state.scanning
      → Scanned old.state.reading.rules.limits (closed (p ++ bytes)) new.state.scanning

-- reading stopped within these bytes, by this end, and no more was held of trees than the bytes allow
pub record TakesSome {S : Type 0} (law : SinkContract S) (bytes : List ℕ) (old : WithSink SplitterState S) (end : End)
    (new : WithSink SplitterState S) : Type 0 where
  pub stops : (p : List ℕ) → Reads old.state.reading p
      → Stops law (further p bytes) (with_sink old.state.reading old.sink) end (with_sink new.state.reading new.sink)
  pub held : (p : List ℕ) → Reads old.state.reading p
      → Scanned old.state.reading.rules.limits (closed p) old.state.scanning
      → HoldsFew old.state.reading.rules.limits (length (first_content (p ++ bytes))) new.state.scanning

-- the stream ended here, and this was answered
pub record FinishesAll {S : Type 0} (law : SinkContract S) (old : WithSink SplitterState S)
    (answer : Result (Unit {0}) End)
    (new : WithSink SplitterState S) : Type 0 where
  pub answers : (p : List ℕ) → Reads old.state.reading p
      → Finishes law p (with_sink old.state.reading old.sink) answer (with_sink new.state.reading new.sink)
  pub scanned : OnOk answer ((p : List ℕ) → Reads old.state.reading p
      → Scanned old.state.reading.rules.limits (closed p) old.state.scanning
      → Scanned old.state.reading.rules.limits (contents p) new.state.scanning)
  pub held : (p : List ℕ) → Reads old.state.reading p
      → Scanned old.state.reading.rules.limits (closed p) old.state.scanning
      → HoldsFew old.state.reading.rules.limits (length (first_content p)) new.state.scanning
