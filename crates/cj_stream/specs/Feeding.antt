-- What a piece of a stream, and its end, do to a state of that stream and to a sink.
use Rattle.std.specs.Prelude.{◌≡◌, ◌≢◌, ℕ, ◌≤◌, List, ◌++◌, None, Some, Result, OnOk, IfErr, IsErrOf}
use Rattle.cj_stream.specs.declared.ending.End.{End}
use Rattle.cj_stream.specs.declared.ending.End.TheVariants.{Complete, WriteFault, Memory}
use Rattle.cj_stream.specs.Bound.{IsBelow, IsExact, exact_peaks, first_lines}
use Rattle.cj_stream.specs.Engine.{EngineState, StandsFor, EngineFailsToGrow, given, rules_of, limits_of, lines_of}
use Rattle.cj_stream.specs.Engine.{peaks_of, Delivers, Going, IsEndAfter, Concludes}
use Rattle.cj_stream.specs.Reading.{LacksMemory}
use Rattle.cj_stream.specs.Sink.{SinkContract, WithSink, HasRisen}
use Rattle.cj_stream.specs.Verdict.{stretch}

-- These bytes were given, and this was answered. An error is the end of the stream, and a write fault has its cause in
-- the sink. What it stands for and may hold goes on, no line is taken back, and no less was held at most than the lines
-- that were handled need. The answer is of all bytes so far: that nothing was refused that could be judged, or
-- what was, or where memory lacks, because of a growth that failed, and what the sink has taken by that.
pub record Feeds {S : Type 0} (law : SinkContract S) (bytes : List ℕ) (old : WithSink EngineState S)
    (answer : Result (Unit {0}) End) (new : WithSink EngineState S) : Type 0 where
  pub unended : OnOk answer (new.state.ended ≡ None)
  pub ended : IfErr answer (λ e. new.state.ended ≡ Some e)
  pub counts : law.failures old.sink ≤ law.failures new.sink
  pub cause : old.state.ended ≡ None → IsErrOf answer WriteFault
      → HasRisen (law.failures old.sink) (law.failures new.sink)
  pub rules : rules_of new.state ≡ rules_of old.state
  pub stands : (p : List ℕ) → StandsFor old.state p → StandsFor new.state (given old.state p bytes)
  pub onward : (p : List ℕ) → StandsFor old.state p → lines_of old.state ≤ lines_of new.state
  pub rises : IsBelow (peaks_of old.state) (peaks_of new.state)
  pub least : (p : List ℕ) → StandsFor old.state p → old.state.ended ≡ None
      → IsBelow (exact_peaks (limits_of old.state) (first_lines (lines_of new.state) (p ++ bytes))) (peaks_of new.state)
  pub going : OnOk answer ((p : List ℕ) → StandsFor old.state p → Going new.state (p ++ bytes))
  pub said : IfErr answer (λ e. (p : List ℕ) → StandsFor old.state p → old.state.ended ≡ None
      → IsEndAfter (rules_of old.state) (p ++ bytes) (lines_of new.state) e)
  pub memory : (p : List ℕ) → StandsFor old.state p → old.state.ended ≡ None → IsErrOf answer Memory
      → LacksMemory (rules_of old.state) (p ++ bytes) (lines_of new.state) × (new.sink ≡ old.sink)
  pub growth : old.state.ended ≡ None → IsErrOf answer Memory → EngineFailsToGrow old.state new.state
  pub sink : (p : List ℕ) → StandsFor old.state p → old.state.ended ≡ None
      → Delivers law (stretch (rules_of old.state) (p ++ bytes) (lines_of old.state) (lines_of new.state))
      old.sink new.sink new.state.ended

-- The stream ended here, and this was answered, which is never want of memory. A write fault has its cause in the sink.
-- What it stands for and may hold goes on, no line is taken back, and no less was held at most than the lines that were
-- handled need. The answer is the ending of all bytes, after all good lines, with what was held at most where it is
-- complete, and what the sink has taken by that.
pub record IsFinished {S : Type 0} (law : SinkContract S) (old : WithSink EngineState S) (answer : End)
    (new : WithSink EngineState S) : Type 0 where
  pub ended : new.state.ended ≡ Some answer
  pub counts : law.failures old.sink ≤ law.failures new.sink
  pub cause : old.state.ended ≡ None → answer ≡ WriteFault → HasRisen (law.failures old.sink) (law.failures new.sink)
  pub rules : rules_of new.state ≡ rules_of old.state
  pub stands : (p : List ℕ) → StandsFor old.state p → StandsFor new.state p
  pub onward : (p : List ℕ) → StandsFor old.state p → lines_of old.state ≤ lines_of new.state
  pub rises : IsBelow (peaks_of old.state) (peaks_of new.state)
  pub least : (p : List ℕ) → StandsFor old.state p → old.state.ended ≡ None
      → IsBelow (exact_peaks (limits_of old.state) (first_lines (lines_of new.state) p)) (peaks_of new.state)
  pub concludes : (p : List ℕ) → StandsFor old.state p → old.state.ended ≡ None
      → Concludes (rules_of old.state) p (lines_of new.state) answer
  pub exact : (p : List ℕ) → StandsFor old.state p → old.state.ended ≡ None → answer ≡ Complete
      → IsExact (limits_of old.state) p (peaks_of new.state)
  pub memory : old.state.ended ≡ None → answer ≢ Memory
  pub sink : (p : List ℕ) → StandsFor old.state p → old.state.ended ≡ None
      → Delivers law (stretch (rules_of old.state) p (lines_of old.state) (lines_of new.state))
      old.sink new.sink new.state.ended
