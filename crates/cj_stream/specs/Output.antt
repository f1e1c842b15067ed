-- What contracts see of a writer and of what its calls have answered.
use Rattle.std.specs.Prelude.{ℕ, List, Option, Result}
use Rattle.std.specs.Io.KnownBytes.{Appends}
use Rattle.cj_stream.specs.declared.output.Output.{Output}
use Rattle.cj_stream.specs.declared.output.WriteFault.{WriteFault}
use Rattle.cj_stream.specs.Items.{raw_item}
use Rattle.cj_stream.specs.Meaning.Outputs.{Outputs}
use Rattle.cj_stream.specs.Sink.{SinkContract, AppendsPart}

-- the writer
abbrev pub output_writer : {W : Type 0} → Output W → W
output_writer o = o.writer

-- how often a write to it has failed
abbrev pub output_failures : {W : Type 0} → Output W → ℕ
output_failures o = o.failures

-- what its last flush answered, if nothing was written since
abbrev pub flush_answer : {W : Type 0} → Output W → Option (Result (Unit {0}) WriteFault)
flush_answer o = o.noted

-- what is known of a writer: the bytes that it got, if its contract shows them, how often a write failed, and what the
-- last flush answered, if nothing was written since
pub record Channel : Type 0 where
  pub bytes : Option (List ℕ)
  pub failures : ℕ
  pub flushed : Option (Result (Unit {0}) WriteFault)

-- a writer beside a sink of reports
abbrev pub outputs : {N : Type 0} → Channel → N → Outputs N
outputs c reports = record { bytes = c.bytes; failures = c.failures; reports = reports }

-- what is known of an output: what its writer tells, and what its calls have answered
abbrev pub channel : {W : Type 0} → (W → Option (List ℕ)) → Output W → Channel
channel contents o = record {
  bytes = contents (output_writer o);
  failures = output_failures o;
  flushed = flush_answer o;
}

-- the law of a sink that writes: the bytes that it holds grow by those of an item, and a fault leaves a prefix of these
abbrev pub writes_law : {S : Type 0} → (S → Option (List ℕ)) → (S → ℕ) → SinkContract S
writes_law contents failures = record {
  takes = λ a i b. Appends (contents a) (contents b) (raw_item i);
  leaves = λ a i b. AppendsPart (contents a) (contents b) (raw_item i);
  failures = failures;
}

-- that of an output, which writes to its writer
abbrev pub output_law : {W : Type 0} → (W → Option (List ℕ)) → SinkContract (Output W)
output_law contents = writes_law (λ o. contents (output_writer o)) output_failures
