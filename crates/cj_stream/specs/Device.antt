-- What the answers of reads, writes and flushes say.
use Rattle.std.specs.Prelude.{ℕ, zero, suc, Result, Ok, Err}
use Rattle.cj_stream.specs.declared.output.WriteFault.{WriteFault}
use Rattle.cj_stream.specs.declared.running.source.ReadFault.{ReadFault}

-- how many bytes a read gave, or that it failed, whatever the error
abbrev pub given_by : {E : Type 0} → Result ℕ E → Result ℕ ReadFault
given_by (Ok n) = Ok n
given_by (Err e) = Err (record {})

-- how many bytes a write took of some, or that it failed: by an error, or by taking none
abbrev pub taken_by : {E : Type 0} → Result ℕ E → Result ℕ WriteFault
taken_by (Ok zero) = Err (record {})
taken_by (Ok (suc n)) = Ok (suc n)
taken_by (Err e) = Err (record {})

-- whether a flush failed, whatever the error
abbrev pub flushed_by : {E : Type 0} → Result (Unit {0}) E → Result (Unit {0}) WriteFault
flushed_by (Ok x) = Ok x
flushed_by (Err e) = Err (record {})
