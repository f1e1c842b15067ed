-- What contracts see of a reader that is read until a read fails.
use Rattle.std.specs.Prelude.{ℕ, Bool}
use Rattle.cj_stream.specs.declared.running.source.Source.{Source}

-- the reader that is lent to it
abbrev pub source_reader : {R : Type 0} → Source R → R
source_reader s = s.reader.now

-- which loan of that reader it holds
abbrev pub source_name : {R : Type 0} → Source R → ℕ
source_name s = s.reader.ghost_name

-- how often it was read
abbrev pub reads_of : {R : Type 0} → Source R → ℕ
reads_of s = s.reads

-- whether a read has failed
abbrev pub has_failed : {R : Type 0} → Source R → Bool
has_failed s = s.failed
