-- What is shown of ends, by what the flush after them answered, and the line and the status of each.
use Rattle.std.specs.Prelude.{◌≡◌, ℕ, List, [], Ok, Err, codes}
use Rattle.cj_spans.specs.declared.reason.Reason.TheVariants.{NoHeader, VertexIndex}
use Rattle.cj_stream.specs.declared.ending.End.{End}
use Rattle.cj_stream.specs.declared.ending.End.TheVariants.{Complete, Refused, ReadFault, ReadLimit, WriteFault, Memory}
use Rattle.cj_stream.specs.declared.output.WriteFault.{WriteFault as Unwritten}
use Rattle.cityseq_command.specs.FaultLines.{fault_line, shown_end, status_of, status_after}

-- whatever the end, a write fault is shown where the flush after it failed
abbrev pub FailedRow : Type 0
FailedRow = (e : End) (f : Unwritten) → shown_end (Err f) e ≡ WriteFault

-- and the end itself where it did not
abbrev pub GoodRow : Type 0
GoodRow = (e : End) → shown_end (Ok tt) e ≡ e

-- this stands on standard error of an end, and this is the status
abbrev pub Shows : End → List ℕ → ℕ → Type 0
Shows e line status = (fault_line e ≡ line) × (status_of e ≡ status)

-- after lines that were refused, a complete run is no success; any other end has its own status; and so has each, where
-- none was refused
abbrev pub RefusedRows : Type 0
RefusedRows =
    (status_after 1 Complete ≡ 1)
    × (status_after 5000 Complete ≡ 1)
    × (status_after 1 (Refused 1 0 NoHeader) ≡ 1)
    × (status_after 2 ReadFault ≡ 3)
    × (status_after 2 ReadLimit ≡ 3)
    × (status_after 2 WriteFault ≡ 4)
    × (status_after 2 Memory ≡ 5)
    × ((e : End) → status_after 0 e ≡ status_of e)

-- the line and the status of each end
abbrev pub LineRows : Type 0
LineRows =
    Shows Complete [] 0
    × Shows (Refused 1 0 NoHeader) (codes "line 1, byte 0: 1 no header line\n") 1
    × Shows (Refused 3 144 VertexIndex) (codes "line 3, byte 144: 25 vertex index out of range\n") 1
    × Shows ReadFault (codes "read fault\n") 3
    × Shows ReadLimit (codes "read limit\n") 3
    × Shows WriteFault (codes "write fault\n") 4
    × Shows Memory (codes "out of memory\n") 5
