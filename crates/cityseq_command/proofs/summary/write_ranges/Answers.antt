use Rattle.cityseq_command.proofs.WroteLemmas.{Wrote-then, Wrote-last, Wrote-stops}
use Rattle.cityseq_command.proofs.summary.write_ranges.Goals as goal

pub returns-in_err-write_range : goal.returns-in_err-write_range
returns-in_err-write_range g c =
    Wrote-stops _ c.from_residual.ensures.0 (rw c.range.ensures at c.in_err-write_range.ensures)

pub returns-in_err-write_range-2 : goal.returns-in_err-write_range-2
returns-in_err-write_range-2 g c =
    Wrote-then (rw c.range.ensures at c.in_ok-write_range.ensures)
    (Wrote-stops _ c.from_residual-in_err-write_range-2.ensures.0
    (rw c.range-2.ensures at c.in_err-write_range-2.ensures))

pub returns : goal.returns
returns g c =
    Wrote-then (rw c.range.ensures at c.in_ok-write_range.ensures)
    (Wrote-then (rw c.range-2.ensures at c.in_ok-write_range-2.ensures)
    (Wrote-last (rw c.range-3.ensures at c.write_range-3.ensures)))
