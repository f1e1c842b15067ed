use Rattle.cityseq_command.proofs.WroteLemmas.{Wrote-then, Wrote-last, Wrote-stops}
use Rattle.cityseq_command.proofs.summary.write_peaks.Goals as goal

pub returns-in_err-write_count : goal.returns-in_err-write_count
returns-in_err-write_count g c =
    Wrote-stops _ c.from_residual.ensures.0 c.in_err-write_count.ensures

pub returns-in_err-write_count-2 : goal.returns-in_err-write_count-2
returns-in_err-write_count-2 g c =
    Wrote-then c.in_ok-write_count.ensures
    (Wrote-stops _ c.from_residual-in_err-write_count-2.ensures.0 c.in_err-write_count-2.ensures)

pub returns : goal.returns
returns g c =
    Wrote-then c.in_ok-write_count.ensures
    (Wrote-then c.in_ok-write_count-2.ensures
    (Wrote-last c.write_count-3.ensures))
