use Rattle.cityseq_command.proofs.WroteLemmas.{Wrote-then, Wrote-last, Wrote-stops}
use Rattle.cityseq_command.proofs.summary.write_summary.Goals as goal

pub returns-in_err-write_count-clause-fault : goal.returns-in_err-write_count-clause-fault
returns-in_err-write_count-clause-fault g c =
    (Wrote-stops _ c.from_residual.ensures.0 c.in_err-write_count.ensures).front

pub returns-in_err-write_tally-clause-fault : goal.returns-in_err-write_tally-clause-fault
returns-in_err-write_tally-clause-fault g c =
    (Wrote-then c.in_ok-write_count.ensures
    (Wrote-stops _ c.from_residual-in_err-write_tally.ensures.0 c.in_err-write_tally.ensures)).front

pub returns : goal.returns
returns g c =
    let w = Wrote-then c.in_ok-write_count.ensures
    (Wrote-then c.in_ok-write_tally.ensures (Wrote-last c.write_peaks.ensures)) in
    record { ok = w.whole; fault = w.front; failures = w.failures }
