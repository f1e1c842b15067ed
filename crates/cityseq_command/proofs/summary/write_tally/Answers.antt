use Rattle.cityseq_command.proofs.WroteLemmas.{Wrote-then, Wrote-last, Wrote-stops}
use Rattle.cityseq_command.proofs.summary.write_tally.Goals as goal

pub returns-in_err-write_count : goal.returns-in_err-write_count
returns-in_err-write_count g c =
    Wrote-stops _ c.from_residual.ensures.0 (rw c.features.ensures at c.in_err-write_count.ensures)

pub returns-in_err-write_numbers : goal.returns-in_err-write_numbers
returns-in_err-write_numbers g c =
    Wrote-then (rw c.features.ensures at c.in_ok-write_count.ensures)
    (Wrote-stops _ c.from_residual-in_err-write_numbers.ensures.0
    (rw c.scale.ensures at c.in_err-write_numbers.ensures))

pub returns-in_err-write_numbers-2 : goal.returns-in_err-write_numbers-2
returns-in_err-write_numbers-2 g c =
    Wrote-then (rw c.features.ensures at c.in_ok-write_count.ensures)
    (Wrote-then (rw c.scale.ensures at c.in_ok-write_numbers.ensures)
    (Wrote-stops _ c.from_residual-in_err-write_numbers-2.ensures.0
    (rw c.translate.ensures at c.in_err-write_numbers-2.ensures)))

pub returns-in_err-write_types : goal.returns-in_err-write_types
returns-in_err-write_types g c =
    Wrote-then (rw c.features.ensures at c.in_ok-write_count.ensures)
    (Wrote-then (rw c.scale.ensures at c.in_ok-write_numbers.ensures)
    (Wrote-then (rw c.translate.ensures at c.in_ok-write_numbers-2.ensures)
    (Wrote-stops _ c.from_residual-in_err-write_types.ensures.0 c.in_err-write_types.ensures)))

pub returns-in_err-write_extensions : goal.returns-in_err-write_extensions
returns-in_err-write_extensions g c =
    Wrote-then (rw c.features.ensures at c.in_ok-write_count.ensures)
    (Wrote-then (rw c.scale.ensures at c.in_ok-write_numbers.ensures)
    (Wrote-then (rw c.translate.ensures at c.in_ok-write_numbers-2.ensures)
    (Wrote-then c.in_ok-write_types.ensures
    (Wrote-stops _ c.from_residual-in_err-write_extensions.ensures.0 c.in_err-write_extensions.ensures))))

pub returns-in_err-write_lods : goal.returns-in_err-write_lods
returns-in_err-write_lods g c =
    Wrote-then (rw c.features.ensures at c.in_ok-write_count.ensures)
    (Wrote-then (rw c.scale.ensures at c.in_ok-write_numbers.ensures)
    (Wrote-then (rw c.translate.ensures at c.in_ok-write_numbers-2.ensures)
    (Wrote-then c.in_ok-write_types.ensures
    (Wrote-then c.in_ok-write_extensions.ensures
    (Wrote-stops _ c.from_residual-in_err-write_lods.ensures.0 c.in_err-write_lods.ensures)))))

pub returns : goal.returns
returns g c =
    Wrote-then (rw c.features.ensures at c.in_ok-write_count.ensures)
    (Wrote-then (rw c.scale.ensures at c.in_ok-write_numbers.ensures)
    (Wrote-then (rw c.translate.ensures at c.in_ok-write_numbers-2.ensures)
    (Wrote-then c.in_ok-write_types.ensures
    (Wrote-then c.in_ok-write_extensions.ensures
    (Wrote-then c.in_ok-write_lods.ensures
    (Wrote-last c.write_ranges.ensures))))))
