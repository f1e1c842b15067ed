use Rattle.cj_stream.proofs.RowLemmas.{row_between, row_first, row_last}
use Rattle.cj_stream.proofs.row_laws.going_rows_compute.Goals as goal

pub returns : goal.returns
returns c = record { between = row_between; first = row_first; last = row_last }
