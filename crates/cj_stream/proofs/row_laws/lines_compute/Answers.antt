use Rattle.cj_stream.proofs.RowLemmas.{tab, header}
use Rattle.cj_stream.proofs.row_laws.lines_compute.Goals as goal

pub returns : goal.returns
returns c = record { tab = tab; header = header }
