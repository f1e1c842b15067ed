use Rattle.cj_stream.proofs.ChoiceRowLemmas.{nothing, header, long, edge, exact}
use Rattle.cj_stream.proofs.row_laws.bounds_compute.Goals as goal

pub returns : goal.returns
returns c = record { nothing = nothing; header = header; long = long; edge = edge; exact = exact }
