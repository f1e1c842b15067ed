use Rattle.cj_stream.proofs.QueryRowLemmas.{a_box, fields, range, empty, order}
use Rattle.cj_stream.proofs.row_laws.boxes_compute.Goals as goal

pub returns : goal.returns
returns c = record { a_box = a_box; fields = fields; range = range; empty = empty; order = order }
