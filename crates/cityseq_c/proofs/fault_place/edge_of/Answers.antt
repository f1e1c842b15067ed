use Rattle.std.proofs.Common.{sym, ◌∙◌}
use Rattle.cityseq_c.proofs.RoomLemmas.{edge-read, none-read}
use Rattle.cityseq_c.proofs.fault_place.edge_of.Goals as goal

pub returns-in-Ok : goal.returns-in-Ok
returns-in-Ok c = edge-read c.args.field.now c.in-Ok.edge (sym c.in-Ok.is ∙ c.read_edge.ensures)

pub returns-in-Err : goal.returns-in-Err
returns-in-Err c = none-read c.args.field.now c.in-Err.field-0 (sym c.in-Err.is ∙ c.read_edge.ensures)
