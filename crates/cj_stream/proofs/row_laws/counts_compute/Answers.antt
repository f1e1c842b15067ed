use Rattle.cj_stream.proofs.TallySinkLemmas.{rise, classes, lods}
use Rattle.cj_stream.proofs.row_laws.counts_compute.Goals as goal

pub returns : goal.returns
returns c = record { rise = rise; classes = classes; lods = lods }
