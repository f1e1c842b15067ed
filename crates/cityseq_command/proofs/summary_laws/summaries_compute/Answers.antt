use Rattle.cityseq_command.proofs.Common.{digits, object_types, refl}
use Rattle.cityseq_command.proofs.summary_laws.summaries_compute.Goals as goal

pub returns : goal.returns
unfolding object_types digits
returns c = record { buildings = refl; nothing = refl; underground = refl; check = (refl, refl) }
