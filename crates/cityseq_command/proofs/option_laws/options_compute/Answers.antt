use Rattle.cityseq_command.proofs.Common.{object_types, arith}
use Rattle.cityseq_command.proofs.option_laws.options_compute.Goals as goal

pub returns : goal.returns
unfolding object_types
returns c = grind arith
