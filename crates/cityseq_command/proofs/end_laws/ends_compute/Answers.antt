use Rattle.cityseq_command.proofs.Common.{digits, arith}
use Rattle.cityseq_command.proofs.end_laws.ends_compute.Goals as goal

pub returns : goal.returns
unfolding digits
returns c = grind arith
