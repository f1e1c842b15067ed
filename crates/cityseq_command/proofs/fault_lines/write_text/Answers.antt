use Rattle.std.proofs.Common.{arith}
use Rattle.cityseq_command.proofs.fault_lines.write_text.Goals as goal

pub returns : goal.returns
returns g c = grind arith
