use Rattle.std.proofs.Common.{refl}
use Rattle.cityseq_command.proofs.decline.write_declined_limit.Goals as goal

pub returns : goal.returns
returns g c = record { written = c.write_limit_fault.result; wrote = c.write_limit_fault.ensures; status = refl }
