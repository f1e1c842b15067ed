use Rattle.std.proofs.Common.{arith}
use Rattle.cityseq_command.proofs.WroteLemmas.{check-refused}
use Rattle.cityseq_command.proofs.summary.write_invalid.Goals as goal

pub returns : goal.returns
returns g c =
    grind (arith, check-refused)
