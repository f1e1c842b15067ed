use Rattle.std.proofs.Common.{arith}
use Rattle.cityseq_c.proofs.QueryLemmas.{items-some, names-declined}
use Rattle.cityseq_c.proofs.query.add_types.Goals as goal

pub returns-in-Err-clause-declined : goal.returns-in-Err-clause-declined
returns-in-Err-clause-declined c =
    grind (arith, items-some, names-declined)
