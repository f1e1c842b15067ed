use Rattle.cityseq_c.proofs.Common.{IfErr-weaker, arith}
use Rattle.cityseq_c.proofs.QueryLemmas.{part-declined, types-set}
use Rattle.cityseq_c.proofs.query.set_types.Goals as goal

pub returns-in-Some-clause-ok : goal.returns-in-Some-clause-ok
returns-in-Some-clause-ok c =
    grind (arith, types-set)

pub returns-in-Some-clause-declined : goal.returns-in-Some-clause-declined
returns-in-Some-clause-declined c =
    grind (arith, IfErr-weaker, part-declined)
