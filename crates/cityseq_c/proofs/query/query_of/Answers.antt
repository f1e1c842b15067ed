use Rattle.cityseq_c.proofs.Common.{err_from_is_err_and, arith}
use Rattle.cityseq_c.proofs.QueryLemmas.{edges-declined, ids-declined, lods-declined, types-declined}
use Rattle.cityseq_c.proofs.query.query_of.Goals as goal

pub returns-in_err-set_ids-clause-declined : goal.returns-in_err-set_ids-clause-declined
returns-in_err-set_ids-clause-declined c =
    grind (arith, err_from_is_err_and, ids-declined)

pub returns-in_err-set_types-clause-declined : goal.returns-in_err-set_types-clause-declined
returns-in_err-set_types-clause-declined c =
    grind (arith, err_from_is_err_and, types-declined)

pub returns-in_err-set_lods-clause-declined : goal.returns-in_err-set_lods-clause-declined
returns-in_err-set_lods-clause-declined c =
    grind (arith, err_from_is_err_and, lods-declined)

pub returns-in_err-set_box-clause-declined : goal.returns-in_err-set_box-clause-declined
returns-in_err-set_box-clause-declined c =
    grind (arith, err_from_is_err_and, edges-declined)
