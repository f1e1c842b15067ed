use Rattle.cityseq_c.proofs.AnswerLemmas.{fault}
use Rattle.cityseq_c.proofs.row_laws.fault_rows_compute.Goals as goal

pub returns : goal.returns
returns c = fault
