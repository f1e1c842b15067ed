use Rattle.cj_stream.proofs.TookLemmas.{counts-lines, counts-run, counts-pieces}
use Rattle.cj_stream.proofs.laws.reports_are_counted.Goals as goal

pub returns-clause-lines : goal.returns-clause-lines
returns-clause-lines c = λ rules q n t notes. counts-lines _ q n t notes

pub returns-clause-runs : goal.returns-clause-runs
returns-clause-runs c = λ r e t notes. counts-run r.rules r.bytes t e notes

pub returns-clause-pieces : goal.returns-clause-pieces
returns-clause-pieces c = λ cut e t notes. counts-pieces cut.rules cut.pieces cut.taken t e notes
