use Rattle.cj_stream.proofs.TookLemmas.{CountsRun-puts, CountsPieces-puts}
use Rattle.cj_stream.proofs.laws.puts_are_counted.Goals as goal

pub returns-clause-runs : goal.returns-clause-runs
returns-clause-runs c = λ r e t puts. CountsRun-puts r.rules r.bytes t e puts

pub returns-clause-pieces : goal.returns-clause-pieces
returns-clause-pieces c = λ cut e t puts. CountsPieces-puts cut.rules cut.pieces cut.taken t e puts
