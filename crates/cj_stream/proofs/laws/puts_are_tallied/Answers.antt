use Rattle.cj_stream.proofs.TallySinkLemmas.{TalliesRun-puts, TalliesPieces-puts}
use Rattle.cj_stream.proofs.laws.puts_are_tallied.Goals as goal

pub returns-clause-runs : goal.returns-clause-runs
returns-clause-runs c = λ r e start t new puts. TalliesRun-puts r.rules r.bytes start t e new puts

pub returns-clause-pieces : goal.returns-clause-pieces
returns-clause-pieces c = λ cut e start t new puts. TalliesPieces-puts cut.rules cut.pieces cut.taken start t e new puts
