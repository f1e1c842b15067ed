use Rattle.cj_stream.proofs.HeadlineLemmas.{headline-writes, headline-gives, headline-ends, headline-exact, headline-memory}
use Rattle.cj_stream.proofs.laws.headlines_say_all.Goals as goal

pub returns-clause-writes : goal.returns-clause-writes
returns-clause-writes g c = λ fate old new h u. headline-writes _ _ _ _ h u

pub returns-clause-gives : goal.returns-clause-gives
returns-clause-gives g c = λ fate old new h u. headline-gives _ _ _ _ h u

pub returns-clause-ends : goal.returns-clause-ends
returns-clause-ends g c = λ fate old new h u. headline-ends _ _ _ _ h u

pub returns-clause-exact : goal.returns-clause-exact
returns-clause-exact g c = λ fate old new h e. headline-exact _ _ _ _ h e

pub returns-clause-memory : goal.returns-clause-memory
returns-clause-memory g c = λ fate old new h e. headline-memory _ _ _ _ h e
