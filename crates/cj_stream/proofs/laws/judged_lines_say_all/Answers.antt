use Rattle.cj_stream.proofs.AgreeLemmas.{good-in, kept-in, output-in, reported-in, ending-in, HasPeaks-exact, IsExact-peaks}
use Rattle.cj_stream.proofs.laws.judged_lines_say_all.Goals as goal

pub returns-clause-good : goal.returns-clause-good
returns-clause-good c = λ rules r. good-in _ r

pub returns-clause-kept : goal.returns-clause-kept
returns-clause-kept c = λ rules r. kept-in _ r

pub returns-clause-output : goal.returns-clause-output
returns-clause-output c = λ rules r. output-in _ r

pub returns-clause-reported : goal.returns-clause-reported
returns-clause-reported c = λ rules r. reported-in _ r

pub returns-clause-ending : goal.returns-clause-ending
returns-clause-ending c = λ rules r. ending-in _ r

pub returns-clause-peaks : goal.returns-clause-peaks
returns-clause-peaks c = λ rules r peaks h. (HasPeaks-exact _ r _ h, IsExact-peaks _ r _ h)
