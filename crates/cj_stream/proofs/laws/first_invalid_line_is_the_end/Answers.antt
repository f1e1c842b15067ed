use Rattle.cj_stream.proofs.GoodLemmas.{never-reported, usual-exact}
use Rattle.cj_stream.proofs.NoteLemmas.{first-silent}
use Rattle.cj_stream.proofs.laws.first_invalid_line_is_the_end.Goals as goal

pub returns-clause-unreported : goal.returns-clause-unreported
returns-clause-unreported c = λ rules r off. never-reported _ r off

pub returns-clause-peaks : goal.returns-clause-peaks
returns-clause-peaks c = λ rules r peaks off done exact. usual-exact _ r _ off done exact

pub returns-clause-unreported_first : goal.returns-clause-unreported_first
returns-clause-unreported_first c =
    λ rules r n off good_first. first-silent _ n r (never-reported _ r off) good_first
