use Rattle.cj_stream.proofs.Common.{ap, kept_of, reported_of}
use Rattle.cj_stream.proofs.TookLemmas.{first-good}
use Rattle.cj_stream.proofs.laws.good_lines_are_kept.Goals as goal

pub returns-clause-kept : goal.returns-clause-kept
returns-clause-kept c = λ rules r n all. ap kept_of (first-good _ n r all)

pub returns-clause-reported : goal.returns-clause-reported
returns-clause-reported c = λ rules r n all. ap reported_of (first-good _ n r all)
