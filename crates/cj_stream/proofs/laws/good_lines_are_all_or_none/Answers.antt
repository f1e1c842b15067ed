use Rattle.cj_stream.proofs.GoodLemmas.{all-good, none-good}
use Rattle.cj_stream.proofs.laws.good_lines_are_all_or_none.Goals as goal

pub returns-clause-all : goal.returns-clause-all
returns-clause-all c = λ rules r on first. all-good _ r on first

pub returns-clause-none : goal.returns-clause-none
returns-clause-none c = λ rules r e refused. none-good _ r e refused
