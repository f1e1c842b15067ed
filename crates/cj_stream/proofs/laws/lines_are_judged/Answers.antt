use Rattle.cj_stream.proofs.JudgedLemmas.{list-are, list-only}
use Rattle.cj_stream.proofs.laws.lines_are_judged.Goals as goal

pub returns-clause-are : goal.returns-clause-are
returns-clause-are c = λ rules. list-are _ _

pub returns-clause-only : goal.returns-clause-only
returns-clause-only c = λ rules js h. list-only _ _ _ h
