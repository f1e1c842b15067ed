use Rattle.cj_stream.proofs.GoodLemmas.{good-are, good-only, ends-after}
use Rattle.cj_stream.proofs.laws.good_lines_are_the_longest.Goals as goal

pub returns-clause-are : goal.returns-clause-are
returns-clause-are c = λ rules. good-are _ _

pub returns-clause-only : goal.returns-clause-only
returns-clause-only c = λ rules ls h. good-only _ _ _ h

pub returns-clause-ending : goal.returns-clause-ending
returns-clause-ending c = λ rules rest h. ends-after rules c.args.stream.now rest h
