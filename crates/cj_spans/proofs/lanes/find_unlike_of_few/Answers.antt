use Rattle.cj_spans.proofs.Common.{rules}
use Rattle.cj_spans.proofs.Vectors.{all_alike, few_alike, front_alike}
use Rattle.cj_spans.proofs.lanes.find_unlike_of_few.Goals as goal

pub returns-then-unlike-eq0-clause-none : goal.returns-then-unlike-eq0-clause-none
returns-then-unlike-eq0-clause-none c = search (rules, all_alike)

pub returns-else-unlike-eq0-clause-found : goal.returns-else-unlike-eq0-clause-found
returns-else-unlike-eq0-clause-found c = search (rules, few_alike, front_alike)
