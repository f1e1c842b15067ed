use Rattle.cj_spans.proofs.Common.{arith, rules}
use Rattle.cj_spans.proofs.Vectors.{all_alike, few_alike, front_alike}
use Rattle.cj_spans.proofs.lanes.find_unlike.Goals as goal

pub returns-then-unlike-eq0-clause-none : goal.returns-then-unlike-eq0-clause-none
returns-then-unlike-eq0-clause-none c = search (rules, all_alike)

pub returns-else-unlike-eq0-clause-found : goal.returns-else-unlike-eq0-clause-found
returns-else-unlike-eq0-clause-found c =
    let bytes = c.args.bytes.now in
    let others = c.args.others.now in (
      few_alike 16 bytes _ others _ (omega arith) c.requires.first c.requires.second
          c.if-unlike-eq0.false,
      front_alike 16 bytes _ others _
          (omega arith) c.requires.first c.requires.second c.if-unlike-eq0.false,
    )
