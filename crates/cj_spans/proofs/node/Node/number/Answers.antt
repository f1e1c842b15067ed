use Rattle.cj_spans.proofs.Common.{rules}
use Rattle.cj_spans.proofs.SourceWalks.{number_linked}
use Rattle.cj_spans.proofs.node.Node.number.Goals as goal

pub overflow_cast-result : goal.overflow_cast-result
overflow_cast-result c = search (rules, number_linked)
