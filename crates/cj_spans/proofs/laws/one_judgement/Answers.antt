use Rattle.cj_spans.proofs.Judgements.{judgement}
use Rattle.cj_spans.proofs.laws.one_judgement.Goals as goal

pub returns-clause-judged : goal.returns-clause-judged
returns-clause-judged c = judgement
