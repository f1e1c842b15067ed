use Rattle.cj_spans.proofs.Common.{rules}
use Rattle.cj_spans.proofs.Strings.{past_ascii}
use Rattle.cj_spans.proofs.utf8.pass_ascii.Goals as goal

pub returns-clause-utf8 : goal.returns-clause-utf8
returns-clause-utf8 c = search (rules, past_ascii)
