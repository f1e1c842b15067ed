use Rattle.cj_spans.proofs.Common.{rules}
use Rattle.cj_spans.proofs.Texts.{char_some, lead_one}
use Rattle.cj_spans.proofs.text.decode.ascii_at.Goals as goal

pub returns-clause-reads : goal.returns-clause-reads
returns-clause-reads c = search (rules, char_some, lead_one)
