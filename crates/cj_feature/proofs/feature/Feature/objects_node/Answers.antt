use Rattle.cj_feature.proofs.Common.{ap, document_line, document_source, line_of, source_of, ◌∙◌}
use Rattle.cj_feature.proofs.feature.Feature.objects_node.Goals as goal

pub returns-clause-line : goal.returns-clause-line
unfolding line_of source_of document_line document_source
returns-clause-line c = ap (λ s. s.line.now) (c.at.ensures.source ∙ c.root.ensures.source)
