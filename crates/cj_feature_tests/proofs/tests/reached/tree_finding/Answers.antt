use Rattle.std.proofs.Common.{sym, subst, ◌∙◌}
use Rattle.cj_spans.specs.View.{document, document_source, tokens_in}
use Rattle.cj_feature.specs.ReachedMarks.{AreMarks}
use Rattle.cj_feature_tests.proofs.tests.reached.tree_finding.Goals as goal

pub check_feature-requires : goal.check_feature-requires
check_feature-requires c = λ k asked.
    let d = k.of-in-Ok.result in
    let marks = k.mark_reached.ensures.marks (document d) k.of-in-Ok.ensures.json in
    let tokens = k.of-in-Ok.ensures.tokens ∙ k.as_slice-in-Ok.ensures.value in
    subst (λ l. AreMarks (document d) l (tokens_in (document_source d))) (sym k.of-in-Ok.ensures.line)
    (subst (AreMarks (document d) k.args.line.now) (sym tokens) marks)
