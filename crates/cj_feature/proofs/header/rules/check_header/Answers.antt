use Rattle.cj_feature.proofs.Common.{Some, document, header, ◌∙◌}
use Rattle.cj_feature.proofs.Rules.{only-findings}
use Rattle.cj_feature.proofs.header.rules.check_header.Goals as goal

pub returns-in-Some-clause-verdict : goal.returns-in-Some-clause-verdict
returns-in-Some-clause-verdict c =
    let d = document c.args.doc in
    let checked = rw c.root-root.ensures.tree at c.check_root.ensures in
    only-findings (header c.args.with_box d) c.new-found.result (Some c.in-Some.finding) c.new-found.ensures
    (c.in-Some.ensures.held ∙ checked)
