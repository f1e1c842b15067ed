use Rattle.cj_feature.proofs.Common.{IsLeast, [], document, feature, header_tree, subst, sym, templates_of, ◌≡◌}
use Rattle.cj_feature.proofs.Valid.{valid-without}
use Rattle.cj_feature.proofs.Rules.{only-findings}
use Rattle.cj_feature.proofs.feature.rules.check_feature.Goals as goal

pub returns-in-Some-clause-verdict : goal.returns-in-Some-clause-verdict
returns-in-Some-clause-verdict c =
    let findings = feature (header_tree c.args.header.now) (document c.args.doc) c.args.tree c.args.extensions in
    let found = c.check_root.new.found in
    let checked =
    rw (c.root-root.ensures.tree, c.templates-templates.ensures.given) at c.check_root.ensures in
    subst (IsLeast findings) (sym c.in-Some.ensures.held)
    (only-findings findings c.new-found.result found c.new-found.ensures checked)

pub of-requires-clause-valid : goal.of-requires-clause-valid
of-requires-clause-valid c =
    let findings = feature (header_tree c.args.header.now) (document c.args.doc) c.args.tree c.args.extensions in
    let found = c.check_root.new.found in
    let checked =
    rw (c.root-root.ensures.tree, c.templates-templates.ensures.given) at c.check_root.ensures in
    let none : findings ≡ [] =
    subst (IsLeast findings) (sym c.in-None.ensures.held)
    (only-findings findings c.new-found.result found c.new-found.ensures checked) in
    rw c.doc.ensures.tree
    (valid-without (templates_of (header_tree c.args.header.now)) (document c.args.doc) c.args.tree c.args.extensions
    none)
