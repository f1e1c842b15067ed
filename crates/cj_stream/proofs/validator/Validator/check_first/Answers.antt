use Rattle.cj_stream.proofs.Common.{IsLeast, Some, document, findings, needs_box, refl, rules_for, subst, sym, tree_of, ◌∙◌, ◌≡◌}
use Rattle.cj_feature.specs.Meaning.Header.{header as header_findings}
use Rattle.cj_stream.proofs.VerdictLemmas.{tree-refused}
use Rattle.cj_stream.proofs.validator.Validator.check_first.Goals as goal

pub returns-in-Err-clause-verdict : goal.returns-in-Err-clause-verdict
returns-in-Err-clause-verdict c =
    let rules = rules_for c.args.self.now.limits c.args.self.now.query.now c.args.self.now.options in
    let t = tree_of c.args.self.now.limits.depth c.args.content.now in
    let shown : t ≡ document c.of-doc.result = sym (c.of-doc.ensures.only t
    (rw c.requires.lists.opened at c.in_ok-judge.ensures.tree).json) in
    let found : IsLeast (header_findings (needs_box rules.criteria) (document c.of-doc.result))
    (Some c.in-Err.finding) =
    subst (λ b. IsLeast (header_findings b (document c.of-doc.result)) (Some c.in-Err.finding)) c.wants_box.ensures
    c.in-Err.ensures.verdict in
    let least : IsLeast (findings rules 1 t t) (Some c.in-Err.finding) =
    subst (λ u. IsLeast (header_findings (needs_box rules.criteria) u) (Some c.in-Err.finding)) (sym shown) found in
    (rw c.requires.lists.opened at c.in_ok-judge.ensures.says) rules 1 t c.requires.short refl refl ∙ tree-refused rules
    1 t t c.in-Err.finding least
