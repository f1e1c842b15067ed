use Rattle.cj_stream.proofs.Common.{IsLeast, Some, arith, document, false, findings, header_tree, is_blank_byte, list_all, nat_tests, refl, rules_for, sym, tree_of, true, ◌∙◌, ◌≡◌}
use Rattle.std.proofs.Common.{eqb, ltb}
use Rattle.cj_stream.proofs.VerdictLemmas.{blank-tree, tree-refused, verdict-blank}
use Rattle.cj_stream.proofs.ScanningLemmas.{scans-none}
use Rattle.cj_stream.proofs.validator.Validator.judge_and_put.Goals as goal

pub returns-then-is_blank-clause-hands : goal.returns-then-is_blank-clause-hands
returns-then-is_blank-clause-hands g c = λ number later.
    let rules = rules_for c.args.self.now.limits c.args.self.now.query.now c.args.self.now.options in
    let after_first : ltb 1 number ≡ true = grind (arith, nat_tests) in
    let blank : list_all is_blank_byte c.args.content.now ≡ true = sym c.is_blank.ensures ∙ c.if-is_blank.true in
    (verdict-blank rules number _ c.args.content.now c.requires.short (rw (after_first, blank) refl), refl)

pub returns-then-is_blank-clause-scans : goal.returns-then-is_blank-clause-scans
returns-then-is_blank-clause-scans g c =
    let limits = c.args.self.now.limits in
    scans-none _ _ _ _ refl
    (blank-tree _ _ (sym c.is_blank.ensures ∙ c.if-is_blank.true))

pub returns-in-Err-check_feature-clause-hands : goal.returns-in-Err-check_feature-clause-hands
returns-in-Err-check_feature-clause-hands g c = λ number later.
    let rules = rules_for c.args.self.now.limits c.args.self.now.query.now c.args.self.now.options in
    let t = tree_of c.args.self.now.limits.depth c.args.content.now in
    let h = tree_of c.args.self.now.limits.depth c.args.first.now in
    let after_first : ltb 1 number ≡ true = grind (arith, nat_tests) in
    let feature : eqb number 1 ≡ false = grind (arith, nat_tests) in
    let solid : list_all is_blank_byte c.args.content.now ≡ false = sym c.is_blank.ensures ∙ c.if-is_blank.false in
    let says = c.in_default.ensures.says rules number h c.requires.short refl (rw (after_first, solid) refl) in
    let shown : document c.of-doc.result ≡ t = c.of-doc.ensures.only t c.in_default.ensures.shows.json in
    let header : header_tree c.header-header.result ≡ h =
    rw c.scan_later.ensures.rest at c.header-header.ensures.tree in
    let asked = rw c.scan_later.ensures.rest at c.asks_for_trees.ensures in
    let known = rw c.scan_later.ensures.rest at c.knows_extensions.ensures in
    let found = rw (asked, known) at c.in-Err-check_feature.ensures.verdict in
    let least : IsLeast (findings rules number h t) (Some c.in-Err-check_feature.finding) =
    rw (feature, ← header, ← shown) found in
    (says ∙ tree-refused rules number h t c.in-Err-check_feature.finding least, refl)
