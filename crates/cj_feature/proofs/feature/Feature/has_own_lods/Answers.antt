use Rattle.cj_feature.proofs.Common.{IsTrue, ap, arith, document, nat_eq, nat_tests, sym, template_count, ℕ, ◌∙◌, ◌≡◌}
use Rattle.cj_feature.specs.View.{feature_tree, feature_header}
use Rattle.cj_feature.proofs.Valid.{valid-lods}
use Rattle.cj_feature.proofs.feature.Feature.has_own_lods.Goals as goal

none : (n : ℕ) → IsTrue (nat_eq n 0) → n ≡ 0
none n h = grind (arith, nat_tests)

pub returns : goal.returns
unfolding feature_tree feature_header
returns c = λ holds.
    let f = c.args.self.now in
    valid-lods (document f.header) (document f.doc) f.valid
    (ap template_count (sym f.has_templates) ∙ none _ (rw c.is_empty.ensures at holds))
