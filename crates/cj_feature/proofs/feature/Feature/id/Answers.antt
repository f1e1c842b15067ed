use Rattle.cj_feature.proofs.Common.{None, chars, codes, document, id_in, is_text, member_of, of_kind, refl, sym, templates_of, tree}
use Rattle.cj_feature.specs.View.{feature_tree}
use Rattle.cj_feature.proofs.Valid.{has-name, has-id}
use Rattle.cj_feature.proofs.Rules.{is-there}
use Rattle.cj_feature.proofs.feature.Feature.id.Goals as goal

pub unreachable-requires : goal.unreachable-requires
unreachable-requires c =
    let f = c.args.self.now in
    let t = document f.doc in
    is-there (of_kind is_text (id_in (member_of (chars (codes "CityObjects")) t))) t (chars (codes "id"))
    (has-id (templates_of (document f.header)) t f.valid) None (rw c.root.ensures.tree at c.in-None.ensures.value)
    refl

pub returns-clause-named : goal.returns-clause-named
unfolding feature_tree
returns-clause-named c =
    let f = c.args.self.now in
    has-name (templates_of (document f.header)) (document f.doc) f.valid (tree c.in-Some.id)
    (sym (rw c.root.ensures.tree at c.in-Some.ensures.value))
