use Rattle.cj_feature.proofs.Common.{always_returns_same, ap, compare_sides, rules, side_in, side_of, sym, text_of, text_side, tree, ◌∙◌, ◌≡◌}
use Rattle.cj_feature.proofs.Questions.{not-found}
use Rattle.cj_feature.proofs.feature.search.unmarked.has.Goals as goal

pub returns : goal.returns
returns c = λ none.
    let objects = c.args.objects in
    let t = c.of-text.result in
    let side : text_side t ≡ side_of (text_of (tree c.args.text)) = ap (λ n. (n, text_of (tree t.node))) t.hashed
    ∙ ap (λ u. side_of (text_of u)) c.of-text.ensures in
    let found =
    c.binary_search_by.ensures.position (λ n. compare_sides (side_in objects n) (text_side t))
    (always_returns_same _ _ _ (λ a r g h. search rules)) in
    not-found objects c.args.names.now (tree c.args.text) (text_side t) c.binary_search_by.result c.requires side
    (sym c.is_ok.ensures.value ∙ none) found
