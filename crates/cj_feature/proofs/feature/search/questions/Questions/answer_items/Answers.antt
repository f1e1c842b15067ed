use Rattle.cj_feature.proofs.Common.{has_item, items_left, refl, rules, same_text, tree, true, ◌≡◌}
use Rattle.cj_feature.proofs.feature.search.questions.Questions.answer_items.Goals as goal

pub answer_item-requires : goal.answer_item-requires
answer_item-requires g c = (
  search rules,
  (
    c.loop-item.invariant.answered,
    λ from to f t.
        let is : same_text (tree c.in-Some-item.item) to ≡ true = rw c.hashed.ensures at t in
        let has : has_item (items_left c.loop-item.item-iterator) to ≡ true =
        rw (c.in-Some-item.ensures.steps.0, is) refl in
        c.requires.listed from to f (c.loop-item.invariant.left to has),
  ),
)
