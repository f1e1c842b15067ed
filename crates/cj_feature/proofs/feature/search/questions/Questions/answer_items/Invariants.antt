use Rattle.cj_feature.proofs.Common.{AreAnswered, Tree, chars, has_item, items_left, listed_in, members_left, tree, true, ◌≡◌}
use Rattle.cj_feature.proofs.feature.search.questions.Questions.answer_items.Given as goal

-- what the items that are left have, the list has
abbrev pub invariant-loop-item : goal.invariant-loop-item
invariant-loop-item g l = record {
  answered : AreAnswered (chars l.list) l.objects (members_left l.later) l.self;
  left : (to : Tree) → has_item (items_left l.item-iterator) to ≡ true
      → has_item (listed_in (chars l.list) (tree l.object)) to ≡ true;
}
