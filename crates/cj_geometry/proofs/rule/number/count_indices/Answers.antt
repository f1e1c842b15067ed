use Rattle.cj_geometry.proofs.Common.{arith, index, items_of, sym, tree, ◌+◌, ◌∙◌}
use Rattle.cj_geometry.proofs.Arrays.{left-falls, lone-below, lone-more, none-more, whole-size, index-none}
use Rattle.cj_geometry.proofs.rule.number.count_indices.Goals as goal

pub overflow_add-front : goal.overflow_add-front
overflow_add-front c =
    let below = lone-below c.loop-item.invariant.lone in
    omega (arith, below, c.loop-item.invariant.small)

pub loop-item-smaller : goal.loop-item-smaller
loop-item-smaller c =
    let i = c.loop-item.invariant in
    let next = sym i.left ∙ c.in-Some.ensures.steps.0 in
    let read = c.is_few_below.ensures c.if-not-is_few_below.false in
    let l = lone-more _ _ _ _ next (whole-size (tree c.in-Some.item) _ read.3) i.lone in
    left-falls c.loop-item.front (items_of (tree c.args.node)) i.left
    (c.items_behind-items.ensures.items (c.loop-item.front + 1) l.within l.sizes) l.within

pub loop-item-preserved : goal.loop-item-preserved
loop-item-preserved c =
    let i = c.loop-item.invariant in
    let next = sym i.left ∙ c.in-Some.ensures.steps.0 in
    let read = c.is_few_below.ensures c.if-not-is_few_below.false in
    let bound = c.args.bound in
    let l = lone-more _ _ _ _ next (whole-size (tree c.in-Some.item) _ read.3) i.lone in
    record {
      left = c.items_behind-items.ensures.items (c.loop-item.front + 1) l.within l.sizes;
      lone = l;
      none = λ outside. none-more c.loop-item.front (items_of (tree c.args.node)) _ _ next (index outside bound.count)
          (index-none (tree c.in-Some.item) _ _ read.3 outside bound.count (bound.outside read.0 read.2) read.1)
          (i.none outside);
      small = i.small;
    }
