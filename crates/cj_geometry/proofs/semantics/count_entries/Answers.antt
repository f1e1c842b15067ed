use Rattle.cj_geometry.proofs.Common.{arith, entry, items_of, sym, tree, ◌+◌, ◌∙◌}
use Rattle.cj_geometry.proofs.Arrays.{left-falls, lone-below, lone-more, none-more}
use Rattle.cj_geometry.proofs.semantics.count_entries.Goals as goal

pub overflow_add-front : goal.overflow_add-front
overflow_add-front c =
    let below = lone-below c.loop-item.invariant.lone in
    omega (arith, below, c.loop-item.invariant.small)

pub loop-item-smaller : goal.loop-item-smaller
loop-item-smaller c =
    let i = c.loop-item.invariant in
    let next = sym i.left ∙ c.in-Some.ensures.steps.0 in
    let l = lone-more _ _ _ _ next (c.is_entry.ensures.single c.if-not-is_entry.false) i.lone in
    left-falls c.loop-item.front (items_of (tree c.args.node)) i.left
    (c.items_behind-items.ensures.items (c.loop-item.front + 1) l.within l.sizes) l.within

pub loop-item-preserved : goal.loop-item-preserved
loop-item-preserved c =
    let i = c.loop-item.invariant in
    let next = sym i.left ∙ c.in-Some.ensures.steps.0 in
    let l = lone-more _ _ _ _ next (c.is_entry.ensures.single c.if-not-is_entry.false) i.lone in
    record {
      left = c.items_behind-items.ensures.items (c.loop-item.front + 1) l.within l.sizes;
      lone = l;
      none = none-more c.loop-item.front (items_of (tree c.args.node)) _ _ next (entry c.args.surfaces.count)
          (c.is_entry.ensures.none c.if-not-is_entry.false) i.none;
      few = i.few;
      small = i.small;
    }
