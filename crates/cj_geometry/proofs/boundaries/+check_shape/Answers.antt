use Rattle.cj_geometry.proofs.Common.{ap, arith, least, refl, shape, sym, tree, ◌-◌, ◌<◌, ◌∙◌, ◌≡◌}
use Rattle.cj_spans.proofs.Findings.{least_on}
use Rattle.cj_geometry.proofs.Values.{shape-array}
use Rattle.cj_geometry.proofs.boundaries.+check_shape.Goals as goal

pub loop-item-init : goal.loop-item-init
loop-item-init t c =
    let kind = sym c.kind.ensures ∙ c.in-Array.is in
    let some : 0 < c.args.depth = omega (arith, c.if-depth-eq0.false) in
    rw (
      shape-array c.args.vertices.count c.args.depth (tree c.args.node) some kind,
      c.into_iter-item-iterator.ensures.into_iter_gives,
      c.items-item-items.ensures.items,
    ) refl

pub loop-item-preserved-then-depth-eq3 : goal.loop-item-preserved-then-depth-eq3
loop-item-preserved-then-depth-eq3 t c =
    let three = c.if-depth-eq3.true in
    let below : 2 ≡ c.args.depth - 1 = omega arith in
    least_on (shape c.args.vertices.count (c.args.depth - 1)) _ _ _ _ _ _ c.loop-item.invariant
    c.in-Some.ensures.steps.0
    (c.check_rings-then-depth-eq3.ensures
    ∙ ap (λ d. least c.loop-item.found (shape c.args.vertices.count d (tree c.in-Some.item))) below)

pub loop-item-preserved : goal.loop-item-preserved
loop-item-preserved t c =
    least_on (shape c.args.vertices.count (c.args.depth - 1)) _ _ _ _ _ _ c.loop-item.invariant
    c.in-Some.ensures.steps.0 c.check_shape.ensures
