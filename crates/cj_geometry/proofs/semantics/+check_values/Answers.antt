use Rattle.cj_geometry.proofs.Common.{ap, arith, entry, flat_map, items_if, items_left, items_of, left_of, option_map, other_count, paired, rules, sym, tree, values, ◌-◌, ◌<◌, ◌∙◌, ◌≡◌}
use Rattle.cj_spans.proofs.Findings.{least-two, least-swap}
use Rattle.cj_geometry.proofs.Values.{beside-on, values-array, values-one}
use Rattle.cj_geometry.proofs.semantics.+check_values.Goals as goal

pub loop-item-preserved : goal.loop-item-preserved
loop-item-preserved t c = record {
  found =
      beside-on (values c.args.surfaces.count (c.args.depth - 1)) _ (left_of c.loop-item.parts) _ _
      c.loop-item.invariant.found c.in-Some.ensures.steps.0 c.next_part-beside.ensures.part
      c.next_part-beside.ensures.left c.check_values.ensures;
  even = search rules;
}

pub returns-in-None : goal.returns-in-None
returns-in-None t c =
    let rule = values c.args.surfaces.count (c.args.depth - 1) in
    let n = tree c.args.node in
    let part = option_map tree c.args.part in
    let kind = sym c.kind.ensures ∙ c.in-Array.is in
    let some : 0 < c.args.depth = omega (arith, c.if-depth-eq0.false) in
    let walked : items_left c.into_iter-item-iterator.result ≡ items_of n =
    ap items_left c.into_iter-item-iterator.ensures.into_iter_gives ∙ c.items-item-items.ensures.items in
    let done = rw (c.in-None.ensures.steps.0.0, walked, c.walk-parts.ensures) at c.loop-item.invariant.found in
    rw (values-array c.args.surfaces.count c.args.depth n part some kind)
    (least-two c.args.found.now c.loop-item.found c.check_evenness.new.found (paired rule (items_of n) (items_if part))
    (other_count n part) done c.check_evenness.ensures
    ∙ least-swap c.args.found.now (paired rule (items_of n) (items_if part)) (other_count n part))

pub returns-then-depth-eq1 : goal.returns-then-depth-eq1
returns-then-depth-eq1 t c =
    let n = tree c.args.node in
    let part = option_map tree c.args.part in
    rw (values-one c.args.surfaces.count n part c.if-depth-eq1.true (sym c.kind.ensures ∙ c.in-Array.is))
    (c.check_entries.ensures ∙ least-swap c.args.found.now (flat_map (entry c.args.surfaces.count) (items_of n))
    (other_count n part))
