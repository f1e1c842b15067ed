use Rattle.cj_decimal.proofs.Common.{arith, sym, ◌∙◌, ◌≤◌, ◌^◌, unsigned_abs, ints}
use Rattle.cj_decimal.specs.Meaning.Affine.{image}
use Rattle.cj_decimal.proofs.Scales.{whole_small, scale_joined, part_small, product_of_casts, compare_law, units_order, rest_cast, sum_cast, left_cast}
use Rattle.cj_decimal.proofs.affine.Affine.compare.Goals as goal

pub overflow_sub-rest : goal.overflow_sub-rest
overflow_sub-rest c = omega (arith, ints, c.product.ensures.bound, c.units.ensures.bound, c.self.invariant.1.shift_fits)

pub split-carry-requires : goal.split-carry-requires
split-carry-requires c =
    omega (arith, ints, c.product.ensures.bound, c.units.ensures.bound, c.self.invariant.1.shift_fits)

pub product-requires-2-clause-right_fits : goal.product-requires-2-clause-right_fits
product-requires-2-clause-right_fits c =
    let inside = c.self.inside in
    let small =
    whole_small inside.scale c.self.invariant.0.whole_is c.self.invariant.0.part_is c.self.invariant.1.scale_fits in
    omega (arith, ints, small)

pub overflow_add-product : goal.overflow_add-product
overflow_add-product c = omega (arith, ints, c.product-2.ensures.bound, c.split-carry.ensures.bound)

pub returns-clause-order : goal.returns-clause-order
returns-clause-order c =
    let inside = c.self.inside in
    let split = c.self.invariant.0 in
    let units = c.self.invariant.1 in
    let whole_fits = whole_small inside.scale split.whole_is split.part_is units.scale_fits in
    let v_fits : unsigned_abs c.args.v ≤ 10 ^ 18 = omega (arith, c.requires) in
    let first =
    product_of_casts c.args.v inside.part v_fits (part_small inside.scale split.part_is) c.product.ensures.value in
    let second =
    product_of_casts c.args.v inside.whole v_fits whole_fits c.product-2.ensures.value in
    rw (← c.self.view_is) (compare_law c.args.v inside.whole inside.part inside.shift c.args.q c.split-carry.result.0
    c.sign_of.ensures c.split-carry.ensures.joined (scale_joined inside.scale split.whole_is split.part_is) first second
    (rest_cast c.product.result inside.shift c.product.ensures.bound units.shift_fits
    c.units.ensures.bound c.units.ensures.value)
    (sum_cast c.product-2.result c.split-carry.result.0 c.product-2.ensures.bound c.split-carry.ensures.bound)
    (left_cast c.split-carry.result.1 c.split-carry.ensures.low c.split-carry.ensures.high))

pub returns-clause-value : goal.returns-clause-value
returns-clause-value c = returns-clause-order c ∙ sym (units_order (image c.args.self.now c.args.v) c.args.q)
