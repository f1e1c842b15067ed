use Rattle.cj_decimal.proofs.Common.{arith, ◌<◌, ◌-◌, ◌^◌, ap, ◌∙◌, unsigned_abs, ints, to_z-of_z}
use Rattle.std.specs.Int.{w128}
use Rattle.cj_decimal.proofs.Scales.{scaled_large, product_small, power_fits, product_cast, product_in_bits}
use Rattle.cj_decimal.proofs.decimal.with_zeros.Goals as goal

pub returns-then-unsigned_abs-wide_ten_to-clause-none : goal.returns-then-unsigned_abs-wide_ten_to-clause-none
returns-then-unsigned_abs-wide_ten_to-clause-none c =
    let size = c.unsigned_abs.ensures.value ∙ ap unsigned_abs (to_z-of_z w128 c.args.number c.ranges.number) in
    scaled_large (unsigned_abs c.args.number) c.args.zeros c.args.digits c.requires.within
    (omega (arith, size, c.wide_ten_to.ensures, c.if-unsigned_abs-wide_ten_to.true))

pub overflow_cast-result : goal.overflow_cast-result
overflow_cast-result c = omega (arith, ints, c.wide_ten_to-2.ensures, power_fits c.args.zeros (omega arith))

pub overflow_mul-result : goal.overflow_mul-result
overflow_mul-result c =
    let size = c.unsigned_abs.ensures.value ∙ ap unsigned_abs (to_z-of_z w128 c.args.number c.ranges.number) in
    let small : unsigned_abs c.args.number < 10 ^ (c.args.digits - c.args.zeros) =
    omega (arith, size, c.wide_ten_to.ensures, c.if-unsigned_abs-wide_ten_to.false) in
    product_in_bits c.args.number c.args.zeros c.args.digits c.requires.within c.requires.bounded
    c.requires.fits small c.wide_ten_to-2.ensures

pub returns-clause-value : goal.returns-clause-value
returns-clause-value c =
    let size = c.unsigned_abs.ensures.value ∙ ap unsigned_abs (to_z-of_z w128 c.args.number c.ranges.number) in
    let small : unsigned_abs c.args.number < 10 ^ (c.args.digits - c.args.zeros) =
    omega (arith, size, c.wide_ten_to.ensures, c.if-unsigned_abs-wide_ten_to.false) in
    let product =
    product_cast c.args.number c.args.zeros c.args.digits c.requires.within
    c.requires.bounded c.requires.fits small c.wide_ten_to-2.ensures in
    (product, rw product (product_small c.args.number c.args.zeros c.args.digits c.requires.within small))
