use Rattle.cj_decimal.proofs.Common.{arith, ints}
use Rattle.cj_decimal.proofs.Scales.{split_cast}
use Rattle.cj_decimal.proofs.affine.split.Goals as goal

pub returns-clause-joined : goal.returns-clause-joined
returns-clause-joined c = let parts =
    split_cast c.args.units c.ranges.units c.div_euclid-whole.ensures in
    omega (arith, ints, parts)
