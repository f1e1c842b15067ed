use Rattle.cj_decimal.proofs.Common.{arith, ◌<◌, ◌^◌}
use Rattle.cj_decimal.proofs.Classes.{trim_more, trim_left, trim_few}
use Rattle.cj_decimal.proofs.trimming.short_without_zeros.Goals as goal

pub loop-rest-preserved : goal.loop-rest-preserved
loop-rest-preserved c =
    let small : c.args.number < 10 ^ 20 = omega arith in
    let whole = trim_more _ _ c.loop-rest.zeros c.loop-rest.invariant.whole c.loop-rest-test.true in
    let left = trim_left _ c.loop-rest.invariant.left c.loop-rest-test.true in
    record { whole = whole; left = left; few = trim_few _ _ 20 whole left small }
