use Rattle.cj_decimal.proofs.Common.{◌<◌, ◌-◌, ◌^◌, length, Carries, Passes}
use Rattle.cj_decimal.proofs.digits.read_short.Given as goal

abbrev pub invariant-loop-at : goal.invariant-loop-at
invariant-loop-at l =
    record {
      passes : Passes l.spelling l.from l.at;
      carries : Carries l.spelling l.from l.start l.at l.value;
      short : l.value < 10 ^ 18;
    }

abbrev pub decreases-loop-at : goal.decreases-loop-at
decreases-loop-at l = length l.spelling - l.at
