use Rattle.cj_decimal.proofs.Common.{◌<◌, ◌≤◌, ◌^◌, ◌-◌, Carries, Passes}
use Rattle.cj_decimal.proofs.whole.read_counted.Given as goal

abbrev pub invariant-loop-at : goal.invariant-loop-at
invariant-loop-at l = record {
  passes : Passes l.digits 0 l.at;
  carries : Carries l.digits 0 0 l.at l.value;
  short : l.value < 10 ^ l.at;
  within : l.at ≤ l.count;
}

abbrev pub decreases-loop-at : goal.decreases-loop-at
decreases-loop-at l = l.count - l.at
