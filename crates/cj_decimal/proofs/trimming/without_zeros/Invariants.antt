use Rattle.cj_decimal.proofs.Common.{◌≡◌, ◌*◌, ◌<◌, ◌^◌}
use Rattle.cj_decimal.proofs.trimming.without_zeros.Given as goal

abbrev pub invariant-loop-rest : goal.invariant-loop-rest
invariant-loop-rest l = record { whole : l.number ≡ l.rest * 10 ^ l.zeros; left : 0 < l.rest; few : l.zeros < 39 }

abbrev pub decreases-loop-rest : goal.decreases-loop-rest
decreases-loop-rest l = l.rest
