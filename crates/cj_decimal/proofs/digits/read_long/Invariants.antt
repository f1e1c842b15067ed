use Rattle.cj_decimal.proofs.Common.{ℕ, ◌-◌, ◌≤◌, length, StandsFor, Carries, Passes}
use Rattle.cj_decimal.proofs.digits.read_long.Given as goal

abbrev pub invariant-loop-digits : goal.invariant-loop-digits
invariant-loop-digits l = record {
  passes : Passes l.spelling l.fn.from l.at;
  stands : (n : ℕ) → StandsFor l.fn.start.lead l.fn.start.extra l.fn.start.lost n
      → (m : ℕ) × Carries l.spelling l.fn.from n l.at m × StandsFor l.digits.lead l.digits.extra l.digits.lost m;
  bounded : l.digits.extra ≤ l.at;
}

abbrev pub decreases-loop-digits : goal.decreases-loop-digits
decreases-loop-digits l = length l.spelling - l.at
