use Rattle.cj_decimal.proofs.Common.{◌≡◌, ◌≢◌, ℕ, ◌-◌, ◌<◌, ◌≤◌, false, get_or, length, StandsFor, Carries, Passes}
use Rattle.cj_decimal.proofs.digits.read_past_full.Given as goal

abbrev pub invariant-loop-at : goal.invariant-loop-at
invariant-loop-at l = record {
  passes : Passes l.spelling l.fn.from l.at;
  stands : (n : ℕ) → StandsFor l.start.lead l.start.extra l.start.lost n
      → (m : ℕ) × Carries l.spelling l.fn.from n l.at m × StandsFor l.start.lead l.extra l.start.lost m;
  bounded : l.extra ≤ l.at;
}

abbrev pub decreases-loop-at : goal.decreases-loop-at
decreases-loop-at l = length l.spelling - l.at

abbrev pub invariant-loop-lost : goal.invariant-loop-lost
invariant-loop-lost l = record {
  passes : Passes l.spelling l.fn.from l.at;
  stands : (n : ℕ) → StandsFor l.start.lead l.start.extra l.start.lost n
      → (m : ℕ) × Carries l.spelling l.fn.from n l.at m × StandsFor l.start.lead l.extra l.lost m;
  other : l.lost ≡ false → l.at < length l.spelling → get_or l.spelling l.at 0 ≢ 48;
  bounded : l.extra ≤ l.at;
}

abbrev pub decreases-loop-lost : goal.decreases-loop-lost
decreases-loop-lost l = length l.spelling - l.at
