-- Counts of calls that failed, kept in a u64.
use Rattle.std.specs.Prelude.{ℕ, ◌+◌, ◌-◌, ◌^◌, min, Result, Ok, Err}

-- one more; at the greatest u64 the count stays
abbrev pub one_more_failure : ℕ → ℕ
one_more_failure failures = min (failures + 1) (2 ^ 64 - 1)

-- a count of failures after a call that answered so: one more where it failed
abbrev pub counted : {T E : Type 0} → ℕ → Result T E → ℕ
counted failures (Ok x) = failures
counted failures (Err e) = one_more_failure failures
