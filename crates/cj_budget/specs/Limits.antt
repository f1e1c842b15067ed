-- The ranges of limits, and the usual limits.
use Rattle.std.specs.Prelude.{ℕ, ◌≤◌}
use Rattle.cj_budget.specs.Meaning.Limits.{LimitPair}

-- a line limit in range
abbrev pub InLine : ℕ → Type 0
InLine line = (1 ≤ line) × (line ≤ 1073741824)

-- a depth limit in range
abbrev pub InDepth : ℕ → Type 0
InDepth depth = (1 ≤ depth) × (depth ≤ 1024)

-- the limits where none are given: 8 MiB a line, and 64 open containers
abbrev pub usual_limits : LimitPair
usual_limits = record { line = 8388608; depth = 64 }
