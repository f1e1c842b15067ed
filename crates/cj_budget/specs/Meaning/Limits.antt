-- The limits of a run.
use Rattle.std.specs.Prelude.{ℕ}

-- what a contract sees of limits: the most content bytes of a line, and the most open containers
pub record LimitPair : Type 0 where
  pub line : ℕ
  pub depth : ℕ
