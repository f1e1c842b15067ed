-- Items that hold nothing.
use Rattle.std.specs.Prelude.{◌≡◌, ℕ, ◌≤◌, List, length, take}
use Rattle.cj_spans.specs.Meaning.Tree.{Tree}
use Rattle.cj_spans.specs.Forest.{total_size}

-- each of the first n trees is one value, and holds no others
pub record AreLone (n : ℕ) (ts : List Tree) : Type 0 where
  pub within : n ≤ length ts
  pub sizes : total_size (take n ts) ≡ n
