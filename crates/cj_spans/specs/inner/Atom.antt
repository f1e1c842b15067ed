-- How far a scalar or a name is read, in words of the machine. Only private clauses cite it.
use Rattle.std.specs.Prelude.{ℕ, ◌≤◌, List, length}
use Rattle.cj_spans.specs.declared.lex.Lex.{Lex}
use Rattle.cj_spans.specs.inner.Machine.{Continues, Halts}

-- from the place i on, where the reading is x, the bytes up to k give the reading y
pub record GoesTo (b : List ℕ) (i : ℕ) (x : Lex) (k : ℕ) (y : Lex) : Type 0 where
  pub goes : Continues b i x k y
  pub order : i ≤ k
  pub within : k ≤ length b

-- the same, and there the scalar does not go on
pub record ReadsTo (b : List ℕ) (i : ℕ) (x : Lex) (k : ℕ) (y : Lex) : Type 0 where
  pub run : GoesTo b i x k y
  pub halts : Halts b k y
