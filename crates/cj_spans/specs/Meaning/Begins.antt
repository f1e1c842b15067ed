-- The places of faults, told by the JSON texts that a line begins.
use Rattle.std.specs.Prelude.{◌≡◌, ℕ, suc, ◌<◌, ◌≤◌, List, ◌++◌, length, take}
use Rattle.cj_spans.specs.Meaning.Tree.{Tree, nest}
use Rattle.cj_spans.specs.Meaning.Json.{Json}

-- some JSON text begins with the first i bytes
pub record BeginsText (b : List ℕ) (i : ℕ) : Type 0 where
  pub rest : List ℕ
  pub tree : Tree
  pub json : Json (take i b ++ rest) tree

-- i is the least place for which no JSON text begins with the first i + 1 bytes, or the length of a b that is none
pub record IsFirstFault (b : List ℕ) (i : ℕ) : Type 0 where
  pub within : i ≤ length b
  pub earlier : (k : ℕ) → k < i → BeginsText b (suc k)
  pub here : i < length b → BeginsText b (suc i) → ⊥
  pub whole : i ≡ length b → (t : Tree) → Json b t → ⊥

-- i is the least place for which some JSON text begins with the first i + 1 bytes and each such has a nest above d
pub record IsFirstTooDeep (b : List ℕ) (d i : ℕ) : Type 0 where
  pub begins : BeginsText b (suc i)
  pub each : (x : BeginsText b (suc i)) → d < nest x.tree
  pub earlier : (k : ℕ) → k < i → (x : BeginsText b (suc k)) × (nest x.tree ≤ d)
