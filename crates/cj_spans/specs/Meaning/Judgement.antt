-- What a line is under a depth limit: exactly one of three, as the law `one_judgement` says.
use Rattle.std.specs.Prelude.{◌≡◌, ℕ, ◌≤◌, List}
use Rattle.cj_spans.specs.Meaning.Tree.{Tree, size, nest}
use Rattle.cj_spans.specs.Meaning.Json.{Json}
use Rattle.cj_spans.specs.Meaning.Prefix.{SyntaxAt, DeepAt, NowhereDeep}

-- a JSON text of a tree within the limit, no JSON text from a place on, or nested too deep from a place on
pub data Judgement (b : List ℕ) (d : ℕ) : Type 0 where
  spelled : (t : Tree) → Json b t → nest t ≤ d → Judgement b d
  broken : (i : ℕ) → SyntaxAt b i → NowhereDeep b d → Judgement b d
  sunk : (i : ℕ) → DeepAt b d i → Judgement b d

-- both say the same: the same tree, or the same place of the same fault
abbrev pub SaySame : {b : List ℕ} {d : ℕ} → Judgement b d → Judgement b d → Type 0
SaySame (spelled t j n) (spelled u k m) = t ≡ u
SaySame (spelled t j n) (broken i s h) = ⊥
SaySame (spelled t j n) (sunk i s) = ⊥
SaySame (broken i s h) (spelled t j n) = ⊥
SaySame (broken i s h) (broken k r g) = i ≡ k
SaySame (broken i s h) (sunk k r) = ⊥
SaySame (sunk i s) (spelled t j n) = ⊥
SaySame (sunk i s) (broken k r g) = ⊥
SaySame (sunk i s) (sunk k r) = i ≡ k

-- the size of the tree, or 0 where there is none
abbrev pub judged_size : {b : List ℕ} {d : ℕ} → Judgement b d → ℕ
judged_size (spelled t j n) = size t
judged_size (broken i s n) = 0
judged_size (sunk i s) = 0

-- the nest of the tree, or 0 where there is none
abbrev pub judged_nest : {b : List ℕ} {d : ℕ} → Judgement b d → ℕ
judged_nest (spelled t j n) = nest t
judged_nest (broken i s n) = 0
judged_nest (sunk i s) = 0
