-- What is left of a walk, and what is kept of a list at even steps.
use Rattle.std.specs.Prelude.{List, [], ◌∷◌, Option, Some, None, ◌≡◌, ℕ, ◌+◌, ◌*◌, ◌/◌, ◌<◌, length, take, get_or}
use Rattle.cj_spans.specs.Meaning.Tree.{Tree}
use Rattle.cj_spans.specs.declared.node.Items.{Items}
use Rattle.cj_spans.specs.View.{items_left}
use Rattle.cj_spans.specs.Forest.{total_size}
use Rattle.cj_geometry.specs.declared.steps.FinerSteps.{FinerSteps}
use Rattle.cj_geometry.specs.declared.steps.Steps.{Steps}

-- what is left of a walk over parts, if there is one
abbrev pub left_of : Option Items → List Tree
left_of None = []
left_of (Some w) = items_left w

-- the first of some parts, if there is one, and the others
abbrev pub first_part : List Tree → Option Tree
first_part [] = None
first_part (b ∷ bs) = Some b

abbrev pub other_parts : List Tree → List Tree
other_parts [] = []
other_parts (b ∷ bs) = bs

-- how many values and names stand before each item whose number is a multiple of the step
abbrev pub AreSizesAt : ℕ → List Tree → List ℕ → Type 0
AreSizesAt step ts sizes = (n : ℕ) → n * step < length ts → get_or sizes n 0 ≡ total_size (take (n * step) ts)

-- the steps of a list: how many items it has, and their sizes at 64 places or fewer
pub record AreStepsOf (ts : List Tree) (s : Steps) : Type 0 where
  pub count : s.count ≡ length ts
  pub sizes : AreSizesAt (length ts / 64 + 1) ts s.sizes

-- its finer steps: the same at 1,024 places or fewer
pub record AreFinerStepsOf (ts : List Tree) (s : FinerSteps) : Type 0 where
  pub count : s.count ≡ length ts
  pub sizes : AreSizesAt (length ts / 1024 + 1) ts s.sizes
