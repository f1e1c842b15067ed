-- Where kept lines and reports go.
use Rattle.std.specs.Prelude.{◌≡◌, ℕ, List, [], ◌∷◌, Option}

-- the bytes that a writer got, if its contract shows them; how often a write to it failed; and a sink of reports
pub record Outputs (N : Type 0) : Type 0 where
  pub bytes : Option (List ℕ)
  pub failures : ℕ
  pub reports : N

-- each of these in turn makes a step
abbrev pub Took : {S X : Type 0} → (S → X → S → Type 0) → S → List X → S → Type 0
Took step old [] new = new ≡ old
Took {S} step old (x ∷ xs) new = (between : S) × step old x between × Took step between xs new
