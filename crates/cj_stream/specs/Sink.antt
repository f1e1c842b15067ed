-- The law of a sink, and what its calls do to it, one after another.
use Rattle.std.specs.Prelude.{◌≡◌, ℕ, List, [], ◌∷◌, ◌++◌, Option, Result, Ok, Err}
use Rattle.std.specs.Io.KnownBytes.{Appends}
use Rattle.cj_stream.specs.Items.{Item}
use Rattle.cj_stream.specs.Meaning.Outputs.{Took}
use Rattle.cj_stream.specs.Verdict.{Ruling, Stretch, rulings_first}
pub use Rattle.cj_budget.specs.Meaning.Counts.{HasRisen}
pub use Rattle.cj_budget.specs.Counts.{counted}

-- the law of a sink: what one whole item makes of it, what a fault may leave of it, and how often its device has failed
pub record SinkContract (S : Type 0) : Type 1 where
  pub takes : S → Item → S → Type 0
  pub leaves : S → Item → S → Type 0
  pub failures : S → ℕ

-- the law of a sink that never fails
abbrev pub never_fails : {S : Type 0} → (S → Item → S → Type 0) → SinkContract S
never_fails takes = record { takes = takes; leaves = λ old i new. ⊥; failures = λ s. 0 }

-- what is held of a stream, and the sink that its lines go to
pub record WithSink (X S : Type 0) : Type 0 where
  pub state : X
  pub sink : S

abbrev pub with_sink : {X S : Type 0} → X → S → WithSink X S
with_sink x s = record { state = x; sink = s }

-- a count of failures after a call that answered so: it stays where the call succeeded, and has risen where it failed
abbrev pub RisesOnErr : {T E : Type 0} → Result T E → ℕ → ℕ → Type 0
RisesOnErr (Ok x) old new = new ≡ old
RisesOnErr (Err e) old new = HasRisen old new

-- What a sink has taken of lines, where f says what it gets by their results: of the lines with the first results it
-- had taken that, and now it has taken that of all these lines, which begin with them.
pub record TookMore {S X : Type 0} (step : S → X → S → Type 0) (f : List Ruling → List X) (before after : List Ruling)
    (old new : S) : Type 0 where
  pub done : List Ruling
  pub grown : after ≡ before ++ done
  pub took : Took step old (f done) new

-- the same of the lines of a stream from one count of them to another
abbrev pub TookOf : {S X : Type 0} → (S → X → S → Type 0) → (List Ruling → List X) → Stretch → S → S → Type 0
TookOf step f part old new =
    TookMore step f (rulings_first part.rules part.from part.bytes) (rulings_first part.rules part.to part.bytes) old
    new

-- what a failed step may leave, by the first of those that were to come
abbrev pub LeavesNext : {S X : Type 0} → (S → X → S → Type 0) → List X → S → S → Type 0
LeavesNext leaves [] old new = ⊥
LeavesNext leaves (x ∷ xs) old new = leaves old x new

-- the prefixes of some items that have all of the first of them
pub record Prefixes (X : Type 0) : Type 0 where
  pub all : List X
  pub first : List X

abbrev pub prefixes : {X : Type 0} → List X → List X → Prefixes X
prefixes all first = record { all = all; first = first }

-- one of these prefixes made steps, and then this happened, by the items that were to come
pub record TookFront {S X : Type 0} (takes : S → X → S → Type 0) (then : List X → S → S → Type 0) (of : Prefixes X)
    (old new : S) : Type 0 where
  pub more : List X
  pub others : List X
  pub middle : S
  pub front : of.all ≡ (of.first ++ more) ++ others
  pub took : Took takes old (of.first ++ more) middle
  pub left : then others middle new

-- the known bytes grow by a prefix of bs
pub record AppendsPart (old new : Option (List ℕ)) (bs : List ℕ) : Type 0 where
  pub front : List ℕ
  pub rest : List ℕ
  pub whole : bs ≡ front ++ rest
  pub grows : Appends old new front
