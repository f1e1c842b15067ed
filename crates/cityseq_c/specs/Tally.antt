-- A tally, as C has it.
use Rattle.std.specs.Prelude.{◌≡◌, ℕ, ◌+◌, ◌*◌, ◌^◌, ◌<◌, List, [], ◌∷◌, Option, None, Some, ℤ, pos, get_or, int_lt}
use Rattle.std.specs.Prelude.{is_some, nat_eq, replicate, unsigned_abs, if◌then◌else◌}
use Rattle.std.specs.List.{AllZip}
use Rattle.cj_decimal.specs.Meaning.Number.{Number}
use Rattle.cj_stream.specs.Tallied.{class_count, slot_count}
use Rattle.cj_stream.specs.TallySink.{Tally as Tallied}
use Rattle.cityseq_c.specs.declared.tally.Range.{Range}
use Rattle.cityseq_c.specs.declared.tally.Number.{Number as CNumber}
use Rattle.cityseq_c.specs.declared.tally.Tally.{Tally}

-- the number 0
abbrev pub no_number : CNumber
no_number = record { negative = 0; power = pos 0; high = 0; low = 0 }

-- a range, as C has it
abbrev pub shown_range : Option (ℤ × ℤ) → Range
shown_range None = record { some = 0; least = pos 0; greatest = pos 0 }
shown_range (Some p) = record { some = 1; least = p.0; greatest = p.1 }

-- a range that C has
abbrev pub range_by : Range → Option (ℤ × ℤ)
range_by r = if nat_eq r.some 0 then None else Some (r.least, r.greatest)

-- a tally has the counts and the ranges of another
pub record HasCounts (t s : Tallied) : Type 0 where
  pub features : s.features ≡ t.features
  pub types : s.types ≡ t.types
  pub lods : s.lods ≡ t.lods
  pub ranges : (axis : ℕ) → axis < 3 → get_or s.ranges axis None ≡ get_or t.ranges axis None

-- C has a number: its sign, the size of its coefficient, and its power
pub record IsDecimal (n : Number) (shown : CNumber) : Type 0 where
  pub negative : shown.negative ≡ (if int_lt n.coefficient (pos 0) then 1 else 0)
  pub size : shown.high * 2 ^ 64 + shown.low ≡ unsigned_abs n.coefficient
  pub power : shown.power ≡ n.power

-- C has the numbers of a transform; zeros where there is none
abbrev pub AreShown : Option (List Number) → List CNumber → Type 0
AreShown (Some ns) shown = AllZip IsDecimal ns shown
AreShown None shown = shown ≡ no_number ∷ no_number ∷ no_number ∷ []

-- a tally of zeros
abbrev pub zeros : Tally
zeros = record {
  features = 0;
  types = replicate slot_count 0;
  lods = replicate class_count 0;
  ranges = shown_range None ∷ shown_range None ∷ shown_range None ∷ [];
  transformed = 0;
  scale = no_number ∷ no_number ∷ no_number ∷ [];
  translate = no_number ∷ no_number ∷ no_number ∷ [];
}

-- C has the counts and the ranges of a tally, and the transform
pub record IsTally (t : Tallied) (shown : Tally) : Type 0 where
  pub features : shown.features ≡ t.features
  pub types : shown.types ≡ t.types
  pub lods : shown.lods ≡ t.lods
  pub ranges : shown.ranges ≡ shown_range (get_or t.ranges 0 None) ∷ shown_range (get_or t.ranges 1 None)
      ∷ shown_range (get_or t.ranges 2 None) ∷ []
  pub transformed : shown.transformed ≡ (if is_some t.scale then 1 else 0)
  pub scale : AreShown t.scale shown.scale
  pub translate : AreShown t.translate shown.translate
