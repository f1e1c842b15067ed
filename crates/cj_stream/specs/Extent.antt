-- The least and the greatest of some numbers.
use Rattle.std.specs.Prelude.{◌<◌, ◌^◌, List, [], ◌∷◌, Bool, ◌&&◌, Option, Some, None, ℤ, int_le, unsigned_abs}
use Rattle.std.specs.Int.{int_min, int_max}
use Rattle.std.specs.List.{fold, list_any}
use Rattle.cj_decimal.specs.Meaning.Affine.{AffineMap, image}
use Rattle.cj_stream.specs.declared.query.extent.Range.{Range}

-- the range of a number alone
abbrev pub alone : ℤ → Range
alone n = record { least = n; greatest = n }

-- a range with some numbers more
abbrev pub widened : Range → List ℤ → Range
widened r ns = record { least = fold int_min r.least ns; greatest = fold int_max r.greatest ns }

-- the least and the greatest of some numbers, if there are any
abbrev pub range_of : List ℤ → Option Range
range_of [] = None
range_of (n ∷ ns) = Some (widened (alone n) ns)

-- both are below 10^18 in size
pub record IsSmall (r : Range) : Type 0 where
  pub least : unsigned_abs r.least < 10 ^ 18
  pub greatest : unsigned_abs r.greatest < 10 ^ 18

-- a map brings some number to at most the upper end, and some to at least the lower one
abbrev pub meets : AffineMap → ℤ → ℤ → List ℤ → Bool
meets m low high ns = list_any (λ n. int_le (image m n) high) ns && list_any (λ n. int_le low (image m n)) ns
