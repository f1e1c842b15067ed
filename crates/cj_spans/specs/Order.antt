-- The order of texts: by code points in turn, where a text comes before those that go on from it.
use Rattle.std.specs.Prelude.{ℕ, ◌+◌, ◌*◌, ◌/◌, ◌^◌, List, [], ◌∷◌, cond, nat_lt, Option, Some, None}
use Rattle.std.specs.Cmp.Lexicographic.{slice_cmp}
use Rattle.std.specs.Option.{option_cmp}
use Rattle.std.specs.Ordering.{nat_cmp}
use Rattle.std.specs.declared.cmp.Ordering.{Ordering}

-- how two texts are ordered, by the first code point in which they differ
abbrev pub compare : List ℕ → List ℕ → Ordering
compare = slice_cmp nat_cmp

-- the same, where what is no text comes first
abbrev pub compare_texts : Option (List ℕ) → Option (List ℕ) → Ordering
compare_texts = option_cmp compare

-- code points as digits by 256, of which the first weighs so much; one from 255 on counts 255 and ends them
abbrev pub digits : ℕ → List ℕ → ℕ
digits weight [] = 0
digits weight (c ∷ cs) = cond (nat_lt c 255) (c * weight + digits (weight / 256) cs) (255 * weight)

-- a number below 2^64 of the front of a text: its first eight code points, as those behind them weigh nothing
abbrev pub front_word : Option (List ℕ) → ℕ
front_word None = 0
front_word (Some t) = digits (256 ^ 7) t
