-- What small streams may hold at most under some limits, and what they hold.
use Rattle.std.specs.Prelude.{◌≡◌, ℕ, List, [], ◌∷◌, ◌++◌}
use Rattle.cj_budget.specs.Meaning.Limits.{LimitPair}
use Rattle.cj_budget.specs.declared.limits.Peaks.{Peaks}
use Rattle.cj_stream.specs.Meaning.Bound.{bytes_bound, tokens_bound, IsBounded}
use Rattle.cj_stream.specs.Bound.{exact_peaks}
use Rattle.cj_stream.specs.Rows.{small_header, small_feature}

-- the usual limits, a line limit below the 116 bytes of the small header, and one that it just meets, beside an odd sum
abbrev pub usual : LimitPair
usual = record { line = 8388608; depth = 64 }

abbrev pub short : LimitPair
short = record { line = 100; depth = 64 }

abbrev pub odd : LimitPair
odd = record { line = 116; depth = 1 }

-- at most so many bytes and tokens are held of a stream
abbrev pub HasBounds : LimitPair → List ℕ → ℕ → ℕ → Type 0
HasBounds limits s bytes tokens = (bytes_bound limits s ≡ bytes) × (tokens_bound limits s ≡ tokens)

-- nothing has come: one line may
abbrev pub EmptyRow : Type 0
EmptyRow = HasBounds usual [] 8388608 4194337

-- the bytes of the first line, and those of one more; what comes after the first line changes nothing
abbrev pub HeaderRow : Type 0
HeaderRow =
    HasBounds usual small_header 8388724 4194395
    × HasBounds usual (small_header ++ 10 ∷ []) 8388724 4194395
    × HasBounds usual (small_header ++ 10 ∷ (small_feature ++ 10 ∷ small_feature)) 8388724 4194395

-- a first line above the line limit counts up to it, and half a token is none
abbrev pub CutRow : Type 0
CutRow = HasBounds short small_header 200 133 × HasBounds odd small_header 232 117

-- so much was held
abbrev pub held : ℕ → ℕ → ℕ → Peaks
held bytes tokens depth = record { bytes = bytes; tokens = tokens; depth = depth }

-- the most is within the bound, and one more of any is not
abbrev pub EdgeRow : Type 0
EdgeRow =
    IsBounded short small_header (held 200 133 64)
    × ¬ IsBounded short small_header (held 201 133 64)
    × ¬ IsBounded short small_header (held 200 134 64)
    × ¬ IsBounded short small_header (held 200 133 65)

-- of the header alone, and of a header and a feature: 116 and 89 bytes, 21 and 13 tokens, and three levels each
abbrev pub ExactRow : Type 0
ExactRow =
    (exact_peaks usual small_header ≡ held 116 21 3)
    × (exact_peaks usual (small_header ++ 10 ∷ (small_feature ++ 10 ∷ [])) ≡ held 205 34 3)
