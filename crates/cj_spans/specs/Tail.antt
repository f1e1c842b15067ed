-- A number of the end of a text: equal texts have equal numbers, however they are spelled.
use Rattle.std.specs.Prelude.{ℕ, ◌+◌, ◌*◌, ◌%◌, ◌^◌, min, List, [], ◌∷◌, Option, Some, None}

-- the number after one code point more: digits by 256, of which the last eight count; one from 255 on counts 255
abbrev pub tail_step : ℕ → ℕ → ℕ
tail_step n c = n % 2 ^ 56 * 256 + min c 255

-- the number after these code points
abbrev pub tail_on : ℕ → List ℕ → ℕ
tail_on n [] = n
tail_on n (c ∷ cs) = tail_on (tail_step n c) cs

-- the last eight code points of a text as a number; 0 where there is none
abbrev pub tail_of : Option (List ℕ) → ℕ
tail_of None = 0
tail_of (Some t) = tail_on 0 t
