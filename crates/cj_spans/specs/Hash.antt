-- A number of a text: equal texts have equal numbers, however they are spelled.
use Rattle.std.specs.Prelude.{ℕ, ◌+◌, ◌*◌, ◌%◌, ◌^◌, List, [], ◌∷◌, Option, Some, None}

-- the number after one code point more: the one before is multiplied by an odd number, so what was in it stays in it
abbrev pub hash_step : ℕ → ℕ → ℕ
hash_step n c = (n * 11400714819323198485 + c) % 2 ^ 64

-- the number after these code points
abbrev pub hash_on : ℕ → List ℕ → ℕ
hash_on n [] = n
hash_on n (c ∷ cs) = hash_on (hash_step n c) cs

-- the hash of all code points of a text; 0 where there is none
abbrev pub hash_of : Option (List ℕ) → ℕ
hash_of None = 0
hash_of (Some t) = hash_on 0 t
