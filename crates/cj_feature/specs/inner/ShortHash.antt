-- A number of a text below 2^32, by which texts are ordered first.
use Rattle.std.specs.Prelude.{ℕ, ◌%◌, List, Option}
use Rattle.cj_spans.specs.Hash.{hash_of}

-- the short hash of a text: a number by all its code points
abbrev pub short_hash_of : Option (List ℕ) → ℕ
short_hash_of t = hash_of t % 4294967291
