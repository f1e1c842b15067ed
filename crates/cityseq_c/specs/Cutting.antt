-- Where a part of a stream is cut.
use Rattle.std.specs.Prelude.{ℕ, ◌+◌, List, [], ◌∷◌, length, nat_lt, take, if◌then◌else◌}
use Rattle.cj_stream.specs.Lines.{closed, whole}

-- where the first of some lines ends that LF ended; 0 where there is none
abbrev pub first_end : List (List ℕ) → ℕ
first_end [] = 0
first_end (c ∷ cs) = length c + 1

-- where whole lines end that have at most so many bytes; where the first line has more, where it ends; and 0 where no
-- line ends
abbrev pub part_end : List ℕ → ℕ → ℕ
part_end s wanted = if nat_lt 0 (length (whole (take wanted s))) then length (whole (take wanted s)) else
    first_end (closed s)
