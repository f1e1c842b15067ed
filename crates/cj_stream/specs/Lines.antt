-- The lines of a stream so far: those that LF ended, and the begun one. The lemma `lines-cut` says that these are its
-- lines.
use Rattle.std.specs.Prelude.{◌≡◌, ℕ, List, [], ◌∷◌, ◌++◌, false, ◌==◌, if◌then◌else◌, map}
use Rattle.std.specs.List.{flat_map}
use Rattle.cj_stream.specs.Meaning.Lines.{newline, Line, raw, ended_line}

-- a byte in front of the first content
abbrev pub onto_first : ℕ → List (List ℕ) → List (List ℕ)
onto_first b [] = []
onto_first b (c ∷ cs) = (b ∷ c) ∷ cs

-- the contents of the lines that LF ended
abbrev pub closed : List ℕ → List (List ℕ)
closed [] = []
closed (b ∷ s) = if b == newline then [] ∷ closed s else onto_first b (closed s)

-- the bytes after the last LF of b and s, where these are the lines that LF ended in s
abbrev pub begun_with : List (List ℕ) → ℕ → List ℕ → List ℕ
begun_with [] b s = b ∷ s
begun_with (c ∷ cs) b s = s

-- the bytes after the last LF
abbrev pub begun : List ℕ → List ℕ
begun [] = []
begun (b ∷ s) = if b == newline then begun s else begun_with (closed s) b (begun s)

-- the line that LF has not ended, if there is one
abbrev pub last_line : List ℕ → List Line
last_line [] = []
last_line (b ∷ s) = record { content = b ∷ s; lf = false } ∷ []

-- the content of the first line, of the lines that LF ended and the begun one
abbrev pub first_of : List (List ℕ) → List ℕ → List ℕ
first_of [] b = b
first_of (c ∷ cs) b = c

-- the content of the first line so far
abbrev pub first_content : List ℕ → List ℕ
first_content s = first_of (closed s) (begun s)

-- all but the first, if there is one
abbrev pub later_of : {A : Type 0} → List A → List A
later_of [] = []
later_of (x ∷ xs) = xs

-- the stream that pieces are a cut of; a piece may be empty
abbrev pub joined : List (List ℕ) → List ℕ
joined [] = []
joined (piece ∷ pieces) = piece ++ joined pieces

-- no byte is LF
abbrev pub NoLf : List ℕ → Type 0
NoLf [] = Unit {0}
NoLf (b ∷ s) = ((b == newline) ≡ false) × NoLf s

-- a stream up to and with its last LF
abbrev pub whole : List ℕ → List ℕ
whole s = flat_map raw (map ended_line (closed s))

-- the begun line, if LF has ended one before it
abbrev pub begun_after : List (List ℕ) → List ℕ → List ℕ
begun_after [] b = []
begun_after (c ∷ cs) b = b

-- the content so far of a begun line that is not the first
abbrev pub begun_later : List ℕ → List ℕ
begun_later s = begun_after (closed s) (begun s)
