-- Where lines begin.
use Rattle.std.specs.Prelude.{◌≡◌, ℕ, ◌+◌, ◌-◌, ◌≤◌, List, ◌++◌, drop, length, take}
use Rattle.std.specs.List.{flat_map}
use Rattle.cj_stream.specs.Meaning.Lines.{lines, raw}
use Rattle.cityseq_c.specs.Features.{Place}

-- where the line of this number begins in a text: behind the bytes of the lines before it
abbrev pub begin_of : List ℕ → ℕ → ℕ
begin_of text line = length (flat_map raw (take (line - 1) (lines text)))

-- A place in a part follows its first lines. They are those from the second line of the stream on. `begin` is the
-- number of their bytes, and `left` are the lines after them.
pub record IsAlong (part : List ℕ) (p : Place) : Type 0 where
  pub line : 2 ≤ p.line
  pub begin : p.begin ≡ length (flat_map raw (take (p.line - 2) (lines part)))
  pub left : p.left ≡ drop (p.line - 2) (lines part)

-- the later lines of a text begin behind the header, where they begin in the part
abbrev pub AreBehind : List ℕ → List ℕ → Type 0
AreBehind header part = (line : ℕ) → 2 ≤ line
    → begin_of (header ++ part) line ≡ length header + length (flat_map raw (take (line - 2) (lines part)))
