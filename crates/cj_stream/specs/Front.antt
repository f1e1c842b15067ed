-- How much of a piece the reader of a header has used.
use Rattle.std.specs.Prelude.{◌≡◌, ℕ, ◌≤◌, List, [], ◌∷◌, ◌++◌, true, false, length, take}
use Rattle.cj_stream.specs.declared.header_reader.Progress.{Progress}
use Rattle.cj_stream.specs.Meaning.Lines.{newline}
use Rattle.cj_stream.specs.Lines.{NoLf}

-- the bytes up to and with the first LF, if the header was accepted; else all bytes, and none is LF
pub record IsFront (piece : List ℕ) (t : Progress) : Type 0 where
  pub within : t.used ≤ length piece
  pub all : t.accepted ≡ false → (t.used ≡ length piece) × NoLf piece
  pub first : t.accepted ≡ true → (front : List ℕ) × (take t.used piece ≡ front ++ newline ∷ []) × NoLf front
