-- The lines of a stream.
use Rattle.std.specs.Prelude.{ℕ, List, [], ◌∷◌, ◌++◌, Bool, true, false, ◌==◌, if◌then◌else◌}
pub use Rattle.cj_spans.specs.Meaning.Signs.{newline}

-- a line: its content, and whether LF ended it
pub record Line : Type 0 where
  pub content : List ℕ
  pub lf : Bool

-- the bytes of a line
abbrev pub raw : Line → List ℕ
raw l = if l.lf then l.content ++ newline ∷ [] else l.content

-- a content that LF ended
abbrev pub ended_line : List ℕ → Line
ended_line c = record { content = c; lf = true }

-- a byte, which is no LF, in front of lines: the first content has it. With no lines, it is a line that no LF ended
abbrev pub in_front : ℕ → List Line → List Line
in_front b [] = record { content = b ∷ []; lf = false } ∷ []
in_front b (l ∷ ls) = record { content = b ∷ l.content; lf = l.lf } ∷ ls

-- the lines of a stream, in order. `IsLines` says the same as a relation, by the law `lines_are_the_lines`
abbrev pub lines : List ℕ → List Line
lines [] = []
lines (b ∷ s) = if b == newline then ended_line [] ∷ lines s else in_front b (lines s)
