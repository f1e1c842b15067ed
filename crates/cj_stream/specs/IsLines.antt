-- What it means to be the lines of a stream.
use Rattle.std.specs.Prelude.{◌≡◌, ◌⊎◌, ℕ, List, [], ◌∷◌, ◌++◌, true, false}
use Rattle.std.specs.List.{flat_map}
use Rattle.cj_stream.specs.Meaning.Lines.{newline, Line, raw}
use Rattle.cj_stream.specs.Lines.{NoLf}

-- LF ended each line but perhaps the last, which is then not empty
abbrev pub AreEnded : List Line → Type 0
AreEnded [] = Unit {0}
AreEnded (l ∷ []) = (l.lf ≡ true) ⊎ ((l.lf ≡ false) × (l.content ≡ [] → ⊥))
AreEnded (l ∷ m ∷ ls) = (l.lf ≡ true) × AreEnded (m ∷ ls)

-- no content has an LF
abbrev pub HaveNoLf : List Line → Type 0
HaveNoLf [] = Unit {0}
HaveNoLf (l ∷ ls) = NoLf l.content × HaveNoLf ls

-- the lines of a stream: contents without LF that give the stream, joined with the LFs that ended them
pub record IsLines (s : List ℕ) (ls : List Line) : Type 0 where
  pub contents : HaveNoLf ls
  pub joined : flat_map raw ls ≡ s
  pub ended : AreEnded ls

-- a stream is its whole lines, and then bytes without LF
pub record IsWhole (s w : List ℕ) : Type 0 where
  pub rest : List ℕ
  pub cut : s ≡ w ++ rest
  pub no_lf : NoLf rest
  pub ended : (w ≡ [] → ⊥) → (front : List ℕ) × (w ≡ front ++ newline ∷ [])
