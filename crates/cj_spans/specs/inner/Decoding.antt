-- What is read of a text, and what is left. Only private clauses cite it.
use Rattle.std.specs.Prelude.{◌≡◌, ◌+◌, ◌-◌, ◌<◌, ◌≤◌, ℕ, List, [], length, drop, get_or, false, nat_eq, Option, Some}
use Rattle.std.specs.Prelude.{None}
use Rattle.std.specs.Str.{chars, chars_after}
use Rattle.cj_spans.specs.declared.text.decode.CodePoint.{CodePoint}
use Rattle.cj_spans.specs.declared.text.decode.CodePoints.{CodePoints}
use Rattle.cj_spans.specs.declared.text.decode.Characters.{Characters}
use Rattle.cj_spans.specs.Meaning.Text.{code_points_after}
use Rattle.cj_spans.specs.Meaning.Signs.{backslash}

-- the characters that are left from a place on
abbrev pub left : List ℕ → ℕ → List ℕ
left bytes place = chars (drop place bytes)

-- the characters that come where n bytes of the first are still to be read, or none
abbrev pub after_read : List ℕ → ℕ → Option CodePoint → List ℕ
after_read bytes n None = []
after_read bytes n (Some p) = chars_after n p.code (drop p.stop bytes)

-- the number x stands for the front of the characters cs, of which it takes n
pub record ReadsCodePoint (bytes cs : List ℕ) (x n : ℕ) (p : CodePoint) : Type 0 where
  pub code : p.code ≡ x
  pub rest : left bytes p.stop ≡ drop n cs

-- the code points from a place on
abbrev pub code_points_from : List ℕ → ℕ → List ℕ
code_points_from bytes place = code_points_after 0 (left bytes place)

-- the code points that are left
abbrev pub code_points_left : CodePoints → List ℕ
code_points_left p = code_points_from p.bytes.now p.place

-- the characters that are left
abbrev pub characters_left : Characters → List ℕ
characters_left c = left c.bytes.now c.place

-- the next n bytes of two strings are the same, and each of them is a character that stands for itself
abbrev pub AreAlike : List ℕ → ℕ → List ℕ → ℕ → ℕ → Type 0
AreAlike bs i ds j n = (k : ℕ) → k < n
    → (get_or bs (i + k) 0 ≡ get_or ds (j + k) 0) × (get_or bs (i + k) 0 < 128)
    × (nat_eq (get_or bs (i + k) 0) backslash ≡ false)

-- of what is left from two places on so many are alike
pub record StartAlike (bs : List ℕ) (i : ℕ) (ds : List ℕ) (j n : ℕ) : Type 0 where
  pub within : n ≤ length bs - i
  pub within_other : n ≤ length ds - j
  pub alike : AreAlike bs i ds j n
