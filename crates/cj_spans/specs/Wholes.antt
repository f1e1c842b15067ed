-- Numbers without a fraction and an exponent.
use Rattle.std.specs.Prelude.{◌≡◌, ℕ, ◌≤◌, List, ◌++◌, length}
use Rattle.cj_spans.specs.declared.token.Kind.TheVariants.{Number}
use Rattle.cj_spans.specs.Meaning.Tree.{Tree}
use Rattle.cj_spans.specs.Meaning.Parts.{kind_of}
use Rattle.cj_spans.specs.Places.{spelling_of}
use Rattle.cj_spans.specs.Meaning.Spelling.{IsMinus, IsInt}

-- a number of JSON that is a minus or none, and an int (RFC 8259, section 6)
pub record IsWholeNumber (s : List ℕ) : Type 0 where
  pub minus : List ℕ
  pub int : List ℕ
  pub minus_is : IsMinus minus
  pub int_is : IsInt int
  pub joined : s ≡ minus ++ int

-- the value is such a number, of at most 18 bytes
pub record IsShortWhole (line : List ℕ) (t : Tree) : Type 0 where
  pub kind : kind_of t ≡ Number
  pub whole : IsWholeNumber (spelling_of line t)
  pub short : length (spelling_of line t) ≤ 18
