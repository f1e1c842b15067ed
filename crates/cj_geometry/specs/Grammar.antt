-- What a JSON text holds, and which of it is a number.
use Rattle.std.specs.Prelude.{ℕ, List}
use Rattle.std.specs.List.{Contains}
use Rattle.cj_spans.specs.Meaning.Tree.{Tree}
use Rattle.cj_spans.specs.Meaning.Parts.{items_of, members_of}
use Rattle.cj_decimal.specs.Meaning.Class.{Class, no_number, out_of_range, not_whole, whole}

-- a tree itself, an item of what it holds, or the value of a member of what it holds
pub data IsWithinTree (t : Tree) : Tree → Type 0 where
  the_tree : IsWithinTree t t
  an_item : (u v : Tree) → IsWithinTree t u → Contains (items_of u) v → IsWithinTree t v
  a_value : (u : Tree) (m : Tree × Tree) → IsWithinTree t u → Contains (members_of u) m → IsWithinTree t m.1

-- the class is one of a number: any but "no number"
abbrev pub IsOfNumber : {s : List ℕ} → Class s → Type 0
IsOfNumber (no_number n) = ⊥
IsOfNumber (out_of_range n) = Unit {0}
IsOfNumber (not_whole v value range n) = Unit {0}
IsOfNumber (whole v w value range is) = Unit {0}
