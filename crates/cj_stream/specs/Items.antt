-- What is put to a sink: a header, or a feature beside its header.
use Rattle.std.specs.Prelude.{ℕ, List, Bool, Option, is_some}
use Rattle.cj_spans.specs.Meaning.Tree.{Tree}
use Rattle.cj_stream.specs.Meaning.Lines.{Line, raw}

-- a line, the tree that it spells, and, if it is a feature, the tree of its header
pub record Item : Type 0 where
  pub line : Line
  pub tree : Tree
  pub header : Option Tree

-- the bytes of an item are those of its line
abbrev pub raw_item : Item → List ℕ
raw_item i = raw i.line

-- an item is a feature, or else the header
abbrev pub is_feature : Item → Bool
is_feature i = is_some i.header
