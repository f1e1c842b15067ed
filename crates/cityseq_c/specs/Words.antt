-- The texts of reasons and the names of types, by their numbers.
use Rattle.std.specs.Prelude.{◌≡◌, ℕ, List, [], ◌∷◌, ◌++◌, Option, None, Some, length, take, drop, min, nat_eq, codes}
use Rattle.std.specs.Prelude.{if◌then◌else◌}
use Rattle.cj_geometry.specs.Meaning.ObjectTypes.{ObjectRow, object_types}
use Rattle.cj_geometry.specs.ObjectTypes.{type_count}
use Rattle.cj_spans.specs.Meaning.Reason.{code_of}
use Rattle.cj_spans.specs.Meaning.ReasonWords.{words_of}
use Rattle.cj_spans.specs.declared.reason.Reason.{Reason}
use Rattle.cj_spans.specs.declared.reason.Reason.TheVariants.{NoHeader, LineTooLong, NotUtf8, Syntax, TooDeep}
use Rattle.cj_spans.specs.declared.reason.Reason.TheVariants.{MissingMember, DuplicateName, WrongKind, NumberRange}
use Rattle.cj_spans.specs.declared.reason.Reason.TheVariants.{WrongType, WrongVersion, NotEmpty, NotThree, NotWhole}
use Rattle.cj_spans.specs.declared.reason.Reason.TheVariants.{UnknownObjectType, IdNotFound, ChildNotFound}
use Rattle.cj_spans.specs.declared.reason.Reason.TheVariants.{LinkNotMutual, NoParent, UnknownGeometryType, VertexIndex}
use Rattle.cj_spans.specs.declared.reason.Reason.TheVariants.{SemanticsCount, SemanticsIndex, TemplateIndex}
use Rattle.cj_spans.specs.declared.reason.Reason.TheVariants.{BadInstance, TransformNotFixed, NotReached}

-- all reasons
abbrev pub reasons : List Reason
reasons =
    NoHeader ∷ LineTooLong ∷ NotUtf8 ∷ Syntax ∷ TooDeep ∷ MissingMember ∷ DuplicateName ∷ WrongKind ∷ NumberRange
    ∷ WrongType ∷ WrongVersion ∷ NotEmpty ∷ NotThree
    ∷ NotWhole ∷ UnknownObjectType ∷ IdNotFound ∷ ChildNotFound ∷ LinkNotMutual ∷ NoParent ∷ UnknownGeometryType
    ∷ VertexIndex ∷ SemanticsCount ∷ SemanticsIndex
    ∷ TemplateIndex ∷ BadInstance ∷ TransformNotFixed ∷ NotReached ∷ []

-- the first of these that has a code, if one has
abbrev pub reason_in : ℕ → List Reason → Option Reason
reason_in code [] = None
reason_in code (r ∷ rs) = if nat_eq (code_of r) code then Some r else reason_in code rs

abbrev pub reason_with : ℕ → Option Reason
reason_with code = reason_in code reasons

-- the text of a reason; empty where there is none
abbrev pub words_by : Option Reason → List ℕ
words_by None = []
words_by (Some r) = words_of r

abbrev pub reason_words : ℕ → List ℕ
reason_words code = words_by (reason_with code)

-- the name of the first of these that has a number; where none has, that of the number behind those of the table, which
-- is of all types of extensions, and else empty
abbrev pub name_in : ℕ → List ObjectRow → List ℕ
name_in number [] = if nat_eq number type_count then codes "extension" else []
name_in number (row ∷ rows) = if nat_eq row.number number then row.name else name_in number rows

abbrev pub type_words : ℕ → List ℕ
type_words number = name_in number object_types

-- a text was copied to a buffer as far as it fits, and `size` is its whole length
pub record IsCopied (text old new : List ℕ) (size : ℕ) : Type 0 where
  pub copied : new ≡ take (min (length text) (length old)) text ++ drop (min (length text) (length old)) old
  pub length : size ≡ length text
