-- The codes of reasons: docs/RULES.md. Of two findings at one byte the one with the lower code comes first.
use Rattle.std.specs.Prelude.{ℕ}
use Rattle.cj_spans.specs.declared.reason.Reason.{Reason}
use Rattle.cj_spans.specs.declared.reason.Reason.TheVariants.{NoHeader, LineTooLong, NotUtf8, Syntax, TooDeep}
use Rattle.cj_spans.specs.declared.reason.Reason.TheVariants.{MissingMember, DuplicateName, WrongKind, NumberRange}
use Rattle.cj_spans.specs.declared.reason.Reason.TheVariants.{WrongType, WrongVersion, NotEmpty, NotThree, NotWhole}
use Rattle.cj_spans.specs.declared.reason.Reason.TheVariants.{UnknownObjectType, IdNotFound, ChildNotFound}
use Rattle.cj_spans.specs.declared.reason.Reason.TheVariants.{LinkNotMutual, NoParent, UnknownGeometryType, VertexIndex}
use Rattle.cj_spans.specs.declared.reason.Reason.TheVariants.{SemanticsCount, SemanticsIndex, TemplateIndex}
use Rattle.cj_spans.specs.declared.reason.Reason.TheVariants.{BadInstance, TransformNotFixed, NotReached}

-- the code of a reason
abbrev pub code_of : Reason → ℕ
code_of NoHeader = 1
code_of LineTooLong = 2
code_of NotUtf8 = 3
code_of Syntax = 4
code_of TooDeep = 5
code_of MissingMember = 10
code_of DuplicateName = 11
code_of WrongKind = 12
code_of NumberRange = 13
code_of WrongType = 14
code_of WrongVersion = 15
code_of NotEmpty = 16
code_of NotThree = 17
code_of NotWhole = 18
code_of UnknownObjectType = 19
code_of IdNotFound = 20
code_of ChildNotFound = 21
code_of LinkNotMutual = 22
code_of NoParent = 23
code_of UnknownGeometryType = 24
code_of VertexIndex = 25
code_of SemanticsCount = 26
code_of SemanticsIndex = 27
code_of TemplateIndex = 28
code_of BadInstance = 29
code_of TransformNotFixed = 30
code_of NotReached = 31
