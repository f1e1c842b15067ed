-- The words of reasons.
use Rattle.std.specs.Prelude.{ℕ, List, codes}
use Rattle.cj_spans.specs.declared.reason.Reason.{Reason}
use Rattle.cj_spans.specs.declared.reason.Reason.TheVariants.{NoHeader, LineTooLong, NotUtf8, Syntax, TooDeep}
use Rattle.cj_spans.specs.declared.reason.Reason.TheVariants.{MissingMember, DuplicateName, WrongKind, NumberRange}
use Rattle.cj_spans.specs.declared.reason.Reason.TheVariants.{WrongType, WrongVersion, NotEmpty, NotThree, NotWhole}
use Rattle.cj_spans.specs.declared.reason.Reason.TheVariants.{UnknownObjectType, IdNotFound, ChildNotFound}
use Rattle.cj_spans.specs.declared.reason.Reason.TheVariants.{LinkNotMutual, NoParent, UnknownGeometryType, VertexIndex}
use Rattle.cj_spans.specs.declared.reason.Reason.TheVariants.{SemanticsCount, SemanticsIndex, TemplateIndex}
use Rattle.cj_spans.specs.declared.reason.Reason.TheVariants.{BadInstance, TransformNotFixed, NotReached}

-- the reason in a few words, as bytes
abbrev pub words_of : Reason → List ℕ
words_of NoHeader = codes "no header line"
words_of LineTooLong = codes "line too long"
words_of NotUtf8 = codes "not UTF-8"
words_of Syntax = codes "syntax"
words_of TooDeep = codes "nested too deep"
words_of MissingMember = codes "member missing"
words_of DuplicateName = codes "duplicate name"
words_of WrongKind = codes "wrong kind"
words_of NumberRange = codes "number out of range"
words_of WrongType = codes "wrong type"
words_of WrongVersion = codes "wrong version"
words_of NotEmpty = codes "not empty"
words_of NotThree = codes "not three items"
words_of NotWhole = codes "not a whole number"
words_of UnknownObjectType = codes "unknown object type"
words_of IdNotFound = codes "id not among the city objects"
words_of ChildNotFound = codes "child not found"
words_of LinkNotMutual = codes "link not mutual"
words_of NoParent = codes "no parent in the feature"
words_of UnknownGeometryType = codes "unknown geometry type"
words_of VertexIndex = codes "vertex index out of range"
words_of SemanticsCount = codes "semantics count"
words_of SemanticsIndex = codes "semantics index out of range"
words_of TemplateIndex = codes "template index out of range"
words_of BadInstance = codes "bad instance"
words_of TransformNotFixed = codes "transform not fixed"
words_of NotReached = codes "not reached from the main object"
