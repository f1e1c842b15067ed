-- What reading the parts of a query answers.
use Rattle.std.specs.Prelude.{◌≡◌, ◌⊎◌, ℕ, ◌<◌, List, Bool, true, Option, Some, None, Result, Ok, Err, length, option_map}
use Rattle.std.specs.Prelude.{IsOk}
use Rattle.std.specs.Borrow.{Bor}
use Rattle.cj_stream.specs.Adding.{has_extension, no_types, with_types}
use Rattle.cj_stream.specs.declared.query.fault.QueryFault.{QueryFault}
use Rattle.cj_stream.specs.declared.query.fault.QueryFault.TheVariants.{Memory as NoMemory, UnknownTypeName, BadBox}
use Rattle.cj_stream.specs.declared.query.fault.QueryFault.TheVariants.{BoxRange, EmptyBox}
use Rattle.cityseq_c.specs.Request.{fault_of, ids_asked, items, lods_asked, text_asked, types_asked, HasFault, IsFit}
use Rattle.cityseq_c.specs.declared.request.Fault.TheVariants.{UnknownType}
use Rattle.cityseq_c.specs.declared.request.Fault.{Fault as WrongFault}
use Rattle.cityseq_c.specs.declared.request.NotJudged.{NotJudged}
use Rattle.cityseq_c.specs.declared.request.NotJudged.TheVariants.{Fault, Memory}
use Rattle.cityseq_c.specs.declared.request.Request.{Request}

-- a text was read as this says
abbrev pub Reads : Result (Option (List ℕ)) WrongFault → Result (Option (Bor (List ℕ))) NotJudged → Type 0
Reads asked (Ok text) = asked ≡ Ok (option_map (λ (t : Bor (List ℕ)). t.now) text)
Reads asked (Err (Fault fault)) = asked ≡ Err fault
Reads asked (Err Memory) = ⊥

-- texts are asked for, and there are some
abbrev pub AsksTexts : Result (Option (List (List ℕ))) WrongFault → Type 0
AsksTexts (Ok (Some texts)) = 0 < length texts
AsksTexts (Ok None) = ⊥
AsksTexts (Err fault) = ⊥

-- a part of texts is declined for what is wrong with it, or for want of memory for its texts
abbrev pub DeclinesTexts : Result (Option (List (List ℕ))) WrongFault → NotJudged → Type 0
DeclinesTexts asked (Fault fault) = asked ≡ Err fault
DeclinesTexts asked Memory = AsksTexts asked

-- names of types are asked for, and memory for that of a type of an extension
abbrev pub AsksExtensions : Bool → Result (Option (List ℕ)) WrongFault → Type 0
AsksExtensions extensions (Ok (Some text)) = has_extension extensions (items text) ≡ true
AsksExtensions extensions (Ok None) = ⊥
AsksExtensions extensions (Err fault) = ⊥

-- why nothing is judged where a query declines a name; of a name it declines nothing but this or memory
abbrev pub type_fault : QueryFault → NotJudged
type_fault NoMemory = Memory
type_fault UnknownTypeName = Fault UnknownType
type_fault BadBox = Fault UnknownType
type_fault BoxRange = Fault UnknownType
type_fault EmptyBox = Fault UnknownType

-- names are declined for one that no type has, or for want of memory for a text
abbrev pub DeclinesNames : Bool → List (List ℕ) → NotJudged → Type 0
DeclinesNames extensions names (Fault fault) =
    (fault ≡ UnknownType) × (with_types extensions names no_types ≡ None)
DeclinesNames extensions names Memory = has_extension extensions names ≡ true

-- the part on types is declined for what is wrong with it, or for want of memory for a text
abbrev pub DeclinesTypes : Request → NotJudged → Type 0
DeclinesTypes r (Fault fault) = types_asked r ≡ Err fault
DeclinesTypes r Memory = AsksExtensions r.extensions (text_asked r.asks_types r.types.now)

-- another part is declined for what is wrong with it alone
abbrev pub DeclinesPart : {A : Type 0} → Result A WrongFault → NotJudged → Type 0
DeclinesPart asked (Fault fault) = asked ≡ Err fault
DeclinesPart asked Memory = ⊥

-- memory is wanted for ids; for a type of an extension, which comes after ids with which nothing is wrong; or for LoDs,
-- which come after ids and types with which nothing is wrong
abbrev pub WantsMemory : Request → Type 0
WantsMemory r = AsksTexts (ids_asked r) ⊎ (IsOk (ids_asked r)
    × (DeclinesTypes r Memory ⊎ (IsOk (types_asked r) × AsksTexts (lods_asked r))))

-- a query is declined for the first fault of its parts, or for want of memory for texts that come before that
abbrev pub DeclinesQuery : Request → NotJudged → Type 0
DeclinesQuery r (Fault fault) = fault_of r ≡ Some fault
DeclinesQuery r Memory = WantsMemory r

-- a stream is not judged for this fault; or for want of memory, where nothing is wrong, or for texts of the query that
-- come before what is
abbrev pub DeclinesCall : Request → List ℕ → List ℕ → NotJudged → Type 0
DeclinesCall r header part (Fault fault) = HasFault r header part fault
DeclinesCall r header part Memory = IsFit r header part × ((fault_of r ≡ None) ⊎ WantsMemory r)
