-- What C asks for, and what is wrong with it.
use Rattle.std.specs.Prelude.{◌≡◌, ◌⊎◌, ℕ, ◌+◌, ◌^◌, ◌<◌, ◌≤◌, List, [], ◌∷◌, ◌++◌, Bool, true, false, if◌then◌else◌}
use Rattle.std.specs.Prelude.{nat_eq, nat_le, length, max, min, Option, Some, None, Result, Ok, Err, option_map}
use Rattle.std.specs.List.{slice_split}
use Rattle.std.specs.Str.{is_utf8}
use Rattle.cj_budget.specs.Limits.{InLine, InDepth}
use Rattle.cj_budget.specs.Meaning.Limits.{LimitPair}
use Rattle.cj_stream.specs.Adding.{no_types, with_types}
use Rattle.cj_stream.specs.BoxText.{box_text}
use Rattle.cj_stream.specs.Meaning.Criteria.{Criteria, ChosenTypes, Box}
use Rattle.cj_stream.specs.Lines.{NoLf}
use Rattle.cj_stream.specs.Meaning.Lines.{newline}
use Rattle.cj_stream.specs.Meaning.Rules.{OptionSet, Rules}
use Rattle.cj_stream.specs.declared.query.fault.QueryFault.{QueryFault}
use Rattle.cj_stream.specs.declared.query.fault.QueryFault.TheVariants.{Memory, UnknownTypeName, BadBox as BadBoxText}
use Rattle.cj_stream.specs.declared.query.fault.QueryFault.TheVariants.{BoxRange as BoxTextRange}
use Rattle.cj_stream.specs.declared.query.fault.QueryFault.TheVariants.{EmptyBox as EmptyBoxText}
use Rattle.cityseq_c.specs.declared.request.Fault.{Fault}
use Rattle.cityseq_c.specs.declared.request.Fault.TheVariants.{LineLimit, DepthLimit, NoLine, NotUtf8, UnknownType}
use Rattle.cityseq_c.specs.declared.request.Fault.TheVariants.{BadBox, BoxRange, EmptyBox, TooLong}
use Rattle.cityseq_c.specs.declared.request.Request.{Request}

-- the number that stands for a fault
abbrev pub fault_code : Fault → ℕ
fault_code LineLimit = 1
fault_code DepthLimit = 2
fault_code NoLine = 3
fault_code NotUtf8 = 4
fault_code UnknownType = 5
fault_code BadBox = 6
fault_code BoxRange = 7
fault_code EmptyBox = 8
fault_code TooLong = 9

-- ---- the parts of a query

-- the texts that stand between the LFs of a text; none where it is empty
abbrev pub items : List ℕ → List (List ℕ)
items [] = []
items (b ∷ s) = slice_split (λ c. nat_eq c newline) (b ∷ s)

-- a text, if it is asked for; it has to be UTF-8
abbrev pub text_asked : Bool → List ℕ → Result (Option (List ℕ)) Fault
text_asked false s = Ok None
text_asked true s = if is_utf8 s then Ok (Some s) else Err NotUtf8

-- the texts of a list
abbrev pub texts_by : Result (Option (List ℕ)) Fault → Result (Option (List (List ℕ))) Fault
texts_by (Ok text) = Ok (option_map items text)
texts_by (Err fault) = Err fault

-- the types of names
abbrev pub types_or_fault : Option ChosenTypes → Result (Option ChosenTypes) Fault
types_or_fault None = Err UnknownType
types_or_fault (Some types) = Ok (Some types)

abbrev pub types_by : Bool → Result (Option (List ℕ)) Fault → Result (Option ChosenTypes) Fault
types_by extensions (Ok None) = Ok None
types_by extensions (Ok (Some text)) = types_or_fault (with_types extensions (items text) no_types)
types_by extensions (Err fault) = Err fault

-- what is wrong with the text of a box; it is never want of memory
abbrev pub box_fault : QueryFault → Fault
box_fault BadBoxText = BadBox
box_fault BoxTextRange = BoxRange
box_fault EmptyBoxText = EmptyBox
box_fault UnknownTypeName = UnknownType
box_fault Memory = BadBox

abbrev pub edges_by : Result Box QueryFault → Result (Option Box) Fault
edges_by (Ok box) = Ok (Some box)
edges_by (Err fault) = Err (box_fault fault)

abbrev pub box_by : Result (Option (List ℕ)) Fault → Result (Option Box) Fault
box_by (Ok None) = Ok None
box_by (Ok (Some text)) = edges_by (box_text text)
box_by (Err fault) = Err fault

-- what each part of a request asks for, or what is wrong with it
abbrev pub ids_asked : Request → Result (Option (List (List ℕ))) Fault
ids_asked r = texts_by (text_asked r.asks_ids r.ids.now)

abbrev pub types_asked : Request → Result (Option ChosenTypes) Fault
types_asked r = types_by r.extensions (text_asked r.asks_types r.types.now)

abbrev pub lods_asked : Request → Result (Option (List (List ℕ))) Fault
lods_asked r = texts_by (text_asked r.asks_lods r.lods.now)

abbrev pub box_asked : Request → Result (Option Box) Fault
box_asked r = box_by (text_asked r.asks_box r.bbox.now)

-- these criteria are what a request asks for
pub record AsksFor (r : Request) (c : Criteria) : Type 0 where
  pub ids : ids_asked r ≡ Ok c.ids
  pub types : types_asked r ≡ Ok c.types
  pub lods : lods_asked r ≡ Ok c.lods
  pub box : box_asked r ≡ Ok c.box

-- a fault of a part, or else of those after it
abbrev pub or_fault : {A : Type 0} → Result A Fault → Option Fault → Option Fault
or_fault (Ok x) later = later
or_fault (Err fault) later = Some fault

-- the first fault of the parts, in this order
abbrev pub fault_of : Request → Option Fault
fault_of r = or_fault (ids_asked r) (or_fault (types_asked r) (or_fault (lods_asked r) (or_fault (box_asked r) None)))

-- ---- all that is asked

abbrev pub options_of : Request → OptionSet
options_of r =
    record { keep_going = r.keep_going; all_reached = r.tree; exclude = r.exclude; extensions = r.extensions }

-- a header and a part are cut behind the first line: the header is a line that LF ends; or the first line that LF does
-- not end, and there is no more
abbrev pub AreCut : List ℕ → List ℕ → Type 0
AreCut header part = ((h : List ℕ) × NoLf h × (header ≡ h ++ newline ∷ [])) ⊎ (NoLf header × (part ≡ []))

-- the line limit that is needed for a header and a part of these lengths: no line is longer than the longer one of
-- these
abbrev pub needed_line : ℕ → ℕ → ℕ → ℕ
needed_line line_limit header part = min line_limit (max 1 (max header part))

abbrev pub needed_limits : LimitPair → List ℕ → List ℕ → LimitPair
needed_limits asked header part =
    record { line = needed_line asked.line (length header) (length part); depth = asked.depth }

-- the bytes of the stack that a caller has to have for a call under a line limit
abbrev pub stack_bytes : ℕ → ℕ
stack_bytes line_limit = if nat_le line_limit 65536 then 131072 else 2097152

-- limits are in their ranges, and a header and a part are cut so and have at most 2^60 bytes
pub record IsFit (r : Request) (header part : List ℕ) : Type 0 where
  pub line : InLine r.line_limit
  pub depth : InDepth r.depth_limit
  pub cut : AreCut header part
  pub short : length header + length part ≤ 2 ^ 60

-- the rules that a request asks lines to be judged by
pub record IsAsked (r : Request) (rules : Rules) : Type 0 where
  pub limits : rules.limits ≡ record { line = r.line_limit; depth = r.depth_limit }
  pub criteria : AsksFor r rules.criteria
  pub options : rules.options ≡ options_of r

-- a request over a header and a part has this fault: the first of its limits, the length, the cut, and the parts of the
-- query
abbrev pub HasFault : Request → List ℕ → List ℕ → Fault → Type 0
HasFault r header part LineLimit = ¬ InLine r.line_limit
HasFault r header part DepthLimit = InLine r.line_limit × ¬ InDepth r.depth_limit
HasFault r header part TooLong = InLine r.line_limit × InDepth r.depth_limit × (2 ^ 60 < length header + length part)
HasFault r header part NoLine = InLine r.line_limit × InDepth r.depth_limit × (length header + length part ≤ 2 ^ 60)
    × ¬ AreCut header part
HasFault r header part NotUtf8 = IsFit r header part × (fault_of r ≡ Some NotUtf8)
HasFault r header part UnknownType = IsFit r header part × (fault_of r ≡ Some UnknownType)
HasFault r header part BadBox = IsFit r header part × (fault_of r ≡ Some BadBox)
HasFault r header part BoxRange = IsFit r header part × (fault_of r ≡ Some BoxRange)
HasFault r header part EmptyBox = IsFit r header part × (fault_of r ≡ Some EmptyBox)
