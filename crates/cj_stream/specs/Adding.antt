-- What is asked once a part is set or grows: the other parts stay.
use Rattle.std.specs.Prelude.{◌≡◌, ℕ, List, [], ◌∷◌, ◌++◌, Bool, true, false, ◌&&◌, ◌||◌, replicate, slice_set}
use Rattle.std.specs.Prelude.{Option, None, Some, Result, Ok, Err, is_some, nat_eq, option_and_then, option_map, unwrap_or}
use Rattle.std.specs.List.{slice_split}
use Rattle.cj_budget.specs.Counts.{one_more_failure}
use Rattle.cj_geometry.specs.Meaning.ObjectTypes.{ObjectRow, begins_with_plus}
use Rattle.cj_geometry.specs.ObjectTypes.{row_named, type_count}
use Rattle.cj_stream.specs.Meaning.Criteria.{Criteria, ChosenTypes, Box}
use Rattle.cj_stream.specs.declared.query.fault.QueryFault.{QueryFault}
use Rattle.cj_stream.specs.declared.query.fault.QueryFault.TheVariants.{Memory, UnknownTypeName, BadBox, BoxRange}
use Rattle.cj_stream.specs.declared.query.fault.QueryFault.TheVariants.{EmptyBox}

-- one more text at the end of a part, which is empty before where it was not set
abbrev pub with_text : List ℕ → Option (List (List ℕ)) → Option (List (List ℕ))
with_text s part = Some (unwrap_or part [] ++ s ∷ [])

abbrev pub with_id : List ℕ → Criteria → Criteria
with_id s criteria = record criteria { ids = with_text s criteria.ids }

abbrev pub with_lod : List ℕ → Criteria → Criteria
with_lod s criteria = record criteria { lods = with_text s criteria.lods }

-- this box, in place of an earlier one
abbrev pub with_box : Box → Criteria → Criteria
with_box box criteria = record criteria { box = Some box }

-- the items of a list: what stands between the separators of a text
abbrev pub parted : ℕ → List ℕ → List (List ℕ)
parted separator s = slice_split (λ b. nat_eq b separator) s

-- ---- types

-- no flag is set, and there is no text
abbrev pub no_types : ChosenTypes
no_types = record { known = replicate type_count false; extensions = [] }

-- a name is that of a type of an extension, where these are known: the first byte is the plus sign
abbrev pub is_extension : Bool → List ℕ → Bool
is_extension extensions name = extensions && begins_with_plus name

-- a name is that of a type: it is in the table, or it is that of a type of an extension
abbrev pub is_type : Bool → List ℕ → Bool
is_type extensions name = is_some (row_named name) || is_extension extensions name

-- the types and one more: a flag where the name has a row, else a text where it is that of a type of an extension
abbrev pub with_name : Option ObjectRow → Bool → List ℕ → ChosenTypes → Option ChosenTypes
with_name (Some row) extension name types = Some (record types { known = slice_set types.known row.number true })
with_name None true name types = Some (record types { extensions = types.extensions ++ name ∷ [] })
with_name None false name types = None

-- the types and that of this name; none where no type has the name
abbrev pub with_type : Bool → List ℕ → ChosenTypes → Option ChosenTypes
with_type extensions name types = with_name (row_named name) (is_extension extensions name) name types

-- the types and those of these names; none where no type has one of the names
abbrev pub with_types : Bool → List (List ℕ) → ChosenTypes → Option ChosenTypes
with_types extensions [] types = Some types
with_types extensions (name ∷ names) types =
    option_and_then (with_types extensions names) (with_type extensions name types)

-- a part on types with that of this name too, which is empty before where it was not set
abbrev pub with_type_in : Bool → List ℕ → Option ChosenTypes → Option (Option ChosenTypes)
with_type_in extensions name part =
    option_map (λ (types : ChosenTypes). Some types) (with_type extensions name (unwrap_or part no_types))

-- what is asked with the type of this name too, and with those of these names alone
abbrev pub adding_type : Bool → List ℕ → Criteria → Option Criteria
adding_type extensions name criteria =
    option_map (λ (part : Option ChosenTypes). record criteria { types = part })
    (with_type_in extensions name criteria.types)

abbrev pub setting_types : Bool → List (List ℕ) → Criteria → Option Criteria
setting_types extensions names criteria = option_map (λ (types : ChosenTypes). record criteria { types = Some types })
    (with_types extensions names no_types)

-- a name is declined: no type has it, or memory was refused to its text
abbrev pub DeclinesType : Bool → List ℕ → QueryFault → Type 0
DeclinesType extensions name UnknownTypeName = is_type extensions name ≡ false
DeclinesType extensions name Memory = is_extension extensions name ≡ true
DeclinesType extensions name BadBox = ⊥
DeclinesType extensions name BoxRange = ⊥
DeclinesType extensions name EmptyBox = ⊥

-- some name is that of a type of an extension, and those before it are names of types
abbrev pub has_extension : Bool → List (List ℕ) → Bool
has_extension extensions [] = false
has_extension extensions (name ∷ names) = is_type extensions name
    && (is_extension extensions name || has_extension extensions names)

-- names are declined: no type has one of them, or memory was refused to a text
abbrev pub DeclinesTypes : Bool → List (List ℕ) → QueryFault → Type 0
DeclinesTypes extensions names UnknownTypeName = with_types extensions names no_types ≡ None
DeclinesTypes extensions names Memory = has_extension extensions names ≡ true
DeclinesTypes extensions names BadBox = ⊥
DeclinesTypes extensions names BoxRange = ⊥
DeclinesTypes extensions names EmptyBox = ⊥

-- a count of failed growths after an answer: one more where memory was refused
abbrev pub counted_memory : ℕ → Result (Unit {0}) QueryFault → ℕ
counted_memory n (Ok x) = n
counted_memory n (Err Memory) = one_more_failure n
counted_memory n (Err UnknownTypeName) = n
counted_memory n (Err BadBox) = n
counted_memory n (Err BoxRange) = n
counted_memory n (Err EmptyBox) = n
