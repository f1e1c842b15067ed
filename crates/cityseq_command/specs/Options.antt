-- The criteria that the options of `filter` make.
use Rattle.std.specs.Prelude.{◌≡◌, ◌⊎◌, ℕ, List, Bool, true, Option, Some, None, Result, Ok, Err, IsSome, IsOk, option_copied}
use Rattle.std.specs.Prelude.{option_map}
use Rattle.cj_stream.specs.Meaning.Criteria.{Criteria, ChosenTypes, Box}
use Rattle.cj_stream.specs.Adding.{has_extension, no_types, with_types}
use Rattle.cj_stream.specs.BoxText.{fields, box_text}
use Rattle.cj_stream.specs.declared.query.fault.QueryFault.{QueryFault}
use Rattle.cj_stream.specs.declared.query.fault.QueryFault.TheVariants.{Memory, UnknownTypeName, BadBox, BoxRange}
use Rattle.cj_stream.specs.declared.query.fault.QueryFault.TheVariants.{EmptyBox}
use Rattle.cityseq_command.specs.declared.words.QueryTexts.{QueryTexts}

-- the texts of the options of a query that were given
pub record Texts : Type 0 where
  pub ids : Option (List ℕ)
  pub types : Option (List ℕ)
  pub lods : Option (List ℕ)
  pub box : Option (List ℕ)

-- the same, as the program has them
abbrev pub texts_of : QueryTexts → Texts
texts_of t = record {
  ids = option_copied t.ids;
  types = option_copied t.types;
  lods = option_copied t.lods;
  box = option_copied t.bbox;
}

-- the types that an option names, between its commas, where types of extensions are known or not; or its fault
abbrev pub types_or_fault : Option ChosenTypes → Result (Option ChosenTypes) QueryFault
types_or_fault None = Err UnknownTypeName
types_or_fault (Some types) = Ok (Some types)

abbrev pub types_wanted : Bool → Option (List ℕ) → Result (Option ChosenTypes) QueryFault
types_wanted extensions None = Ok None
types_wanted extensions (Some text) = types_or_fault (with_types extensions (fields text) no_types)

-- the box that an option gives, or its fault
abbrev pub box_or_fault : Result Box QueryFault → Result (Option Box) QueryFault
box_or_fault (Ok box) = Ok (Some box)
box_or_fault (Err fault) = Err fault

abbrev pub box_wanted : Option (List ℕ) → Result (Option Box) QueryFault
box_wanted None = Ok None
box_wanted (Some text) = box_or_fault (box_text text)

-- the criteria of these ids and LoDs, types and a box; the first fault of the last two, if there is one
abbrev pub criteria_with : Option (List (List ℕ)) → Option (List (List ℕ)) → Result (Option ChosenTypes) QueryFault
    → Result (Option Box) QueryFault → Result Criteria QueryFault
criteria_with ids lods (Err fault) box = Err fault
criteria_with ids lods (Ok types) (Err fault) = Err fault
criteria_with ids lods (Ok types) (Ok box) = Ok (record { ids = ids; types = types; lods = lods; box = box })

-- the criteria that texts make, where types of extensions are known or not: ids, types and LoDs are what stands between
-- the commas, be it nothing
abbrev pub criteria_by : Bool → Texts → Result Criteria QueryFault
criteria_by extensions t = criteria_with (option_map fields t.ids) (option_map fields t.lods)
    (types_wanted extensions t.types) (box_wanted t.box)

-- memory is wanted for a type of an extension, which comes before any name that is unknown
abbrev pub NamesExtension : Bool → Option (List ℕ) → Type 0
NamesExtension extensions None = ⊥
NamesExtension extensions (Some text) = has_extension extensions (fields text) ≡ true

-- memory is wanted for ids, for a type of an extension, or for LoDs, which come after types that are not declined
abbrev pub WantsMemory : Bool → Texts → Type 0
WantsMemory extensions t = IsSome t.ids
    ⊎ (NamesExtension extensions t.types ⊎ (IsSome t.lods × IsOk (types_wanted extensions t.types)))

-- This is the first fault of the texts, set in the order ids, types, LoDs and box: where memory was refused they
-- want some, and else it is what is wrong with the types or the box.
abbrev pub DeclinesTexts : Bool → Texts → QueryFault → Type 0
DeclinesTexts extensions t Memory = WantsMemory extensions t
DeclinesTexts extensions t UnknownTypeName = criteria_by extensions t ≡ Err UnknownTypeName
DeclinesTexts extensions t BadBox = criteria_by extensions t ≡ Err BadBox
DeclinesTexts extensions t BoxRange = criteria_by extensions t ≡ Err BoxRange
DeclinesTexts extensions t EmptyBox = criteria_by extensions t ≡ Err EmptyBox
