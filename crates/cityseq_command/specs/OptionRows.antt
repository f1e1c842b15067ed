-- The criteria that small texts of options make.
use Rattle.std.specs.Prelude.{◌≡◌, [], ◌∷◌, true, false, None, Some, Ok, Err, codes, slice_set}
use Rattle.cj_stream.specs.Meaning.Criteria.{ChosenTypes}
use Rattle.cj_stream.specs.Usual.{everything}
use Rattle.cj_stream.specs.Adding.{no_types}
use Rattle.cj_stream.specs.BoxRows.{ones}
use Rattle.cj_stream.specs.declared.query.fault.QueryFault.TheVariants.{UnknownTypeName, BadBox, EmptyBox}
use Rattle.cityseq_command.specs.Options.{Texts, criteria_by}

-- no option is given
abbrev pub no_texts : Texts
no_texts = record { ids = None; types = None; lods = None; box = None }

-- the flag of the type `Building` alone, and this type with one of an extension
abbrev pub buildings : ChosenTypes
buildings = record no_types { known = slice_set no_types.known 1 true }

abbrev pub buildings_and_sheds : ChosenTypes
buildings_and_sheds = record buildings { extensions = codes "+Shed" ∷ [] }

-- without an option every feature is wanted
abbrev pub NothingRow : Type 0
NothingRow = criteria_by false no_texts ≡ Ok everything

-- ids stand in the order in which they are given, and the empty text is one id
abbrev pub IdRows : Type 0
IdRows =
    (criteria_by false (record no_texts { ids = Some (codes "b2,b1") })
    ≡ Ok (record everything { ids = Some (codes "b2" ∷ codes "b1" ∷ []) }))
    × (criteria_by false (record no_texts { ids = Some [] }) ≡ Ok (record everything { ids = Some ([] ∷ []) }))

-- levels of detail are texts too
abbrev pub LodRow : Type 0
LodRow = criteria_by false (record no_texts { lods = Some (codes "2.2,1") })
    ≡ Ok (record everything { lods = Some (codes "2.2" ∷ codes "1" ∷ []) })

-- types are known by their names: no type has the empty name, and none has one that begins with `+`, where types of
-- extensions are unknown
abbrev pub TypeRows : Type 0
TypeRows =
    (criteria_by false (record no_texts { types = Some (codes "Building") })
    ≡ Ok (record everything { types = Some buildings }))
    × (criteria_by false (record no_texts { types = Some (codes "Building,") }) ≡ Err UnknownTypeName)
    × (criteria_by false (record no_texts { types = Some (codes "+Shed") }) ≡ Err UnknownTypeName)

-- where they are known, each name that begins with `+` is that of a type, be it nothing but the sign; other names stay
-- unknown
abbrev pub ExtensionRows : Type 0
ExtensionRows =
    (criteria_by true (record no_texts { types = Some (codes "+Shed,Building") })
    ≡ Ok (record everything { types = Some buildings_and_sheds }))
    × (criteria_by true (record no_texts { types = Some (codes "+") })
    ≡ Ok (record everything { types = Some (record no_types { extensions = codes "+" ∷ [] }) }))
    × (criteria_by true (record no_texts { types = Some (codes "Building") })
    ≡ Ok (record everything { types = Some buildings }))
    × (criteria_by true (record no_texts { types = Some (codes "+Shed,Shed") }) ≡ Err UnknownTypeName)
    × (criteria_by true (record no_texts { types = Some (codes "Shed+") }) ≡ Err UnknownTypeName)

-- the box ends before it begins
abbrev pub BoxRow : Type 0
BoxRow = criteria_by false (record no_texts { box = Some (codes "3,0,1,1") }) ≡ Err EmptyBox

-- a type that is declined comes before a box that is declined
abbrev pub OrderRows : Type 0
OrderRows =
    (criteria_by false (record no_texts { types = Some (codes "Building"); box = Some (codes "1") }) ≡ Err BadBox)
    × (criteria_by false (record no_texts { types = Some (codes "+Shed"); box = Some (codes "1") })
    ≡ Err UnknownTypeName)

-- all options at once
abbrev pub AllRow : Type 0
AllRow =
    criteria_by false (record {
      ids = Some (codes "b1");
      types = Some (codes "Building");
      lods = Some (codes "1");
      box = Some (codes "1001,2001,1005,2005");
    })
    ≡ Ok (record {
      ids = Some (codes "b1" ∷ []);
      types = Some buildings;
      lods = Some (codes "1" ∷ []);
      box = Some (record { min_x = ones 1001; min_y = ones 2001; max_x = ones 1005; max_y = ones 2005 });
    })
