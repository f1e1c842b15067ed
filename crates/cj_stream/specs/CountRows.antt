-- Small counts: of failures, and of classes of LoDs.
use Rattle.std.specs.Prelude.{◌≡◌, ◌-◌, ◌^◌, [], ◌∷◌, None, Some, codes, replicate}
use Rattle.cj_spans.specs.Meaning.Tree.{Tree}
use Rattle.cj_stream.specs.QueryRows.{string, geometry, city_object, feature, plain_header}
use Rattle.cj_stream.specs.Sink.{HasRisen}
use Rattle.cj_stream.specs.Tallied.{class_of, lod_classes}
use Rattle.cj_stream.specs.TallySink.{RisesBy}

-- one failure more; as many as before are no rise, but at the greatest u64; and fewer are none
abbrev pub RiseRows : Type 0
RiseRows =
    HasRisen 0 1
    × ¬ HasRisen 0 0
    × ¬ HasRisen 1 0
    × HasRisen (2 ^ 64 - 1) (2 ^ 64 - 1)

-- a class goes by the first character: 0 to 4 for the digits `0` to `4`, and 5 for any other and for none
abbrev pub ClassRows : Type 0
ClassRows =
    (class_of (Some (string (codes "0"))) ≡ 0)
    × (class_of (Some (string (codes "1.2"))) ≡ 1)
    × (class_of (Some (string (codes "4.9"))) ≡ 4)
    × (class_of (Some (string (codes "5"))) ≡ 5)
    × (class_of (Some (string (codes "/"))) ≡ 5)
    × (class_of (Some (string [])) ≡ 5)
    × (class_of None ≡ 5)

-- a building with geometries of LoDs 0 and 4, and a road with one of LoD 5
abbrev pub three_classes : Tree
three_classes =
    feature ((codes "b", city_object (codes "Building") (geometry (codes "0") ∷ geometry (codes "4") ∷ []))
    ∷ (codes "r", city_object (codes "Road") (geometry (codes "5") ∷ [])) ∷ []) []

-- its geometries are counted once each, those of LoD 5 as other ones
abbrev pub LodRows : Type 0
LodRows =
    (lod_classes plain_header three_classes ≡ 0 ∷ 4 ∷ 5 ∷ [])
    × RisesBy 6 (replicate 6 0) (lod_classes plain_header three_classes) (1 ∷ 0 ∷ 0 ∷ 0 ∷ 1 ∷ 1 ∷ [])
    × ¬ RisesBy 6 (replicate 6 0) (lod_classes plain_header three_classes) (0 ∷ 0 ∷ 0 ∷ 0 ∷ 1 ∷ 1 ∷ [])
    × ¬ RisesBy 6 (replicate 6 0) (lod_classes plain_header three_classes) (1 ∷ 0 ∷ 0 ∷ 0 ∷ 0 ∷ 1 ∷ [])
    × ¬ RisesBy 6 (replicate 6 0) (lod_classes plain_header three_classes) (1 ∷ 0 ∷ 0 ∷ 0 ∷ 1 ∷ 0 ∷ [])
