-- Worked rows of the definitions, which compute.
use Rattle.std.specs.Prelude.{◌≡◌, ℕ, List, [], ◌∷◌, ◌++◌, true, false, None, codes, map}
use Rattle.cj_spans.specs.declared.token.Kind.TheVariants.{Null}
use Rattle.cj_spans.specs.Meaning.Json.{atom_at}
use Rattle.cj_spans.specs.Meaning.Signs.{carriage_return, newline}
use Rattle.cj_spans.specs.Meaning.Tree.{scalar, object, no_members, member}
use Rattle.cj_feature.specs.Examples.{Row, itself, number_at, row, text}
use Rattle.cj_stream.specs.GoingRows.{going}
use Rattle.cj_stream.specs.Item.{item_at, tree_of}
use Rattle.cj_stream.specs.Meaning.Lines.{ended_line}
use Rattle.cj_stream.specs.Rows.{small_feature, small_header, wide_rules}
use Rattle.cj_stream.specs.Meaning.Rules.{Rules}
use Rattle.cityseq_c.specs.Cutting.{part_end}
use Rattle.cityseq_c.specs.FaultPlace.{empty_item, first_number, first_text}
use Rattle.cityseq_c.specs.Features.{HasSpan, IsRecordOf, Spot, attributes_in, bits, is_among, spots}
use Rattle.cityseq_c.specs.Tally.{shown_range}
use Rattle.cityseq_c.specs.declared.fault_place.ItemRule.TheVariants.{Number, TypeName, Utf8}
use Rattle.cityseq_c.specs.declared.features.record_of.FeatureRecord.{FeatureRecord}

-- the line of each feature that is kept of a text, and where that begins in the part
abbrev pub places : Rules → List ℕ → List (ℕ × ℕ)
places rules text = map (λ x. (x.line, x.begin)) (spots rules text)

-- a header alone has no feature
abbrev pub AloneRow : Type 0
AloneRow = places wide_rules (small_header ++ newline ∷ []) ≡ []

-- a feature behind a blank line of one byte
abbrev pub BlankRow : Type 0
BlankRow = places wide_rules (small_header ++ newline ∷ carriage_return ∷ newline ∷ small_feature) ≡ (3, 2) ∷ []

-- a feature behind an invalid line of 27 bytes, where reading goes on
abbrev pub BetweenRow : Type 0
BetweenRow = places (going wide_rules)
    (small_header ++ newline ∷ (codes "{\"type\":\"CityJSONFeature\",}" ++ newline ∷ small_feature)) ≡ (3, 28) ∷ []

-- the small feature at the beginning of a part, and its record
abbrev pub small_spot : Spot
small_spot = record {
  line = 2;
  begin = 0;
  item = item_at 64 2 (tree_of 64 small_header) (ended_line small_feature);
}

abbrev pub small_record : FeatureRecord
small_record = record {
  line = 2;
  begin = 0;
  length = 89;
  id_begin = 31;
  id_length = 3;
  attributes_begin = 0;
  attributes_length = 0;
  objects = 1;
  geometries = 0;
  types = 2;
  lods = 0;
  ranges = shown_range None ∷ shown_range None ∷ shown_range None ∷ [];
}

-- this is its record, and no other number of city objects is
abbrev pub RecordRow : Type 0
RecordRow = IsRecordOf small_spot small_record × ¬ IsRecordOf small_spot (record small_record { objects = 2 })

-- a feature whose main city object comes second and has two members `attributes`, and one that has none
abbrev pub furnished : Row
furnished =
    row (codes "\"a\":{\"type\":\"Road\",\"attributes\":7},\"b\":{\"type\":\"Road\",\"attributes\":{},\"attributes\":null}")
    (λ line. member (atom_at line 50 53) (object 54 84 (member (atom_at line 55 61) (text line 62 68)
    (member (atom_at line 69 81) (number_at line 82 83) no_members)))
    (member (atom_at line 85 88) (object 89 138 (member (atom_at line 90 96) (text line 97 103)
    (member (atom_at line 104 116) (object 117 119 no_members)
    (member (atom_at line 120 132) (scalar Null (atom_at line 133 137)) no_members)))) no_members))

-- the first two bytes of these are shown, and neither those of the other city object nor the second ones
abbrev pub AttributesRow : Type 0
AttributesRow =
    HasSpan furnished.line (attributes_in furnished.tree) 117 2
    × ¬ HasSpan furnished.line (attributes_in furnished.tree) 82 1
    × ¬ HasSpan furnished.line (attributes_in furnished.tree) 133 4
    × HasSpan itself.line (attributes_in itself.tree) 0 0

-- The second of three names is no type's. Of two names, the first is of an extension, and is no type's where these are
-- unknown; else the second is not. The third of three texts is not UTF-8. A box lacks its third number, and another one
-- its fourth. Boxes are empty on x and on y.
abbrev pub FaultRow : Type 0
FaultRow =
    (first_text (TypeName false) (codes "Road" ++ newline ∷ (codes "Hut" ++ newline ∷ codes "Hut")) ≡ 1)
    × (first_text (TypeName false) (codes "+Hut" ++ newline ∷ codes "Hut") ≡ 0)
    × (first_text (TypeName true) (codes "+Hut" ++ newline ∷ codes "Hut") ≡ 1)
    × (first_text Utf8 (97 ∷ newline ∷ newline ∷ 255 ∷ []) ≡ 2)
    × (first_number Number (codes "0,1,,1") ≡ 2)
    × (first_number Number (codes "0,1,0") ≡ 3)
    × (empty_item (codes "1,0,0,1") ≡ 0)
    × (empty_item (codes "0,1,0,0") ≡ 1)

-- a building, a part and another building; and no city object
abbrev pub BitRow : Type 0
BitRow = (bits (is_among (1 ∷ 24 ∷ 1 ∷ [])) 33 ≡ 16777218) × (bits (is_among []) 33 ≡ 0)

-- where parts are cut of a line of two bytes, one of none and a begun one: behind both lines, behind the first, and
-- behind the first although it is longer than wanted; and one byte without LF is not cut
abbrev pub CutRow : Type 0
CutRow =
    let text = 97 ∷ 98 ∷ 10 ∷ 10 ∷ 99 ∷ [] in
    (part_end text 5 ≡ 4) × (part_end text 3 ≡ 3) × (part_end text 2 ≡ 3) × (part_end (99 ∷ []) 1 ≡ 0)
