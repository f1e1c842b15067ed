-- The records of the features that are kept: where each stands in a part, and what is in it.
use Rattle.std.specs.Prelude.{◌≡◌, ℕ, zero, suc, ◌+◌, ◌<◌, ◌^◌, List, [], ◌∷◌, ◌++◌, Bool, true, false, Option}
use Rattle.std.specs.Prelude.{Some, None, ℤ, if◌then◌else◌, MatchOption, codes, drop, get_or, length, min, nat_lt}
use Rattle.std.specs.Prelude.{option_and_then, slice_set, take}
use Rattle.std.specs.List.{AllZip, filter, flat_map}
use Rattle.std.specs.Str.{bytes_eq, chars}
use Rattle.cj_spans.specs.Meaning.Parts.{first_named, member_if, member_of, text_of}
use Rattle.cj_spans.specs.Places.{spelling_of}
use Rattle.cj_spans.specs.Meaning.Tree.{Tree, start_of}
use Rattle.cj_feature.specs.Meaning.CityObject.{object_geometries}
use Rattle.cj_stream.specs.Meaning.Criteria.{objects_of}
use Rattle.cj_stream.specs.Items.{Item, is_feature}
use Rattle.cj_stream.specs.Meaning.Lines.{Line, raw, lines}
use Rattle.cj_stream.specs.Lines.{later_of}
use Rattle.cj_stream.specs.Tallied.{IsRange, beside, capped, class_count, how_often, lod_classes, numbers_on}
use Rattle.cj_stream.specs.Tallied.{slot_count, type_numbers}
use Rattle.cj_stream.specs.Meaning.Rules.{Rules}
use Rattle.cj_stream.specs.Verdict.{good, is_kept, verdict, item_after}
use Rattle.cityseq_c.specs.Tally.{shown_range}
use Rattle.cityseq_c.specs.declared.features.record_of.FeatureRecord.{FeatureRecord}
use Rattle.cityseq_c.specs.declared.features.listed.Listed.{Listed}
use Rattle.cityseq_c.specs.declared.features.cursor.Cursor.{Cursor}

-- ---- where features stand

-- the place of a feature: the number of its line, where that begins after the header, and the feature as an item
pub record Spot : Type 0 where
  pub line : ℕ
  pub begin : ℕ
  pub item : Item

-- where a line stands that comes after others
abbrev pub spot_after : Rules → List Line → Line → Spot
spot_after rules before l = record {
  line = length before + 1;
  begin = length (flat_map raw (later_of before));
  item = item_after rules before l;
}

-- where those stand that are kept of lines that come after others
abbrev pub spots_from : Rules → List Line → List Line → List Spot
spots_from rules before [] = []
spots_from rules before (l ∷ ls) =
    if is_kept (verdict rules before l.content) then spot_after rules before l ∷ spots_from rules (before ++ l ∷ []) ls
    else spots_from rules (before ++ l ∷ []) ls

-- where the features stand that are kept of a stream
abbrev pub spots : Rules → List ℕ → List Spot
spots rules s = filter (λ x. is_feature x.item) (spots_from rules [] (good rules s))

-- ---- records

-- the number whose binary digit n is 1 exactly where n is below a size and passes a test
unfoldable pub bits : (ℕ → Bool) → ℕ → ℕ
bits p zero = 0
bits p (suc n) = bits p n + (if p n then 2 ^ n else 0)

-- a number is among some
abbrev pub is_among : List ℕ → ℕ → Bool
is_among ns n = nat_lt 0 (how_often n ns)

-- the classes of the LoDs of a feature, beside the tree of its header
abbrev pub classes_of : Item → List ℕ
classes_of i = beside lod_classes i.header i.tree

-- a record has the id of a feature: where its string begins in the line, and how long it is, with its quotes
pub record HasId (i : Item) (f : FeatureRecord) : Type 0 where
  pub id : Tree
  pub member : member_of (chars (codes "id")) i.tree ≡ Some id
  pub begin : f.id_begin ≡ start_of id
  pub long : f.id_length ≡ length (spelling_of i.line.content id)

-- the main city object of a feature: the first one that has the id of the feature as its name
abbrev pub main_object : Tree → Option Tree
main_object t = option_and_then (λ id. first_named id (objects_of t))
    (option_and_then text_of (member_of (chars (codes "id")) t))

-- its attributes: the value of its first member of this name
abbrev pub attributes_in : Tree → Option Tree
attributes_in t = member_if (chars (codes "attributes")) (main_object t)

-- where a value begins in a line, and how long it is as it is spelled there; 0 and 0 where there is none
abbrev pub HasSpan : List ℕ → Option Tree → ℕ → ℕ → Type 0
HasSpan line None begin long = (begin ≡ 0) × (long ≡ 0)
HasSpan line (Some t) begin long = (begin ≡ start_of t) × (long ≡ length (spelling_of line t))

-- a record has the range of a feature's vertices on an axis
pub record HasRange (i : Item) (f : FeatureRecord) (axis : ℕ) : Type 0 where
  pub range : Option (ℤ × ℤ)
  pub ends : IsRange (numbers_on axis i.tree) range
  pub shown : get_or f.ranges axis (shown_range None) ≡ shown_range range

-- a record has the place of a feature, and says what is in it
pub record IsRecordOf (x : Spot) (f : FeatureRecord) : Type 0 where
  pub line : f.line ≡ x.line
  pub begin : f.begin ≡ x.begin
  pub long : f.length ≡ length x.item.line.content
  pub id : HasId x.item f
  pub attributes : HasSpan x.item.line.content (attributes_in x.item.tree) f.attributes_begin f.attributes_length
  pub objects : f.objects ≡ capped (length (objects_of x.item.tree))
  pub geometries : f.geometries ≡ capped (length (flat_map object_geometries (objects_of x.item.tree)))
  pub types : f.types ≡ bits (is_among (type_numbers x.item.tree)) slot_count
  pub lods : f.lods ≡ bits (is_among (classes_of x.item)) class_count
  pub ranges : (axis : ℕ) → axis < 3 → HasRange x.item f axis

-- room has the records of the first of these spots, as many as fit, and is else as it was
pub record HoldsRecords (xs : List Spot) (old new : List FeatureRecord) : Type 0 where
  pub size : length new ≡ length old
  pub first : AllZip IsRecordOf (take (length old) xs) (take (min (length xs) (length old)) new)
  pub rest : drop (min (length xs) (length old)) new ≡ drop (min (length xs) (length old)) old

-- ---- the way along a part

-- a place in a part: the number of the line that begins there, the bytes before it, and the lines that are left
pub record Place : Type 0 where
  pub line : ℕ
  pub begin : ℕ
  pub left : List Line

abbrev pub place_of : Cursor → Place
place_of c = record { line = c.line; begin = c.at; left = lines (drop c.at c.part.now) }

-- the place of the first line with a content, or the end
abbrev pub seek_from : List ℕ → ℕ → ℕ → List Line → Place
seek_from content line begin [] = record { line = line; begin = begin; left = [] }
seek_from content line begin (l ∷ ls) =
    if bytes_eq l.content content then record { line = line; begin = begin; left = l ∷ ls }
    else seek_from content (line + 1) (begin + length (raw l)) ls

abbrev pub seek : List ℕ → Place → Place
seek content p = seek_from content p.line p.begin p.left

-- behind the line at a place
abbrev pub past_from : ℕ → ℕ → List Line → Place
past_from line begin [] = record { line = line; begin = begin; left = [] }
past_from line begin (l ∷ ls) = record { line = line + 1; begin = begin + length (raw l); left = ls }

abbrev pub past : Place → Place
past p = past_from p.line p.begin p.left

-- the line at a place has this content, and the next place is behind it
pub record Passes (a : Place) (content : List ℕ) (b : Place) : Type 0 where
  pub lf : Bool
  pub left : a.left ≡ record { content = content; lf = lf } ∷ b.left
  pub behind : b ≡ past a

-- a search for a content ends after its line, and answers where that line is
pub record Seeks (a : Place) (content : List ℕ) (answer : Option (ℕ × ℕ)) (b : Place) : Type 0 where
  pub behind : b ≡ past (seek content a)
  pub found : MatchOption answer ((seek content a).left ≡ [])
      (λ p. (p.0 ≡ (seek content a).line) × (p.1 ≡ (seek content a).begin) × (0 < length (seek content a).left))

-- ---- the sink

-- what a contract sees of the sink: the place, the room, which loan of it that is, and how many records are in it
abbrev pub listed_place : Listed → Place
listed_place s = place_of s.cursor

abbrev pub listed_room : Listed → List FeatureRecord
listed_room s = s.records.now

abbrev pub listed_loan : Listed → ℕ
listed_loan s = s.records.ghost_name

abbrev pub listed_count : Listed → ℕ
listed_count s = s.count

-- room and count are as they were
pub record KeepsRoom (a b : Listed) : Type 0 where
  pub loan : listed_loan b ≡ listed_loan a
  pub room : listed_room b ≡ listed_room a
  pub count : listed_count b ≡ listed_count a

-- the record of a feature is written behind the others, if there is room for it
abbrev pub StoresBy : Bool → Spot → Listed → Listed → Type 0
StoresBy true x a b =
    (f : FeatureRecord) × IsRecordOf x f × (listed_room b ≡ slice_set (listed_room a) (listed_count a) f)
    × (listed_count b ≡ listed_count a + 1)
StoresBy false x a b = (listed_room b ≡ listed_room a) × (listed_count b ≡ listed_count a)

-- the record of a feature is stored if there is room for it, in the same loan
pub record AddsRecord (x : Spot) (a b : Listed) : Type 0 where
  pub loan : listed_loan b ≡ listed_loan a
  pub stores : StoresBy (nat_lt (listed_count a) (length (listed_room a))) x a b

-- a record is added where there are lines, the first of which is the feature's; where there are none, it is nowhere
abbrev pub AddsAt : List Line → Spot → Listed → Listed → Type 0
AddsAt [] x a b = KeepsRoom a b
AddsAt (l ∷ ls) x a b = AddsRecord x a b

-- a feature is listed where the next line with its content is
pub record ListsFeature (a : Listed) (i : Item) (b : Listed) : Type 0 where
  pub behind : listed_place b ≡ past (seek i.line.content (listed_place a))
  pub adds : let here = seek i.line.content (listed_place a) in
      AddsAt here.left (record { line = here.line; begin = here.begin; item = i }) a b

-- a header changes nothing
pub record ListsNothing (a b : Listed) : Type 0 where
  pub stays : listed_place b ≡ listed_place a
  pub room : KeepsRoom a b

abbrev pub ListsBy : Option Tree → Listed → Item → Listed → Type 0
ListsBy None a i b = ListsNothing a b
ListsBy (Some header) a i b = ListsFeature a i b

-- what an item makes of the sink
abbrev pub ListsItem : Listed → Item → Listed → Type 0
ListsItem a i b = ListsBy i.header a i b
