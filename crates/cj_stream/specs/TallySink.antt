-- What contracts see of a tally, what an item makes of it, and which tally some items have.
use Rattle.std.specs.Prelude.{◌≡◌, ℕ, ◌+◌, ◌-◌, ◌^◌, ◌<◌, ◌≤◌, List, [], ◌∷◌, ◌++◌, All, Contains, Option, Some, None, ℤ}
use Rattle.std.specs.Prelude.{codes, get_or, map, option_map, pos, replicate}
use Rattle.std.specs.List.{filter, last_or}
use Rattle.std.specs.Str.{chars}
use Rattle.cj_spans.specs.Meaning.Tree.{Tree}
use Rattle.cj_decimal.specs.Meaning.Number.{Number}
use Rattle.cj_decimal.specs.Word.{IsWordOf}
use Rattle.cj_feature.specs.Meaning.Transform.{transform_values}
use Rattle.cj_stream.specs.declared.ending.End.{End}
use Rattle.cj_stream.specs.declared.ending.End.TheVariants.{Complete, Refused, WriteFault, Memory}
use Rattle.cj_stream.specs.Cut.{InPieces, all_of, given_of, taken_of}
use Rattle.cj_stream.specs.Items.{Item, is_feature}
use Rattle.cj_stream.specs.Lines.{whole}
use Rattle.cj_stream.specs.CountSink.{one_more, is_header, how_many}
use Rattle.cj_stream.specs.Tallied.{IsRange, capped, class_count, how_often, lod_classes, numbers_on, over_features}
use Rattle.cj_stream.specs.Tallied.{slot_count, type_numbers}
use Rattle.cj_stream.specs.Verdict.{Stream, kept, ending}

-- how many features there are; how many city objects of each type, by its number, with those of extensions at the end,
-- and how many geometries of each LoD
-- class; the least and the greatest number of a vertex on each axis; and the numbers of the header's transform
pub record Tally : Type 0 where
  pub features : ℕ
  pub types : List ℕ
  pub lods : List ℕ
  pub ranges : List (Option (ℤ × ℤ))
  pub scale : Option (List Number)
  pub translate : Option (List Number)

-- the tally of nothing
abbrev pub no_tally : Tally
no_tally = record {
  features = 0;
  types = replicate slot_count 0;
  lods = replicate class_count 0;
  ranges = replicate 3 None;
  scale = None;
  translate = None;
}

-- ---- one item

-- each count below a size goes up by how often its number is among these
abbrev pub RisesBy : ℕ → List ℕ → List ℕ → List ℕ → Type 0
RisesBy size old ns new = (n : ℕ) → n < size → get_or new n 0 ≡ capped (get_or old n 0 + how_often n ns)

-- a range of some numbers becomes the range of them and these
abbrev pub Widens : Option (ℤ × ℤ) → List ℤ → Option (ℤ × ℤ) → Type 0
Widens old ns new = (before : List ℤ) → IsRange before old → IsRange (before ++ ns) new

-- words have the ends of a range; those of no range are the greatest word and 0
abbrev pub AreWordsOf : ℕ × ℕ → Option (ℤ × ℤ) → Type 0
AreWordsOf words None = (words.0 ≡ 2 ^ 64 - 1) × (words.1 ≡ 0)
AreWordsOf words (Some range) = (a b : ℕ) × IsWordOf words.0 a × IsWordOf words.1 b × (range ≡ (pos a, pos b))

-- words of a range become those of the range with one number more
abbrev pub TakesNumber : ℕ × ℕ → ℤ → ℕ × ℕ → Type 0
TakesNumber old n new = (r : Option (ℤ × ℤ)) → AreWordsOf old r → (s : ℤ × ℤ) × AreWordsOf new (Some s)
    × Widens r (n ∷ []) (Some s)

-- words of a range become those of the range with some of the numbers that are left
abbrev pub TakesSome : ℕ × ℕ → List ℤ → ℕ × ℕ → Type 0
TakesSome old left new = (r : Option (ℤ × ℤ)) → AreWordsOf old r → (s : Option (ℤ × ℤ)) × AreWordsOf new s
    × (more : List ℤ) × All (Contains left) more × Widens r more s

-- the range is that of the numbers before those that are left, and of some of these
pub record RangesFront (all : List ℤ) (range : Option (ℤ × ℤ)) (left : List ℤ) : Type 0 where
  pub front : List ℤ
  pub more : List ℤ
  pub joined : all ≡ front ++ left
  pub inside : All (Contains left) more
  pub range_is : IsRange (front ++ more) range

-- numbers of the transform are those that a header of this tree shows
abbrev pub Shows : List ℕ → Tree → Option (List Number) → Type 0
Shows name t numbers = option_map (map Some) numbers ≡ Some (transform_values (chars name) t)

-- a header is shown, and the counts stay
pub record TalliesHeader (a : Tally) (t : Tree) (b : Tally) : Type 0 where
  pub features : b.features ≡ a.features
  pub types : b.types ≡ a.types
  pub lods : b.lods ≡ a.lods
  pub ranges : b.ranges ≡ a.ranges
  pub scale : Shows (codes "scale") t b.scale
  pub translate : Shows (codes "translate") t b.translate

-- a feature is counted, with its header, and the transform stays
pub record TalliesFeature (a : Tally) (header t : Tree) (b : Tally) : Type 0 where
  pub features : b.features ≡ one_more a.features
  pub types : RisesBy slot_count a.types (type_numbers t) b.types
  pub lods : RisesBy class_count a.lods (lod_classes header t) b.lods
  pub ranges : (axis : ℕ) → axis < 3
      → Widens (get_or a.ranges axis None) (numbers_on axis t) (get_or b.ranges axis None)
  pub scale : b.scale ≡ a.scale
  pub translate : b.translate ≡ a.translate

abbrev pub TalliesBy : Tally → Option Tree → Tree → Tally → Type 0
TalliesBy a None t b = TalliesHeader a t b
TalliesBy a (Some header) t b = TalliesFeature a header t b

-- what an item makes of a tally
abbrev pub Tallies : Tally → Item → Tally → Type 0
Tallies a i b = TalliesBy a i.header i.tree b

-- ---- some items

-- what the last header of some items shows
abbrev pub last_shown : List ℕ → List Item → Option (List (Option Number))
last_shown name is = last_or None (map (λ i. transform_values (chars name) i.tree) (filter is_header is))

-- the tally of some items; counts stop at the greatest u64
pub record IsTallyOf (is : List Item) (t : Tally) : Type 0 where
  pub features : t.features ≡ how_many is_feature is
  pub types : (n : ℕ) → n < slot_count → get_or t.types n 0
      ≡ capped (how_often n (over_features (λ header f. type_numbers f) is))
  pub lods : (class : ℕ) → class ≤ 5 → get_or t.lods class 0 ≡ capped (how_often class (over_features lod_classes is))
  pub ranges : (axis : ℕ) → axis < 3
      → IsRange (over_features (λ header. numbers_on axis) is) (get_or t.ranges axis None)
  pub scale : option_map (map Some) t.scale ≡ last_shown (codes "scale") is
  pub translate : option_map (map Some) t.translate ≡ last_shown (codes "translate") is

-- ---- streams

-- the tally of a prefix of some items, with all of these
pub record TalliesFront (items first : List Item) (t : Tally) : Type 0 where
  pub more : List Item
  pub others : List Item
  pub front : items ≡ (first ++ more) ++ others
  pub tally : IsTallyOf (first ++ more) t

-- the tally of what is kept of the bytes that a run read, by its end; of their whole lines where a read failed, and
-- of a prefix where memory was refused. A tally never fails.
abbrev pub TalliesRun : Stream → End → Tally → Type 0
TalliesRun r Complete t = IsTallyOf (kept r.rules r.bytes) t
TalliesRun r (Refused number place reason) t = IsTallyOf (kept r.rules r.bytes) t
TalliesRun r WriteFault t = ⊥
TalliesRun r Memory t = TalliesFront (kept r.rules r.bytes) [] t
TalliesRun r cut_short t = IsTallyOf (kept r.rules (whole r.bytes)) t

-- the tally of what is kept of a cut stream, whose ending is the answer; or, where memory was refused, of a prefix of
-- the pieces that were given
abbrev pub TalliesPieces : InPieces → End → Tally → Type 0
TalliesPieces cut Complete t = (ending cut.rules (all_of cut) ≡ Complete) × IsTallyOf (kept cut.rules (all_of cut)) t
TalliesPieces cut (Refused number place reason) t =
    (ending cut.rules (all_of cut) ≡ Refused number place reason) × IsTallyOf (kept cut.rules (all_of cut)) t
TalliesPieces cut Memory t = TalliesFront (kept cut.rules (given_of cut)) (kept cut.rules (whole (taken_of cut))) t
TalliesPieces cut other t = ⊥
