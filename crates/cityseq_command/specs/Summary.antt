-- What `check` and `info` say of a stream.
use Rattle.std.specs.Prelude.{ℕ, zero, suc, List, [], ◌∷◌, ◌++◌, Option, Some, None, ℤ, get_or, map, codes, decimal}
use Rattle.std.specs.Fmt.{signed_decimal}
use Rattle.std.specs.List.{flat_map}
use Rattle.cj_budget.specs.declared.limits.Peaks.{Peaks}
use Rattle.cj_decimal.specs.Meaning.Number.{Number}
use Rattle.cj_geometry.specs.Meaning.ObjectTypes.{ObjectRow, object_types}
use Rattle.cj_geometry.specs.ObjectTypes.{type_count}
use Rattle.cj_stream.specs.Lines.{joined}
use Rattle.cj_stream.specs.TallySink.{Tally}
use Rattle.cityseq_command.specs.Text.{text_line, count_line, counted}

-- what `check` says of a stream of so many lines and features, of which so many lines were refused
abbrev pub check_text : ℕ → ℕ → ℕ → List ℕ
check_text lines features zero =
    joined (codes "valid lines=" ∷ decimal lines ∷ codes " features=" ∷ decimal features ∷ codes "\n" ∷ [])
check_text lines features (suc n) =
    joined (codes "invalid lines=" ∷ decimal lines ∷ codes " features=" ∷ decimal features ∷ codes " refused="
    ∷ decimal (suc n) ∷ codes "\n" ∷ [])

-- ---- what `info` says

-- a number as its coefficient, `e`, and its power of ten
abbrev pub power_text : Number → List ℕ
power_text n = signed_decimal n.coefficient ++ codes "e" ++ signed_decimal n.power

-- the numbers of a transform, if there is one
abbrev pub numbers_line : List ℕ → Option (List Number) → List ℕ
numbers_line name None = []
numbers_line name (Some ns) = text_line name (map power_text ns)

-- how many city objects there are of a type, if there are some
abbrev pub type_text : Tally → ObjectRow → List ℕ
type_text t row = counted (codes "type") row.name (get_or t.types row.number 0)

-- the same of each type, in the order of the table
abbrev pub types_text : Tally → List ℕ
types_text t = flat_map (type_text t) object_types

-- how many city objects there are of types of extensions, if there are some
abbrev pub extensions_text : Tally → List ℕ
extensions_text t = counted (codes "type") (codes "extension") (get_or t.types type_count 0)

-- the classes of levels of detail: by their first character, and all others
abbrev pub class_names : List (List ℕ)
class_names = codes "0" ∷ codes "1" ∷ codes "2" ∷ codes "3" ∷ codes "4" ∷ codes "other" ∷ []

-- how many geometries there are of a class, if there are some
abbrev pub class_text : Tally → ℕ → List ℕ
class_text t class = counted (codes "lod") (get_or class_names class []) (get_or t.lods class 0)

-- the same of each class
abbrev pub lods_text : Tally → List ℕ
lods_text t = flat_map (class_text t) (0 ∷ 1 ∷ 2 ∷ 3 ∷ 4 ∷ 5 ∷ [])

-- the least and the greatest number of vertices on an axis, if there are some
abbrev pub range_line : List ℕ → Option (ℤ × ℤ) → List ℕ
range_line axis None = []
range_line axis (Some ends) = text_line axis (signed_decimal ends.0 ∷ signed_decimal ends.1 ∷ [])

-- the same on each axis
abbrev pub ranges_text : Tally → List ℕ
ranges_text t = joined (
    range_line (codes "x") (get_or t.ranges 0 None)
    ∷ range_line (codes "y") (get_or t.ranges 1 None)
    ∷ range_line (codes "z") (get_or t.ranges 2 None)
    ∷ [])

-- a tally
abbrev pub tally_text : Tally → List ℕ
tally_text t = joined (
    count_line (codes "features") t.features
    ∷ numbers_line (codes "scale") t.scale
    ∷ numbers_line (codes "translate") t.translate
    ∷ types_text t
    ∷ extensions_text t
    ∷ lods_text t
    ∷ ranges_text t
    ∷ [])

-- how much was held at most
abbrev pub peaks_text : Peaks → List ℕ
peaks_text peaks = joined (
    count_line (codes "peak bytes") peaks.bytes
    ∷ count_line (codes "peak tokens") peaks.tokens
    ∷ count_line (codes "peak open") peaks.depth
    ∷ [])

-- the summary of a stream of so many lines, with this tally, of which so much was held at most
abbrev pub summary_text : ℕ → Tally → Peaks → List ℕ
summary_text lines t peaks = joined (count_line (codes "lines") lines ∷ tally_text t ∷ peaks_text peaks ∷ [])
