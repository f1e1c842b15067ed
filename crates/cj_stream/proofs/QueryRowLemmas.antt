-- Worked rows of queries and of boxes.
use Rattle.cj_stream.proofs.Common.{Bool, Box, List, None, Option, Some, Tree, [], chars, code_points_after, codes, coordinate_by, first_code_point, first_width, get_or, holds, int_le, list_any, pos, refl, text, there_is, units_at, vertices_of, ℕ, ℤ, ◌&&◌, ◌^◌, ◌∷◌, ◌≡◌, Number, arith, false, ints, is_number, lit<, neg_ℤ, scaled, true, ◌<◌, ◌≤ℤ◌}
use lib.Utf8.{encode}
use Rattle.cj_decimal.specs.Meaning.Decimal.{decimal_of}
use Rattle.cj_decimal.specs.Meaning.Reading.{digits_front, digits_rest, begins, begins_digit, is_empty, body, is_int, is_frac, frac_digits, after_frac, exp_digits, is_whole_digits, is_exp, exp_value, is_number as spells_number, written_of}
use Rattle.cj_geometry.specs.Meaning.ObjectTypes.{object_types}
use Rattle.cj_geometry.proofs.Arrays.{whole-zero, whole-one}
use Rattle.cj_stream.specs.QueryRows.{plain_header, two_objects, one_instance, boxed, IdRows, TypeRows, LodRows, InstanceRows, InBoxRows, OutOfBoxRows, EachPartRows, ExtensionRows, NameRows, MemoryRows}
use Rattle.cj_decimal.specs.Meaning.Equality.{SameValue, IsNormal}
use Rattle.cj_decimal.specs.Meaning.Spelling.{number_of}
use Rattle.cj_decimal.proofs.Classes.{class, zero_normal}
use Rattle.cj_decimal.proofs.Grammar.{spells_test, test_spells}
use Rattle.cj_decimal.specs.Meaning.Class.{value_by}
use Rattle.cj_stream.specs.BoxRows.{BoxRow, FieldRows, RangeRows, EmptyRow, OrderRows}
use Rattle.cj_stream.proofs.BoxTextLemmas.{in-class, no-class}
use Rattle.std.proofs.Common.{unsigned_abs}

-- ---- which small features satisfy what is asked, computed

pub ids : IdRows
unfolding holds text code_points_after first_code_point first_width chars encode
ids = (refl, refl, refl, refl, refl)

pub types : TypeRows
unfolding holds text code_points_after first_code_point first_width chars encode object_types
types = (refl, refl, refl, refl, refl, refl)

pub extensions : ExtensionRows
unfolding holds text code_points_after first_code_point first_width chars encode object_types
extensions = (refl, refl, refl, refl, refl, refl, refl, refl, refl)

pub names : NameRows
unfolding object_types
names = (refl, refl, refl, refl, refl)

pub memory : MemoryRows
unfolding object_types
memory = (refl, refl, refl, refl)

pub lods : LodRows
unfolding holds text code_points_after first_code_point first_width chars encode
lods = (refl, refl, refl, refl, refl, refl, refl)

pub instance : InstanceRows
unfolding holds text code_points_after first_code_point first_width chars encode
instance = (rw whole-zero, rw whole-zero, refl)

pub each : EachPartRows
unfolding holds text code_points_after first_code_point first_width chars encode object_types
each = (refl, refl, refl, refl)

-- ---- boxes

-- a box is met by these vertices with these scales and translations
abbrev met : Box → List (List (Option ℤ)) → Option ℤ → Option ℤ → Option ℤ → Option ℤ → Bool
met box vs scale_x shift_x scale_y shift_y =
    list_any (λ v. there_is (λ n. int_le n box.max_x) (coordinate_by (get_or v 0 None) scale_x shift_x)) vs
    && list_any (λ v. there_is (λ n. int_le box.min_x n) (coordinate_by (get_or v 0 None) scale_x shift_x)) vs
    && list_any (λ v. there_is (λ n. int_le n box.max_y) (coordinate_by (get_or v 1 None) scale_y shift_y)) vs
    && list_any (λ v. there_is (λ n. int_le box.min_y n) (coordinate_by (get_or v 1 None) scale_y shift_y)) vs

abbrev scale : ℕ → Option ℤ
scale axis = units_at (chars (codes "scale")) plain_header axis

abbrev shift : ℕ → Option ℤ
shift axis = units_at (chars (codes "translate")) plain_header axis

abbrev unit : Option ℤ
unit = Some (pos (10 ^ 18))

abbrev none : Option ℤ
none = Some (pos 0)

-- the header's transform
transform : (scale 0 ≡ unit) × (shift 0 ≡ none) × (scale 1 ≡ unit) × (shift 1 ≡ none)
unfolding text code_points_after first_code_point first_width chars encode decimal_of digits_front digits_rest begins
    begins_digit is_empty body is_int is_frac frac_digits after_frac exp_digits is_whole_digits is_exp exp_value
transform = (refl, refl, refl, refl)

in-box : (t : Tree) (box : Box) (vs : List (List (Option ℤ))) → vertices_of t ≡ vs
    → holds (boxed box) plain_header t ≡ met box vs unit none unit none
unfolding holds
in-box t box vs vertices = rw (vertices, transform.0, transform.1, transform.2, transform.3)

abbrev two_vertices : List (List (Option ℤ))
two_vertices = (Some (pos 0) ∷ Some (pos 0) ∷ Some (pos 1) ∷ []) ∷ (Some (pos 1) ∷ Some (pos 0) ∷ Some (pos 0) ∷ [])
    ∷ []

vertices : vertices_of two_objects ≡ two_vertices
unfolding text code_points_after first_code_point first_width chars encode
vertices = rw (whole-zero, whole-one)

no_vertices : vertices_of one_instance ≡ []
unfolding text code_points_after first_code_point first_width chars encode
no_vertices = refl

pub within : InBoxRows
within = (
  in-box _ _ _ vertices,
  in-box _ _ _ vertices,
  in-box _ _ _ vertices,
)

pub outside : OutOfBoxRows
outside = (
  in-box _ _ _ vertices,
  in-box _ _ _ vertices,
  in-box _ _ _ vertices,
  in-box _ _ _ vertices,
  in-box _ _ _ no_vertices,
)

-- ---- small texts whose boxes are known, computed

-- a field is a number of this value
abbrev pub Number_is : List ℕ → Number → Type 0
Number_is s v = (is_number s ≡ true) × (value_by (class s) ≡ Some v)

said : (s : List ℕ) (v : Number) → spells_number s ≡ true → SameValue (number_of (written_of s)) v → IsNormal v
    → unsigned_abs v.coefficient < 10 ^ 36 → (neg_ℤ (pos 1000000) ≤ℤ v.power) × (v.power ≤ℤ pos 1000000)
    → Number_is s v
said s v test same normal few within =
    in-class s v (record { written = written_of s; spells = test_spells s test; same = same; normal = normal })
    (record { digits = few; power_low = within.0; power_high = within.1 }) _

unsaid : (s : List ℕ) → spells_number s ≡ false → is_number s ≡ false
unsaid s e = no-class s (λ n. cc (e, (spells_test s n.0 n.1).0)) _

-- what the rows' texts are
record Fields : Type 0 where
  one : Number_is (codes "1") (scaled (pos 1) (pos 0))
  three : Number_is (codes "3") (scaled (pos 3) (pos 0))
  west : Number_is (codes "1001") (scaled (pos 1001) (pos 0))
  south : Number_is (codes "2001") (scaled (pos 2001) (pos 0))
  east : Number_is (codes "1005") (scaled (pos 1005) (pos 0))
  north : Number_is (codes "2005") (scaled (pos 2005) (pos 0))
  large : Number_is (codes "1e18") (scaled (pos 1) (pos 18))
  larger : Number_is (codes "2e18") (scaled (pos 2) (pos 18))
  fine : Number_is (codes "1e-19") (scaled (pos 1) (neg_ℤ (pos 19)))
  zero : Number_is (codes "0") (scaled (pos 0) (pos 0))
  blank : is_number (codes " 2") ≡ false
  zeros : is_number (codes "01") ≡ false

known : Fields
unfolding digits_front digits_rest begins is_empty begins_digit body is_int is_frac frac_digits after_frac exp_digits
    is_whole_digits is_exp exp_value
known = record {
  one = said _ _ refl (record { coefficients = refl }) (record { normal = λ e. cc }) (lit< tt) (omega (arith, ints));
  three = said _ _ refl (record { coefficients = refl }) (record { normal = λ e. cc }) (lit< tt) (omega (arith, ints));
  west = said _ _ refl (record { coefficients = refl }) (record { normal = λ e. cc }) (lit< tt) (omega (arith, ints));
  south = said _ _ refl (record { coefficients = refl }) (record { normal = λ e. cc }) (lit< tt) (omega (arith, ints));
  east = said _ _ refl (record { coefficients = refl }) (record { normal = λ e. cc }) (lit< tt) (omega (arith, ints));
  north = said _ _ refl (record { coefficients = refl }) (record { normal = λ e. cc }) (lit< tt) (omega (arith, ints));
  large = said _ _ refl (record { coefficients = refl }) (record { normal = λ e. cc }) (lit< tt) (omega (arith, ints));
  larger = said _ _ refl (record { coefficients = refl }) (record { normal = λ e. cc }) (lit< tt) (omega (arith, ints));
  fine = said _ _ refl (record { coefficients = refl }) (record { normal = λ e. cc }) (lit< tt) (omega (arith, ints));
  zero = said _ _ refl (record { coefficients = refl }) zero_normal (lit< tt) (omega (arith, ints));
  blank = unsaid _ refl;
  zeros = unsaid _ refl;
}

open known use {three, west, south, east, north, large, larger, fine, blank, zeros}

pub one : Number_is (codes "1") (scaled (pos 1) (pos 0))
one = known.one

pub zero : Number_is (codes "0") (scaled (pos 0) (pos 0))
zero = known.zero

-- ---- rows

pub a_box : BoxRow
a_box = rw (west.0, south.0, east.0, north.0, west.1, south.1, east.1, north.1)

pub fields : FieldRows
fields = (refl, refl, rw (one.0, blank))

pub range : RangeRows
range = (
  rw (large.0, zero.0, larger.0, one.0, large.1),
  rw (fine.0, zero.0, one.0, fine.1),
)

pub empty : EmptyRow
empty = rw (three.0, zero.0, one.0, three.1, zero.1, one.1)

pub order : OrderRows
order = (
  rw (large.0, zero.0, zeros),
  rw (three.0, zero.0, one.0, large.0, three.1, zero.1, one.1, large.1),
)
