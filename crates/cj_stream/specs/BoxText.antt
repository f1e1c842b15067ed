-- The box that a text spells: `minx,miny,maxx,maxy`.
use Rattle.std.specs.Prelude.{ℕ, List, [], Bool, true, false, ◌&&◌, ◌||◌, not, if◌then◌else◌, nat_eq, length, get_or, ℤ}
use Rattle.std.specs.Prelude.{int_lt, Result, Ok, Err}
use Rattle.std.specs.List.{slice_split, list_all}
use Rattle.cj_decimal.specs.Meaning.Class.{Class, no_number, out_of_range, not_whole, whole, value_by}
use Rattle.cj_decimal.proofs.Classes.{class}
use Rattle.cj_decimal.specs.Meaning.Number.{is_fixed}
use Rattle.cj_feature.specs.Axes.{units_in}
use Rattle.cj_stream.specs.Meaning.Criteria.{Box, there_is}
use Rattle.cj_stream.specs.declared.query.fault.QueryFault.{QueryFault}
use Rattle.cj_stream.specs.declared.query.fault.QueryFault.TheVariants.{BadBox, BoxRange, EmptyBox}

-- what stands between the commas of a text
abbrev pub fields : List ℕ → List (List ℕ)
fields s = slice_split (λ b. nat_eq b 44) s

-- a spelling of this class is a number
abbrev pub is_number_by : {s : List ℕ} → Class s → Bool
is_number_by (no_number n) = false
is_number_by (out_of_range n) = true
is_number_by (not_whole v value range n) = true
is_number_by (whole v w value range is) = true

-- a field is a number of JSON (RFC 8259, section 6)
abbrev pub is_number : List ℕ → Bool
is_number s = is_number_by (class s)

-- a field is a number in range, a multiple of 10^-18, and below 10^18 in size
abbrev pub is_edge : List ℕ → Bool
is_edge s = there_is is_fixed (value_by (class s))

-- its value in units of 10^-18
abbrev pub edge : List ℕ → ℤ
edge s = units_in (value_by (class s))

-- the box of these fields
abbrev pub box_between : List (List ℕ) → Box
box_between fs = record {
  min_x = edge (get_or fs 0 []);
  min_y = edge (get_or fs 1 []);
  max_x = edge (get_or fs 2 []);
  max_y = edge (get_or fs 3 []);
}

-- a least edge is above the greatest on its axis
abbrev pub is_empty : Box → Bool
is_empty b = int_lt b.max_x b.min_x || int_lt b.max_y b.min_y

-- the fields are four numbers
abbrev pub are_four_numbers : List (List ℕ) → Bool
are_four_numbers fs = nat_eq (length fs) 4 && list_all is_number fs

-- what reading these fields answers
abbrev pub box_of_fields : List (List ℕ) → Result Box QueryFault
box_of_fields fs =
    if not (are_four_numbers fs) then Err BadBox
    else if not (list_all is_edge fs) then Err BoxRange
    else if is_empty (box_between fs) then Err EmptyBox
    else Ok (box_between fs)

-- what reading a text answers
abbrev pub box_text : List ℕ → Result Box QueryFault
box_text s = box_of_fields (fields s)
