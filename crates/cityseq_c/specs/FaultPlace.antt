-- Where the fault of a request is: the list that has it, and the first item of this list that is at fault.
use Rattle.std.specs.Prelude.{ℕ, List, Bool, true, false, ◌&&◌, not, if◌then◌else◌, min, Option, Some, None, ℤ}
use Rattle.std.specs.Prelude.{int_lt, option_and_then, slice_get}
use Rattle.std.specs.List.{prefix_len}
use Rattle.std.specs.Str.{is_utf8}
use Rattle.cj_stream.specs.Adding.{is_type, parted}
use Rattle.cj_stream.specs.BoxText.{edge, fields, is_edge, is_number}
use Rattle.cj_stream.specs.Meaning.Lines.{newline}
use Rattle.cityseq_c.specs.declared.fault_place.FaultPlace.{FaultPlace}
use Rattle.cityseq_c.specs.declared.fault_place.ItemRule.{ItemRule}
use Rattle.cityseq_c.specs.declared.fault_place.ItemRule.TheVariants.{Utf8, TypeName, Number, Edge}
use Rattle.cityseq_c.specs.declared.request.Fault.{Fault}
use Rattle.cityseq_c.specs.declared.request.Fault.TheVariants.{LineLimit, DepthLimit, NoLine, NotUtf8, UnknownType}
use Rattle.cityseq_c.specs.declared.request.Fault.TheVariants.{BadBox, BoxRange, EmptyBox, TooLong}
use Rattle.cityseq_c.specs.declared.request.Request.{Request}

abbrev pub at_item : ℕ → ℕ → FaultPlace
at_item list item = record { list = list; item = item }

-- ---- items

-- a text is the name of a type of city objects
abbrev pub is_name : Bool → List ℕ → Bool
is_name extensions item = is_utf8 item && is_type extensions item

-- an item keeps a rule
abbrev pub is_kept : ItemRule → List ℕ → Bool
is_kept Utf8 item = is_utf8 item
is_kept (TypeName extensions) item = is_name extensions item
is_kept Number item = is_number item
is_kept Edge item = is_edge item

-- the texts between the LFs of a list, and the numbers between the commas of a box; each begins with this many that
-- keep a rule, so this is the place of the first one that does not
abbrev pub first_text : ItemRule → List ℕ → ℕ
first_text rule list = prefix_len (is_kept rule) (parted newline list)

abbrev pub first_number : ItemRule → List ℕ → ℕ
first_number rule box = prefix_len (is_kept rule) (fields box)

-- ---- texts that are not UTF-8

-- a text is asked for, and is not UTF-8
abbrev pub is_broken : Bool → List ℕ → Bool
is_broken asked text = asked && not (is_utf8 text)

-- in the first list that is asked for and is not UTF-8: ids, types, LoDs or the box
abbrev pub text_place : Request → FaultPlace
text_place r =
    if is_broken r.asks_ids r.ids.now then at_item 1 (first_text Utf8 r.ids.now)
    else if is_broken r.asks_types r.types.now then at_item 2 (first_text Utf8 r.types.now)
    else if is_broken r.asks_lods r.lods.now then at_item 3 (first_text Utf8 r.lods.now)
    else at_item 4 (first_number Utf8 r.bbox.now)

-- ---- an empty box

-- a field as an edge, if it can be one, and that at an index of a box
abbrev pub has_edge : List ℕ → Option ℤ
has_edge field = if is_edge field then Some (edge field) else None

abbrev pub edge_at : List ℕ → ℕ → Option ℤ
edge_at box index = option_and_then has_edge (slice_get (fields box) index)

-- an edge is above another one
abbrev pub is_above : Option ℤ → Option ℤ → Bool
is_above None greatest = false
is_above (Some least) None = false
is_above (Some least) (Some greatest) = int_lt greatest least

-- the least edge that is above the greatest: that of x, or else that of y
abbrev pub empty_item : List ℕ → ℕ
empty_item box = if is_above (edge_at box 0) (edge_at box 2) then 0 else 1

-- ---- the whole

-- where this fault of a request is; a box that is no box may lack a number or have a fifth one, and no list has the
-- other faults
abbrev pub fault_place : Request → Fault → FaultPlace
fault_place r NotUtf8 = text_place r
fault_place r UnknownType = at_item 2 (first_text (TypeName r.extensions) r.types.now)
fault_place r BadBox = at_item 4 (min (first_number Number r.bbox.now) 4)
fault_place r BoxRange = at_item 4 (first_number Edge r.bbox.now)
fault_place r EmptyBox = at_item 4 (empty_item r.bbox.now)
fault_place r LineLimit = at_item 0 0
fault_place r DepthLimit = at_item 0 0
fault_place r NoLine = at_item 0 0
fault_place r TooLong = at_item 0 0
