-- Small texts whose boxes are known.
use Rattle.std.specs.Prelude.{◌≡◌, ℕ, ◌*◌, ◌^◌, ℤ, pos, codes, Ok, Err}
use Rattle.cj_stream.specs.BoxText.{box_text}
use Rattle.cj_stream.specs.declared.query.fault.QueryFault.TheVariants.{BadBox, BoxRange, EmptyBox}

-- so many whole ones, in units of 10^-18
abbrev pub ones : ℕ → ℤ
ones n = pos (n * 10 ^ 18)

-- a box of whole edges
abbrev pub BoxRow : Type 0
BoxRow = box_text (codes "1001,2001,1005,2005")
    ≡ Ok (record { min_x = ones 1001; min_y = ones 2001; max_x = ones 1005; max_y = ones 2005 })

-- there are four fields, and each is a number, blanks too
abbrev pub FieldRows : Type 0
FieldRows =
    (box_text (codes "1,2,3") ≡ Err BadBox)
    × (box_text (codes "1,2,3,4,5") ≡ Err BadBox)
    × (box_text (codes "1, 2,3,4") ≡ Err BadBox)

-- 10^18 is too large for an edge, and 10^-19 too fine
abbrev pub RangeRows : Type 0
RangeRows =
    (box_text (codes "1e18,0,2e18,1") ≡ Err BoxRange)
    × (box_text (codes "1e-19,0,1,1") ≡ Err BoxRange)

-- the least x is above the greatest
abbrev pub EmptyRow : Type 0
EmptyRow = box_text (codes "3,0,1,1") ≡ Err EmptyBox

-- a field that is no number comes before a number out of range, and that before an axis that ends before it begins
abbrev pub OrderRows : Type 0
OrderRows =
    (box_text (codes "1e18,0,01,1") ≡ Err BadBox)
    × (box_text (codes "3,0,1,1e18") ≡ Err BoxRange)
