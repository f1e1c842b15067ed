-- The names of an object in order, by text and then by place: names of one text are neighbours.
use Rattle.std.specs.Prelude.{◌≡◌, List, [], ◌∷◌, ◌++◌, map, Bool, true, false, ◌&&◌, cond, nat_lt, Option, Some, None}
use Rattle.std.specs.Prelude.{All, ⊤}
use Rattle.std.specs.declared.cmp.Ordering.{Ordering}
use Rattle.std.specs.Ordering.{ordering_then, nat_cmp, is_lt}
use Rattle.cj_spans.specs.declared.reason.Reason.TheVariants.{DuplicateName}
use Rattle.cj_spans.specs.declared.finding.Finding.{Finding}
use Rattle.cj_spans.specs.Meaning.Tree.{Tree, start_of}
use Rattle.cj_spans.specs.Meaning.Parts.{text_of, are_same_texts}
use Rattle.cj_spans.specs.Order.{compare_texts}
use Rattle.cj_geometry.specs.Meaning.Rule.{one}

-- how two names are ordered: by their texts, and of one text by where they start
abbrev pub compare_names : Tree → Tree → Ordering
compare_names t u = ordering_then (compare_texts (text_of t) (text_of u)) (nat_cmp (start_of t) (start_of u))

-- whether the first comes before the second
abbrev pub is_earlier : Tree → Tree → Bool
is_earlier t u = is_lt (compare_names t u)

-- whether a name comes after the floor: any does where there is none
abbrev pub is_above : Option Tree → Tree → Bool
is_above None t = true
is_above (Some floor) t = is_earlier floor t

-- whether a name comes before the ceiling: any does where there is none
abbrev pub is_below : Option Tree → Tree → Bool
is_below None t = true
is_below (Some ceiling) t = is_earlier t ceiling

-- whether a name comes after the ceiling: none does where there is none
abbrev pub is_past : Option Tree → Tree → Bool
is_past None t = false
is_past (Some ceiling) t = is_earlier ceiling t

-- none of these comes before one that stands before it
abbrev pub Ascend : List Tree → Type 0
Ascend [] = ⊤
Ascend (t ∷ ts) = All (λ u. is_earlier u t ≡ false) ts × Ascend ts

-- a finding at a name that has the text of the one before it, and starts behind that
abbrev pub repeat_of : Option Tree → Tree → List Finding
repeat_of None t = []
repeat_of (Some u) t = cond (are_same_texts (text_of t) (text_of u) && nat_lt (start_of u) (start_of t))
    (one DuplicateName t) []

-- a finding at each of these that repeats the one before it, which is the given one before the first
abbrev pub neighbours : Option Tree → List Tree → List Finding
neighbours o [] = []
neighbours o (t ∷ ts) = repeat_of o t ++ neighbours (Some t) ts

-- the last of these, or the given one where there are none
abbrev pub last_of : Option Tree → List Tree → Option Tree
last_of o [] = o
last_of o (t ∷ ts) = last_of (Some t) ts

-- the names of members
abbrev pub names_of : List (Tree × Tree) → List Tree
names_of ms = map (λ m. m.0) ms
