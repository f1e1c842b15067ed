-- What room for an output has: counts, places, texts and reports.
use Rattle.cityseq_c.proofs.Common.{List, Option, [], arith, capped, class_by, get_or, how_often, length, map, nat_tests, refl, suc, sum, ℕ, ◌+◌, ◌<◌, ◌∷◌, ◌≡◌, Bool, Err, None, Ok, QueryFault, Result, false, has_edge, if◌then◌else◌, is_edge, is_number, is_ok, is_some, ℤ, IsRange, no_tally, shown_range, Item, Line, Rules, Some, flat_map, kept_from, length-append, lines, output_first, raw, raw_item, slice_get, take, zero, ◌++◌, ◌≤◌, rules, Copied, Judged, Outcome, CReport, Took, ap, append-nil, append_assoc, drop, drop-drop, lent, stream_of, subst, sym, ◌-◌, ◌∙◌, Holds, Noted, cond, ltb, ltb-false, ltb-true, min, slice_set}
use Rattle.std.proofs.lemmas.List.Sums.{sum_by-cons}
use Rattle.cj_decimal.proofs.Classes.{class}
use Rattle.cj_stream.proofs.Common.{false-true}
use Rattle.cj_stream.specs.declared.query.fault.QueryFault.TheVariants.{BadBox}
use Rattle.cityseq_c.specs.declared.tally.Range.{Range}
use Rattle.cj_stream.proofs.LineLemmas.{lines-are_lines}
use Rattle.cityseq_c.specs.Room.{room_bytes, room_loan, written_of, in_room, room_law}
use Rattle.cityseq_c.specs.declared.room.Room.{Room}
use Rattle.cj_stream.proofs.TookLemmas.{over-kept}
use Rattle.cj_stream.specs.declared.report_sink.Report.{Report}
use Rattle.std.proofs.lemmas.List.{take-map}
use Rattle.std.proofs.lemmas.Slice.Zip.{AllZip-map}
use Rattle.cityseq_c.specs.ReportSlice.{count_of, noted_loan, noted_room, noted_text, c_report, NotesOne}
use Rattle.cityseq_c.proofs.RecordLemmas.{Stored, none-stored, one-fits, one-left}

-- ---- sums of counts

-- the sum of counts that were capped
pub capped-sum : (xs ys : List ℕ) → length xs ≡ length ys
    → ((n : ℕ) → n < length ys → get_or xs n 0 ≡ capped (get_or ys n 0)) → capped (sum xs) ≡ capped (sum ys)
capped-sum [] [] same each = refl
capped-sum (x ∷ xs) (y ∷ ys) same each =
    let first : x ≡ capped y = each 0 (omega arith) in
    let rest : capped (sum xs) ≡ capped (sum ys) =
    capped-sum xs ys (omega (arith, same)) (λ n low. each (suc n) (omega (arith, low))) in
    let left : sum (x ∷ xs) ≡ x + sum xs = sum_by-cons (λ n. n) x xs in
    let right : sum (y ∷ ys) ≡ y + sum ys = sum_by-cons (λ n. n) y ys in
    omega (arith, first, rest, left, right)
capped-sum xs ys same each = absurd (omega (arith, same))

-- how often each number below 6 is among some
abbrev pub counts_of : List ℕ → List ℕ
counts_of ns = how_often 0 ns ∷ how_often 1 ns ∷ how_often 2 ns ∷ how_often 3 ns ∷ how_often 4 ns ∷ how_often 5 ns ∷ []

pub counts-at : (ns : List ℕ) (n : ℕ) → n < 6 → get_or (counts_of ns) n 0 ≡ how_often n ns
counts-at ns (suc (suc (suc (suc (suc (suc n)))))) low = absurd (omega (arith, low))
counts-at ns n low = refl

one-more : (k : ℕ) (ns : List ℕ) (total : ℕ) → k < 6 → sum (counts_of ns) ≡ total → sum (counts_of (k ∷ ns)) ≡ suc total
one-more k ns total low h = search arith

-- numbers below 6, of which each is of one thing, are as many as the things
pub all-counted : {A : Type 0} (f : A → ℕ) → ((x : A) → f x < 6) → (xs : List A)
    → sum (counts_of (map f xs)) ≡ length xs
all-counted f small [] = refl
all-counted f small (x ∷ xs) = grind (arith, one-more, all-counted f small xs)

pub class-small : (code : Option ℕ) → class_by code < 6
class-small code = grind (arith, nat_tests)

-- ---- what an item of a list is: a number, an edge

-- ---- numbers

pub no-edge : (s : List ℕ) → is_number s ≡ false → is_edge s ≡ false
no-edge s none = grind (arith, false-true, class)

module _ (s : List ℕ) where
  -- what reading a field answers
  abbrev read : Bool → Result (Option ℤ) QueryFault
  read b = if b then Ok (has_edge s) else Err BadBox

  pub number-read : (r : Result (Option ℤ) QueryFault) → r ≡ read (is_number s) → is_ok r ≡ is_number s
  number-read r is = grind arith

  pub edge-read : (e : Option ℤ) → Ok e ≡ read (is_number s) → e ≡ has_edge s
  edge-read e is = grind arith

  pub none-read : (f : QueryFault) → Err f ≡ read (is_number s) → None ≡ has_edge s
  none-read f is = grind (arith, no-edge)

  pub edge-kept : (e : Option ℤ) → e ≡ has_edge s → is_some e ≡ is_edge s
  edge-kept e is = grind arith

-- ---- the ranges of a record

pub ranges-shown : (rs : List (Option (ℤ × ℤ))) (a b c : Range) → a ≡ shown_range (get_or rs 0 None)
    → b ≡ shown_range (get_or rs 1 None) → c ≡ shown_range (get_or rs 2 None)
    → (axis : ℕ) → axis < 3 → get_or (a ∷ b ∷ c ∷ []) axis (shown_range None) ≡ shown_range (get_or rs axis None)
ranges-shown rs a b c p q r axis small = grind arith

-- nothing has no range
pub nothing-ranged : (axis : ℕ) → axis < 3 → IsRange [] (get_or no_tally.ranges axis None)
nothing-ranged axis small = grind arith

-- ---- what is written of a text is not longer than it

-- the bytes of some items, and of some lines
abbrev item_bytes : List Item → ℕ
item_bytes items = length (flat_map raw_item items)

abbrev line_bytes : List Line → ℕ
line_bytes ls = length (flat_map raw ls)

-- no more is kept than there is
kept-fits : (rules : Rules) (before ls : List Line) → item_bytes (kept_from rules before ls) ≤ line_bytes ls
kept-fits rules before [] = omega arith
kept-fits rules before (l ∷ ls) =
    grind (arith, length-append, kept-fits rules (before ++ l ∷ []) ls)

-- some lines, and the one behind them, are no more than there are
next-fits : (ls : List Line) (n : ℕ) (l : Line) → slice_get ls n ≡ Some l
    → line_bytes (take n ls) + length (raw l) ≤ line_bytes ls
next-fits [] n l h = absurd (cc h)
next-fits (x ∷ ls) zero l h = grind (arith, length-append)
next-fits (x ∷ ls) (suc n) l h =
    grind (arith, length-append, next-fits ls n l h)

-- so what is written of the first lines of a text, and the line behind them, is not longer than the text
pub first-fits : (rules : Rules) (n : ℕ) (s : List ℕ) (l : Line) → slice_get (lines s) n ≡ Some l
    → length (output_first rules n s) + length (raw l) ≤ length s
first-fits rules n s l h =
    grind (arith, kept-fits, next-fits, lines-are_lines)

-- ---- what is in room that is lent for an output

-- what is behind a place is behind a later one
drop-later : (m n : ℕ) (xs ys : List ℕ) → m ≤ n → drop m xs ≡ drop m ys → drop n xs ≡ drop n ys
drop-later m n xs ys le same =
    let at : m + (n - m) ≡ n = omega (arith, le) in
    subst (λ k. drop k xs ≡ drop k ys) at
    (sym (drop-drop (n - m) m xs) ∙ (ap (λ z. drop (n - m) z) same ∙ drop-drop (n - m) m ys))

-- items were written behind what was there
pub record Written (a b : Room) (xs : List Item) : Type 0 where
  pub loan : room_loan b ≡ room_loan a
  pub size : length (room_bytes b) ≡ length (room_bytes a)
  pub count : written_of b ≡ written_of a + length (flat_map raw_item xs)
  pub bytes : in_room b ≡ in_room a ++ flat_map raw_item xs
  pub rest : drop (written_of b) (room_bytes b) ≡ drop (written_of b) (room_bytes a)

pub all-written : (a b : Room) (xs : List Item) → Took room_law.takes a xs b → Written a b xs
all-written a b [] h = grind (arith, append-nil)
all-written a b (x ∷ xs) h =
    grind (arith, length-append, append_assoc, drop-later, all-written h.0 b xs h.2)

module _ (rules : Rules) (text : List ℕ) (o : Outcome) (a b : Room) (reports new_reports : List CReport)
    (old new : List ℕ) (written : ℕ)
    (j : Judged room_law (stream_of rules text) o (lent a reports) (lent b new_reports)) (none : written_of a ≡ 0)
    (begins : room_bytes a ≡ old) (back : room_loan b ≡ room_loan a → new ≡ room_bytes b)
    (count : written ≡ written_of b) where
  pub copied : Copied rules text old new written o
  copied = grind (arith, all-written, over-kept, first-fits)

-- ---- what room for reports has of some reports

module _ (text : List ℕ) where
  abbrev Shown : Report → CReport → Type 0
  Shown r c = c ≡ c_report text r

  -- what one more report makes of a count and a list
  after-one : (c : ℕ) (l : List CReport) (d : ℕ) (m : List CReport) (e : ℕ) (k : List CReport) (r : Report)
      (rs : List Report)
      (fits : Bool) → ltb c (length l) ≡ fits → c ≤ length l
      → k ≡ cond fits (slice_set l c (c_report text r)) l → e ≡ cond fits (c + 1) c → Stored Shown e k d m rs
      → Stored Shown c l d m (r ∷ rs)
  after-one c l d m e k r rs fits is within list count h = grind (arith, one-fits, ltb-true, one-left, ltb-false)

  held : (l : List CReport) (d : ℕ) (m : List CReport) (rs : List Report) → Stored Shown 0 l d m rs → Holds text rs l m
  held l d m rs h =
      let count : d ≡ min (length rs) (length l) = omega (arith, h.count) in
      let all : length l - 0 ≡ length l = omega arith in
      record {
        size = h.size;
        first = rw (← count, take-map) (h.front ∙ AllZip-map _ _ _ (rw all at h.each));
        rest = rw (← count) h.rest;
      }

all-stored : (a b : Noted) (rs : List Report) → Took NotesOne a rs b → (noted_loan b ≡ noted_loan a)
    × Stored (Shown (noted_text a)) (count_of a) (noted_room a) (count_of b) (noted_room b) rs
all-stored a b [] h = grind (arith, none-stored)
all-stored a b (r ∷ rs) h =
    grind (arith, after-one, all-stored h.0 b rs h.2)

-- room that had no report has them, and is still the one that was lent
pub all-held : (a b : Noted) (rs : List Report) → count_of a ≡ 0 → Took NotesOne a rs b → (noted_loan b ≡ noted_loan a)
    × Holds (noted_text a) rs (noted_room a) (noted_room b)
all-held a b rs none h =
    grind (arith, all-stored, held)
