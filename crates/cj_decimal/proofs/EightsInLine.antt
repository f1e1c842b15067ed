-- Numbers of at most eight digits in a line, and behind a minus.
use Rattle.cj_decimal.proofs.Common.{◌≡◌, ℕ, ◌≤◌, List, [], ◌∷◌, Bool, true, false, refl, ap, ◌∙◌, arith, AllDigits, IsInt, SpellsNumber, zero, suc, and_parts, ◌+◌, ◌-◌, ◌<◌, length, length-drop, slice_range, take, drop, ◌&&◌, nat_eq, sym, get_or, IsTrue, bit_and, IsShort, after_frac, digits_front, digits_rest, begins, body, is_exp, is_frac, is_int, written_of, IsFewDigits, IsNumberIfBegun}
use Rattle.cj_decimal.proofs.Grammar.{digit_begins, front_all, front_rest, int_from_test, int_is_digits, minus_there, no_minus, spells_test, test_spells}
use Rattle.std.proofs.lemmas.Bool.{eq-eqb, ne_eqb}
use Rattle.std.proofs.lemmas.List.{drop-take, drop-drop, get_or-take, get_or-drop, length-take-le}
use Rattle.cj_decimal.specs.Word.{little_endian, AllBelow}
use Rattle.cj_decimal.proofs.Eights.{high_halves, all_high, all_low, below_more}

-- ---- in a line

below_front : (n : ℕ) (s : List ℕ) → AllBelow 256 s → AllBelow 256 (take n s)
below_front (suc n) (b ∷ s) h = (h.0, below_front n s h.1)
below_front _ _ h = tt

below_rest : (n : ℕ) (s : List ℕ) → AllBelow 256 s → AllBelow 256 (drop n s)
below_rest zero s h = h
below_rest (suc n) [] h = tt
below_rest (suc n) (b ∷ s) h = below_rest n s h.1

all_bytes : (s : List ℕ) → ((k : ℕ) → get_or s k 0 < 256) → AllBelow 256 s
all_bytes [] each = tt
all_bytes (b ∷ s) each = (each 0, all_bytes s (λ k. each (suc k)))

pub bytes_below : (line : List ℕ) (i j : ℕ) → ((k : ℕ) → get_or line k 0 < 256) → AllBelow 256 (slice_range line i j)
bytes_below line i j each = below_front (j - i) (drop i line) (below_rest i line (all_bytes line each))

pub length_slice : (line : List ℕ) (i j : ℕ) → j ≤ length line → length (slice_range line i j) ≡ j - i
length_slice line i j h = search (arith, length-drop, length-take-le)

-- the last of eight bytes
pub end_of_eight : (line : List ℕ) (count stop : ℕ) → count ≤ 8 → 8 ≤ stop
    → drop (8 - count) (slice_range line (stop - 8) stop) ≡ slice_range line (stop - count) stop
end_of_eight line count stop few room = search (arith, drop-take, drop-drop)

-- the test of a word: no bit is set in a high half
pub low_each : {w : ℕ} (s : List ℕ) → length s ≡ 8 → AllBelow 256 s → w ≡ little_endian s
    → IsTrue (nat_eq (bit_and w 0xf0f0f0f0f0f0f0f0) 0) → AllBelow 16 s
low_each s e h is test = search (arith, all_high, high_halves)

pub passes_low : {w : ℕ} (s : List ℕ) → length s ≡ 8 → w ≡ little_endian s → AllBelow 16 s
    → IsTrue (nat_eq (bit_and w 0xf0f0f0f0f0f0f0f0) 0)
passes_low s e is low = search (arith, below_more, high_halves, all_low)

pub first_is : (line : List ℕ) (start stop : ℕ) → start < stop
    → get_or (slice_range line start stop) 0 0 ≡ get_or line start 0
first_is line start stop order = search (arith, get_or-take, get_or-drop)

-- ---- behind a minus

begins_first : {c : ℕ} (s : List ℕ) → 0 < length s → get_or s 0 0 ≡ c → begins c s ≡ true
unfolding begins
begins_first [] l e = absurd (omega arith)
begins_first (b ∷ t) l e = eq-eqb b _ e

pub minus_first : (line : List ℕ) (start stop : ℕ) → start < stop → stop ≤ length line → get_or line start 0 ≡ 45
    → true ≡ begins 45 (slice_range line start stop)
minus_first line start stop order within z = search (arith, begins_first, first_is)

begins_not : (c : ℕ) (s : List ℕ) → (get_or s 0 0 ≡ c → ⊥) → begins c s ≡ false
unfolding begins
begins_not c [] n = refl
begins_not c (b ∷ t) n = ne_eqb b c n

pub body_plain : (line : List ℕ) (start stop : ℕ) → start < stop → (get_or line start 0 ≡ 45 → ⊥)
    → body (slice_range line start stop) ≡ slice_range line start stop
body_plain line start stop order n = search (arith, no_minus, begins_not, first_is)

pub body_behind : (line : List ℕ) (start stop : ℕ) → start < stop → true ≡ begins 45 (slice_range line start stop)
    → body (slice_range line start stop) ≡ slice_range line (start + 1) stop
body_behind line start stop order minus =
    let m : stop - start ≡ 1 + (stop - (start + 1)) = omega arith in
    minus_there (slice_range line start stop) (sym minus) ∙ ap (λ k. drop 1 (take k (drop start line))) m
    ∙ drop-take 1 (stop - (start + 1)) (drop start line) ∙ ap (take (stop - (start + 1))) (drop-drop 1 start line)

pub short_behind : (line : List ℕ) (start stop : ℕ) {n : ℕ} → start < stop
    → true ≡ begins 45 (slice_range line start stop)
    → IsShort (slice_range line (start + 1) stop) n → IsShort (body (slice_range line start stop)) n
short_behind line start stop order minus short = rw (body_behind line start stop order minus) short

-- few digits, as a body and where they stand
pub few_in : (line : List ℕ) (start stop : ℕ) {s : List ℕ} → s ≡ slice_range line start stop → stop ≤ length line
    → stop ≤ start + 8 → IsInt (slice_range line start stop) → IsFewDigits s
few_in line start stop e within near int = search (arith, length_slice)

pub int_in : {s t : List ℕ} → s ≡ t → IsFewDigits s → IsInt t
int_in e few = rw e at few.0

pub no_int : (line : List ℕ) (start stop : ℕ) → stop ≤ start → IsInt (slice_range line start stop) → ⊥
no_int line start stop h int = search arith

pub all_from_eight : (line : List ℕ) (count stop : ℕ) → count ≤ 8 → 8 ≤ stop
    → AllDigits (slice_range line (stop - count) stop) → AllDigits (drop (8 - count) (slice_range line (stop - 8) stop))
all_from_eight line count stop few room all = rw (end_of_eight line count stop few room) all

-- ---- digits that are a number of JSON

-- they are an int
pub number_int : (s : List ℕ) → SpellsNumber s → AllDigits s → IsInt s
number_int s number all =
    search arith

-- ---- and what stands behind the minus of a number is one

tests : List ℕ → Bool
tests t = is_int (digits_front t) && (is_frac (digits_rest t) && is_exp (after_frac (digits_rest t)))

body_number : (s : List ℕ) → SpellsNumber s → SpellsNumber (body s)
unfolding tests
body_number s number =
    let test = (spells_test s number.0 number.1).0 in
    let front = digits_front (body s) in
    let int = int_from_test front (front_all (body s)) (and_parts _ _ test).0 in
    let unsigned = ap (begins 45) (front_rest (body s))
    ∙ digit_begins 45 front (digits_rest (body s)) (int_is_digits front int) (omega arith) in
    (written_of (body s), test_spells (body s) (ap tests (no_minus (body s) unsigned) ∙ test))

pub begun_behind : (line : List ℕ) (start stop : ℕ) → start < stop → stop ≤ length line → get_or line start 0 ≡ 45
    → IsNumberIfBegun (slice_range line start stop) → IsNumberIfBegun (slice_range line (start + 1) stop)
begun_behind line start stop order within minus number = λ low high.
    let first = first_is line start stop order ∙ minus in
    rw (body_behind line start stop order (minus_first line start stop order within minus)) at
    (body_number (slice_range line start stop) (number (omega arith) (omega arith)))
