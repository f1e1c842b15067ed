-- Numbers of one digit, steps over a list, and arrays that have no finding.
use Rattle.cj_geometry.proofs.Common.{Class, IsValue, List, Number, Ok, Option, Reason, Some, Tree, [], arith, codes, cond, index, inl, inr, is_outside, negsuc, number, one, pos, refl, scalar, sym, true, whole_answer, whole_of, ℕ, ℤ, ◌<◌, ◌^◌, ◌≡◌, AreSizesAt, ap, cases_lt, drop, get_or, length, length-set, set, size, slice_get, suc, take, total_size, zero, ◌%◌, ◌++◌, ◌+◌, ◌-◌, ◌∙◌, ◌∷◌, ◌≤◌, AreLone, Finding, IfSome, IsSome, None, flat_map, length-drop, nat_lt, not, whole_number, All, Array, items_of, kind_of, of_length, spelling_of, nat_tests}
use Rattle.std.proofs.lemmas.Int.{ints}
use Rattle.cj_decimal.specs.Meaning.Number.{scaled as number_of}
use Rattle.cj_decimal.specs.Meaning.Reading.{digits_value, digits_front, digits_rest, begins, begins_digit, is_int, is_empty}
use Rattle.cj_decimal.proofs.Readings.{answer_digits, answer_whole, few_whole}
use Rattle.cj_geometry.proofs.Numbers.{index-read, number-read, whole-read, rule-of-whole, whole-there, index-of-whole}
use Rattle.std.proofs.Common.{◌*◌, ◌/◌, get_or-set_same, get_or-set_other, take-append-drop, mul-zero}
use Rattle.std.proofs.lemmas.Nat.{div_below, mul-le}
use Rattle.std.proofs.lemmas.List.{drop_more, take_more}
use Rattle.std.proofs.lemmas.List.Concat.{flat_map-append}
use Rattle.cj_spans.specs.Wholes.{IsWholeNumber, IsShortWhole}
use Rattle.cj_decimal.specs.FewDigits.{IsFewSigned}

-- ---- numbers of one digit

-- the number that a spelling stands for, at these places
abbrev pub number_at : List ℕ → ℕ → ℕ → Tree
number_at s i j = scalar Number (record { start = i; stop = j; spelling = s })

-- what a digit reads as
of_digits : {s : List ℕ} (n : ℕ) → is_int (digits_front s) ≡ true → digits_rest s ≡ []
    → n ≡ digits_value (digits_front s) → n < 10 ^ 18 → (c : Class s) → Ok (Some (pos n)) ≡ whole_answer c
of_digits {s} n int rest value small c =
    sym (search (arith, answer_digits))

zero_read : (c : Class (codes "0")) → Ok (Some (pos 0)) ≡ whole_answer c
unfolding digits_front digits_rest begins begins_digit is_int is_empty
zero_read = of_digits 0 refl refl refl (omega arith)

one_read : (c : Class (codes "1")) → Ok (Some (pos 1)) ≡ whole_answer c
unfolding digits_front digits_rest begins begins_digit is_int is_empty
one_read = of_digits 1 refl refl refl (omega arith)

two_read : (c : Class (codes "2")) → Ok (Some (pos 2)) ≡ whole_answer c
unfolding digits_front digits_rest begins begins_digit is_int is_empty
two_read = of_digits 2 refl refl refl (omega arith)

-- and one below 0
minus_one : IsValue (codes "-1") (number_of (negsuc 0) (pos 0))
minus_one = record {
  written = record { negative = true; int = codes "1"; frac = []; exponent = pos 0 };
  spells = record {
    minus = codes "-";
    fraction = [];
    exp = [];
    minus_is = refl;
    int_is = inr (omega arith, omega arith, tt);
    frac_is = inl (refl, refl);
    exp_is = inl (refl, refl);
    joined =
        refl;
  };
  same = record { coefficients = refl };
  normal = grind arith;
}

minus_one_read : (c : Class (codes "-1")) → Ok (Some (negsuc 0)) ≡ whole_answer c
minus_one_read c =
    sym (answer_whole (codes "-1") _ minus_one
    (grind (arith, ints))
    (negsuc 0) c
    (grind arith))

module _ (i j : ℕ) where
  module _ (reason : Reason) (count : Option ℕ) where
    of_read : (s : List ℕ) (w : ℤ) → ((c : Class s) → Ok (Some w) ≡ whole_answer c)
        → index reason count (number_at s i j) ≡ cond (is_outside count w) (one reason (number_at s i j)) []
    of_read s w read = index-read [] (number_at s i j) refl s refl (Ok (Some w)) (Ok (Some w)) read refl reason count

    pub index-zero : index reason count (number_at (codes "0") i j) ≡ cond (is_outside count (pos 0))
        (one reason (number_at (codes "0") i j)) []
    index-zero = of_read (codes "0") (pos 0) zero_read

    pub index-one : index reason count (number_at (codes "1") i j) ≡ cond (is_outside count (pos 1))
        (one reason (number_at (codes "1") i j)) []
    index-one = of_read (codes "1") (pos 1) one_read

    pub index-two : index reason count (number_at (codes "2") i j) ≡ cond (is_outside count (pos 2))
        (one reason (number_at (codes "2") i j)) []
    index-two = of_read (codes "2") (pos 2) two_read

    pub index-minus_one : index reason count (number_at (codes "-1") i j) ≡ cond (is_outside count (negsuc 0))
        (one reason (number_at (codes "-1") i j)) []
    index-minus_one = of_read (codes "-1") (negsuc 0) minus_one_read

  module _ (s : List ℕ) (w : ℤ) (read : (c : Class s) → Ok (Some w) ≡ whole_answer c) where
    of_number : number (number_at s i j) ≡ []
    of_number = number-read [] (number_at s i j) refl s refl (Ok (Some w)) (Ok (Some w)) read refl

    of_whole : whole_of (number_at s i j) ≡ Some w
    of_whole = whole-read [] (number_at s i j) refl s refl (Ok (Some w)) (Ok (Some w)) read refl

  pub number-zero : number (number_at (codes "0") i j) ≡ []
  number-zero = of_number (codes "0") (pos 0) zero_read

  pub number-one : number (number_at (codes "1") i j) ≡ []
  number-one = of_number (codes "1") (pos 1) one_read

  pub whole-zero : whole_of (number_at (codes "0") i j) ≡ Some (pos 0)
  whole-zero = of_whole (codes "0") (pos 0) zero_read

  pub whole-one : whole_of (number_at (codes "1") i j) ≡ Some (pos 1)
  whole-one = of_whole (codes "1") (pos 1) one_read

-- ---- what is kept of a list at even steps

-- of a walk over a list: what is left, and what was noted before it
pub record IsNoted (places step : ℕ) (ts left : List Tree) (sizes : List ℕ) (place until sum : ℕ) : Type 0 where
  pub room : length sizes ≡ places
  pub below : length ts < places * step
  pub small : total_size ts < 2147483648
  pub few : length left ≤ length ts
  pub rest : left ≡ drop (length ts - length left) ts
  pub passed : sum + total_size left ≡ total_size ts
  pub next : place * step ≡ length ts - length left + until
  pub noted : (n : ℕ) → n < place → get_or sizes n 0 ≡ total_size (take (n * step) ts)

pub total_size-append : (ts us : List Tree) → total_size (ts ++ us) ≡ total_size ts + total_size us
total_size-append [] us = omega arith
total_size-append (t ∷ ts) us = let e = total_size-append ts us in omega arith

-- what was passed is as much as the first items are
passed_is : (n : ℕ) (ts : List Tree) {left : List Tree} (passed : ℕ) → left ≡ drop n ts
    → passed + total_size left ≡ total_size ts
    → passed ≡ total_size (take n ts)
passed_is n ts passed e h =
    let whole = ap total_size (take-append-drop n ts) in let parts = total_size-append (take n ts) (drop n ts) in
    let same = ap total_size e in omega arith

-- a step is due: there is a place for it
pub has_place : {places step : ℕ} {ts left : List Tree} (t : Tree) (rest : List Tree) {sizes : List ℕ}
    {place until passed : ℕ} → IsNoted places step ts left sizes place until passed → left ≡ t ∷ rest → until ≡ 0
    → place < places
has_place {places} {step} t rest {place} w e z = search (arith, cases_lt, mul-le)

-- it is noted
pub noted_one : {places step : ℕ} {ts left : List Tree} (t : Tree) (rest : List Tree) {sizes : List ℕ}
    {place until passed : ℕ} → IsNoted places step ts left sizes place until passed → left ≡ t ∷ rest → until ≡ 0
    → IsNoted places step ts left (set sizes place passed) (place + 1) step passed
noted_one {step} {ts} {left} t rest {sizes} {place} {passed} w e z =
    let in_room = has_place t rest w e z in
    let at : place * step ≡ length ts - length left = (let n = w.next in omega arith) in
    record {
      room = length-set sizes place passed ∙ w.room;
      below = w.below;
      small = w.small;
      few = w.few;
      rest = w.rest;
      passed = w.passed;
      next = (let n = w.next in omega arith);
      noted = λ n h. elim (cases_lt n place) [
        | inl l ↦ get_or-set_other sizes place n passed 0 (λ e. absurd (omega arith)) ∙ w.noted n l
        | inr g ↦ let same : n ≡ place = omega arith in
            ap (λ k. get_or (set sizes place passed) k 0) same ∙ get_or-set_same sizes place passed 0 (omega arith)
            ∙ passed_is (length ts - length left) ts passed w.rest w.passed
            ∙ ap (λ k. total_size (take k ts)) (sym at ∙ ap (λ k. k * step) (sym same))
      ];
    }

rest_of : (n : ℕ) (ts : List Tree) (t : Tree) (rest : List Tree) → drop n ts ≡ t ∷ rest → drop (suc n) ts ≡ rest
rest_of (suc n) (u ∷ ts) t rest h = rest_of n ts t rest h
rest_of _ _ t rest h = cc

-- an item is passed
pub passes : {places step : ℕ} {ts left : List Tree} (t : Tree) (rest : List Tree) {sizes : List ℕ}
    {place until passed : ℕ} → IsNoted places step ts left sizes place until passed → left ≡ t ∷ rest → 0 < until
    → IsNoted places step ts rest sizes place (until - 1) (passed + size t)
passes {ts} {left} t rest {passed} w e more =
    let count = ap length e in let sum = ap total_size e in let few = w.few in
    let one : suc (length ts - length left) ≡ length ts - length rest = omega arith in
    grind (arith, rest_of)

steps_some : (places step n : ℕ) → n < places * step → 0 < step
steps_some places zero n h = absurd (omega (arith, mul-zero places))
steps_some places (suc step) n h = omega arith

-- both ways of a turn
pub on_then : {places step : ℕ} {ts left : List Tree} (t : Tree) (rest : List Tree) {sizes sizes' : List ℕ}
    {place place' until until' sum own : ℕ} → IsNoted places step ts left sizes place until sum → left ≡ t ∷ rest
    → until ≡ 0
    → sizes' ≡ set sizes place sum → place' ≡ place + 1 → until' ≡ step → own ≡ size t
    → IsNoted places step ts rest sizes' place' (until' - 1) (sum + own)
on_then {places} {step} {ts} t rest w e z s p u o =
    let low = steps_some places step (length ts) w.below in
    let noted =
    passes t rest (noted_one t rest w e z) e (omega arith) in
    rw (s, p, u, o) noted

pub on_else : {places step : ℕ} {ts left : List Tree} (t : Tree) (rest : List Tree) {sizes sizes' : List ℕ}
    {place place' until until' sum own : ℕ} → IsNoted places step ts left sizes place until sum → left ≡ t ∷ rest
    → (until ≡ 0 → ⊥)
    → sizes' ≡ sizes → place' ≡ place → until' ≡ until → own ≡ size t
    → IsNoted places step ts rest sizes' place' (until' - 1) (sum + own)
on_else t rest w e z s p u o =
    let noted = passes t rest w e (omega arith) in
    rw (s, p, u, o) noted

-- ---- an item by its number

-- the place of a step, and of a finer one
pub step_of : (count number : ℕ) → number < count → number / (count / 64 + 1) < 64
step_of count number h = div_below number (count / 64 + 1) 64 (omega arith) (omega arith)

pub finer_step_of : (count number : ℕ) → number < count → number / (count / 1024 + 1) < 1024
finer_step_of count number h = div_below number (count / 1024 + 1) 1024 (omega arith) (omega arith)

item_dropped : (n m : ℕ) (ts : List Tree) → slice_get (drop n ts) m ≡ slice_get ts (n + m)
item_dropped zero m ts = ap (slice_get ts) (omega arith)
item_dropped (suc n) m [] = refl
item_dropped (suc n) m (t ∷ ts) = search (arith, item_dropped n m ts)

-- the item of a number is so far behind the step before it
pub found_item : (ts : List Tree) {left : List Tree} (sizes : List ℕ) (step number : ℕ) {size : ℕ}
    → AreSizesAt step ts sizes
    → number < length ts → size ≡ get_or sizes (number / step) 0
    → ((k : ℕ) → k ≤ length ts → total_size (take k ts) ≡ size → left ≡ drop k ts)
    → slice_get left (number % step) ≡ slice_get ts number
found_item ts sizes step number noted h s finds = search (arith, item_dropped)

-- ---- items at the front of an array that hold nothing, and have no finding

-- ---- one item more

module _ (n : ℕ) (ts : List Tree) (t : Tree) (rest : List Tree) (next : drop n ts ≡ t ∷ rest) where
  there : n < length ts
  there = omega (arith, ap length next, length-drop n ts)

  front : take (n + 1) ts ≡ take n ts ++ t ∷ []
  front =
      let same : get_or ts n t ≡ t = cc (sym (drop_more ts n t there) ∙ next) in
      take_more ts n t there ∙ ap (λ x. take n ts ++ x ∷ []) same

  pub lone-more : size t ≡ 1 → AreLone n ts → AreLone (n + 1) ts
  lone-more one_is h = search (arith, there, front, total_size-append)

  pub none-more : (rule : Tree → List Finding) → rule t ≡ [] → flat_map rule (take n ts) ≡ []
      → flat_map rule (take (n + 1) ts) ≡ []
  none-more rule none h = search (arith, front, flat_map-append)

-- what is counted is less than what an array holds
pub lone-below : {n : ℕ} {ts : List Tree} → AreLone n ts → n ≤ total_size ts
lone-below {n} {ts} h =
    omega (arith, total_size-append (take n ts) (drop n ts), ap total_size (take-append-drop n ts), h.sizes)

-- ---- a whole number

pub whole-size : (t : Tree) (w : ℤ) → whole_of t ≡ Some w → size t ≡ 1
whole-size (scalar k a) w e = refl
whole-size _ w e = absurd (cc e)

-- where a whole number was read, there is one
pub whole-lone : (o : Option ℤ) (t : Tree) → IfSome o (λ w. whole_of t ≡ Some w) → IsSome o → (w : ℤ)
    × (whole_of t ≡ Some w)
whole-lone None t is some = absurd (cc some)
whole-lone (Some w) t is some = (w, is)

pub whole-none : (t : Tree) (w : ℤ) → whole_of t ≡ Some w → whole_number t ≡ []
whole-none t w e = rule-of-whole (λ w. []) t w e

pub index-none : (t : Tree) (n bound : ℕ) → whole_of t ≡ Some (pos n) → (reason : Reason) (count : Option ℕ)
    → is_outside count (pos n) ≡ not (nat_lt n bound) → n < bound → index reason count t ≡ []
index-none t n bound is reason count outside below = search (arith, nat_tests, index-of-whole)

-- ---- the rest

pub past-none : (rule : Tree → List Finding) (n : ℕ) (ts : List Tree) → flat_map rule (take n ts) ≡ []
    → flat_map rule (drop n ts) ≡ flat_map rule ts
past-none rule zero ts h = refl
past-none rule (suc n) [] h = refl
past-none rule (suc n) (t ∷ ts) h = past-none rule n ts (right_none (rule t) _ h)
    ∙ ap (λ fs. fs ++ flat_map rule ts) (sym (left_none (rule t) _ h))
  where
    left_none : (fs gs : List Finding) → fs ++ gs ≡ [] → fs ≡ []
    left_none [] gs e = refl
    left_none (f ∷ fs) gs e = absurd (cc e)

    right_none : (fs gs : List Finding) → fs ++ gs ≡ [] → gs ≡ []
    right_none [] gs e = e
    right_none (f ∷ fs) gs e = absurd (cc e)

-- a walk behind one item more has less left
pub left-falls : (n : ℕ) (ts : List Tree) {us vs : List Tree} → us ≡ drop n ts → vs ≡ drop (n + 1) ts
    → n + 1 ≤ length ts
    → length vs < length us
left-falls n ts a b l = search (arith, length-drop)

-- what attributes of functions name
pub ruleset index_facts = (index-none)

-- ---- arrays of three whole numbers have no finding

few-signed : {s : List ℕ} → IsWholeNumber s → length s ≤ 18 → IsFewSigned s
few-signed {s} w short = search arith

short-none : {line : List ℕ} {t : Tree} → IsShortWhole line t → whole_number t ≡ []
short-none {line} {t} w =
    let r = few_whole _ (few-signed w.whole w.short) in
    whole-none t r.0 (whole-there line t w.kind (spelling_of line t) refl r.0 r.1)

each-none : (line : List ℕ) (ts : List Tree) → All (IsShortWhole line) ts → flat_map whole_number ts ≡ []
each-none line [] all = refl
each-none line (t ∷ ts) all =
    ap (λ xs. xs ++ flat_map whole_number ts) (short-none (all 0 t (omega arith)))
    ∙ each-none line ts (λ k d l. all (suc k) d (omega arith))

pub triple-none : (line : List ℕ) (t : Tree) (reason : Reason) → kind_of t ≡ Array → length (items_of t) ≡ 3
    → All (IsShortWhole line) (items_of t) → of_length reason 3 whole_number t ≡ []
triple-none line t reason array three all = rw (array, three) (each-none line (items_of t) all)
