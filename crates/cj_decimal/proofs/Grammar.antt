-- The way through the digits of a spelling, and its test against the grammar.
use Rattle.cj_decimal.proofs.Common.{◌≡◌, ℕ, ◌+◌, ◌-◌, ◌*◌, ◌<◌, ◌≤◌, List, [], ◌∷◌, length, drop, drop_all, drop_more, get_or, true, false, cond-true, cond-false, refl, sym, ap, ◌∙◌, arith, cases_lt, is_ascii_digit, begins_digit, digits_front, digits_rest, value_after, Passes, Carries, Stops, ◌++◌, append-nil, Bool, and_from, and_parts, cases_Bool, cond, nat_eq, ◌||◌, inl, inr, ◌⊎◌, ℤ, signed, IsDigit, AllDigits, IsDigits, IsInt, IsMinus, IsFrac, IsExpSign, ExpParts, IsExp, Spells, Written, digits_value, begins, is_empty, body, is_int, is_frac, frac_digits, after_frac, exp_digits, is_whole_digits, is_exp, exp_value, is_number, written_of}
use Rattle.std.proofs.lemmas.Bool.{cases_eq, cond_both, or_from, or_left, or_right}

-- ---- the way through the digits of a spelling

pub front_digit : (b : ℕ) (s : List ℕ) → is_ascii_digit b ≡ true → digits_front (b ∷ s) ≡ b ∷ digits_front s
unfolding digits_front
front_digit b s h = cond-true _ _ _ h

pub front_other : (b : ℕ) (s : List ℕ) → is_ascii_digit b ≡ false → digits_front (b ∷ s) ≡ []
unfolding digits_front
front_other b s h = cond-false _ _ _ h

pub front_end : digits_front [] ≡ []
unfolding digits_front
front_end = refl

pub rest_digit : (b : ℕ) (s : List ℕ) → is_ascii_digit b ≡ true → digits_rest (b ∷ s) ≡ digits_rest s
unfolding digits_rest
rest_digit b s h = cond-true _ _ _ h

pub rest_other : (b : ℕ) (s : List ℕ) → is_ascii_digit b ≡ false → digits_rest (b ∷ s) ≡ b ∷ s
unfolding digits_rest
rest_other b s h = cond-false _ _ _ h

pub rest_end : digits_rest [] ≡ []
unfolding digits_rest
rest_end = refl

pub digit_bounds : (b : ℕ) → is_ascii_digit b ≡ true → (48 ≤ b) × (b ≤ 57)
digit_bounds b h = (grind arith, grind arith)

front_step : (s : List ℕ) (at : ℕ) → at < length s → is_ascii_digit (get_or s at 0) ≡ true
    → digits_front (drop at s) ≡ get_or s at 0 ∷ digits_front (drop (at + 1) s)
front_step s at h d = search (arith, drop_more, front_digit)

pub passes_refl : (s : List ℕ) (from : ℕ) → from ≤ length s → Passes s from from
passes_refl s from h = search arith

pub passes_step : (s : List ℕ) (from at : ℕ) → Passes s from at → at < length s → is_ascii_digit (get_or s at 0) ≡ true
    → Passes s from (at + 1)
passes_step s from at c h d = search (arith, drop_more, rest_digit, front_step)

pub carries_refl : (s : List ℕ) (from n : ℕ) → Carries s from n from n
carries_refl s from n = record { value = refl }

pub carries_step : (s : List ℕ) (from n at m : ℕ) → Carries s from n at m → at < length s
    → is_ascii_digit (get_or s at 0) ≡ true → Carries s from n (at + 1) (10 * m + (get_or s at 0 - 48))
carries_step s from n at m c h d = search (arith, front_step)

-- the first byte there, if there is one, is a digit
pub digit_at : (s : List ℕ) (at : ℕ) → at < length s → begins_digit (drop at s) ≡ is_ascii_digit (get_or s at 0)
unfolding begins_digit
digit_at s at h = ap begins_digit (drop_more s at 0 h)

pub no_digit_past : (s : List ℕ) (at : ℕ) → length s ≤ at → begins_digit (drop at s) ≡ false
unfolding begins_digit
no_digit_past s at h = ap begins_digit (drop_all at s h)

-- a digit that a test has found is a byte of the list
pub record IsDigitThere (s : List ℕ) (at : ℕ) : Type 0 where
  pub within : at < length s
  pub digit : is_ascii_digit (get_or s at 0) ≡ true
  pub low : 48 ≤ get_or s at 0
  pub high : get_or s at 0 ≤ 57

-- the first part of the conclusion shows `grind` the call to match
pub is_digit_at : (s : List ℕ) (at : ℕ) → begins_digit (drop at s) ≡ true
    → (begins_digit (drop at s) ≡ true) × IsDigitThere s at
is_digit_at s at t = search (arith, cases_lt, digit_at, digit_bounds, no_digit_past)

-- where no digit follows, the digits stop
pub front_of_stop : (t : List ℕ) → begins_digit t ≡ false → (digits_front t ≡ []) × (digits_rest t ≡ t)
unfolding begins_digit
front_of_stop [] h = (front_end, rest_end)
front_of_stop (b ∷ t) h = (front_other b t h, rest_other b t h)

pub stops_here : (s : List ℕ) (from at : ℕ) → Passes s from at → begins_digit (drop at s) ≡ false → Stops s from at
stops_here s from at c h = search (arith, front_of_stop)

pub stops_at_other : (s : List ℕ) (from at : ℕ) → Passes s from at → at < length s
    → is_ascii_digit (get_or s at 0) ≡ false → Stops s from at
stops_at_other s from at c h d = stops_here s from at c (digit_at s at h ∙ d)

pub stops_at_end : (s : List ℕ) (from at : ℕ) → Passes s from at → length s ≤ at → Stops s from at
stops_at_end s from at c h = stops_here s from at c (no_digit_past s at h)

-- and the number that was carried is the number of all of them
pub carried_here : (s : List ℕ) (from n at m : ℕ) → Carries s from n at m → begins_digit (drop at s) ≡ false
    → m ≡ value_after n (digits_front (drop from s))
carried_here s from n at m c h = sym (ap (value_after m) (front_of_stop (drop at s) h).0) ∙ c.value

pub carried_at_end : (s : List ℕ) (from n at m : ℕ) → Carries s from n at m → length s ≤ at
    → m ≡ value_after n (digits_front (drop from s))
carried_at_end s from n at m c h = carried_here s from n at m c (no_digit_past s at h)

pub stops_after : (s : List ℕ) (from at stop : ℕ) → Passes s from at → Stops s at stop → Stops s from stop
stops_after s from at stop c r = search arith

-- ---- the test of a spelling from its front, and the grammar

digit_test : (b : ℕ) → IsDigit b → is_ascii_digit b ≡ true
digit_test b h = search arith

-- ---- digits at the front
pub front_all : (s : List ℕ) → AllDigits (digits_front s)
unfolding digits_front
front_all [] = tt
front_all (b ∷ s) =
    cond_both (is_ascii_digit b) _ _ AllDigits (λ e. (digit_bounds b e, front_all s)) (λ _. tt)

pub front_rest : (s : List ℕ) → s ≡ digits_front s ++ digits_rest s
unfolding digits_front digits_rest
front_rest [] = refl
front_rest (b ∷ s) = search (arith, front_rest s)

-- digits, and then no digit: the front is those digits
pub front_append : (ds t : List ℕ) → AllDigits ds → begins_digit t ≡ false → digits_front (ds ++ t) ≡ ds
front_append [] t d h = (front_of_stop t h).0
front_append (b ∷ ds) t d h = front_digit b (ds ++ t) (digit_test b d.0) ∙ ap (λ r. b ∷ r) (front_append ds t d.1 h)

pub rest_append : (ds t : List ℕ) → AllDigits ds → begins_digit t ≡ false → digits_rest (ds ++ t) ≡ t
rest_append [] t d h = (front_of_stop t h).1
rest_append (b ∷ ds) t d h = rest_digit b (ds ++ t) (digit_test b d.0) ∙ rest_append ds t d.1 h

-- digits alone
pub front_alone : (s : List ℕ) → AllDigits s → digits_front s ≡ s
unfolding begins_digit
front_alone s d = ap digits_front (sym (append-nil s)) ∙ front_append s [] d refl

pub rest_alone : (s : List ℕ) → AllDigits s → digits_rest s ≡ []
unfolding begins_digit
rest_alone s d = ap digits_rest (sym (append-nil s)) ∙ rest_append s [] d refl

pub front_is_all : (s : List ℕ) → digits_rest s ≡ [] → digits_front s ≡ s
front_is_all s none = sym (front_rest s ∙ ap (λ r. digits_front s ++ r) none ∙ append-nil (digits_front s))

-- ---- the int part
pub int_digits : (s : List ℕ) → IsInt s → AllDigits s
int_digits [] h = absurd h
int_digits (b ∷ s) (inl zero) = search arith
int_digits (b ∷ s) (inr more) = ((omega arith, more.1), more.2)

pub int_test : (s : List ℕ) → IsInt s → is_int s ≡ true
unfolding is_int is_empty
int_test [] h = absurd h
int_test (b ∷ s) (inl zero) = rw zero.1 (or_right _ _ refl)
int_test (b ∷ s) (inr more) = grind arith

empty_from_test : (s : List ℕ) → is_empty s ≡ true → s ≡ []
unfolding is_empty
empty_from_test [] h = refl
empty_from_test (b ∷ s) h = absurd (cc h)

pub int_from_test : (s : List ℕ) → AllDigits s → is_int s ≡ true → IsInt s
unfolding is_int
int_from_test [] d h = absurd (cc h)
int_from_test (b ∷ s) d h = search (arith, cases_eq, empty_from_test)

-- ---- tests of the first byte
pub begins_is : (c : ℕ) (s : List ℕ) → begins c s ≡ true → s ≡ c ∷ drop 1 s
unfolding begins
begins_is c [] h = absurd (cc h)
begins_is c (b ∷ s) h = search arith

pub begins_own : (c : ℕ) (s : List ℕ) → begins c (c ∷ s) ≡ true
unfolding begins
begins_own c s = grind arith

begins_other : {c b : ℕ} (s : List ℕ) → (b ≡ c → ⊥) → begins c (b ∷ s) ≡ false
unfolding begins
begins_other s h = grind arith

begins_none : (c : ℕ) → begins c [] ≡ false
unfolding begins
begins_none c = refl

pub digit_begins : (c : ℕ) (s t : List ℕ) → IsDigits s → c < 48 → begins c (s ++ t) ≡ false
digit_begins c [] t d h = absurd d
digit_begins c (b ∷ s) t d h = begins_other (s ++ t) (λ e. omega arith)

pub digit_begins_alone : (c : ℕ) (s : List ℕ) → IsDigits s → c < 48 → begins c s ≡ false
digit_begins_alone c [] d h = absurd d
digit_begins_alone c (b ∷ s) d h = begins_other s (λ e. omega arith)

pub all_of : (s : List ℕ) → IsDigits s → AllDigits s
all_of [] d = absurd d
all_of (b ∷ s) d = d

pub int_is_digits : (s : List ℕ) → IsInt s → IsDigits s
int_is_digits [] h = absurd h
int_is_digits (b ∷ s) h = int_digits (b ∷ s) h

-- ---- digits to the end
whole_test : (s : List ℕ) → IsDigits s → is_whole_digits s ≡ true
unfolding is_whole_digits begins_digit is_empty
whole_test [] d = absurd d
whole_test (b ∷ s) d = and_from _ _ (digit_test b d.0) (ap is_empty (rest_alone (b ∷ s) d))

digits_from_test : (s : List ℕ) → begins_digit s ≡ true → AllDigits s → IsDigits s
unfolding begins_digit
digits_from_test [] h d = cc h
digits_from_test (b ∷ s) h d = d

whole_from_test : (s : List ℕ) → is_whole_digits s ≡ true → IsDigits s
unfolding is_whole_digits
whole_from_test s h =
    let tests = and_parts _ _ h in
    digits_from_test s tests.0 (rw (front_is_all s (empty_from_test _ tests.1)) at (front_all s))

-- ---- the exponent
sign_split : (negative : Bool) (sign digits : List ℕ) → IsExpSign negative sign → IsDigits digits
    → (begins 45 (sign ++ digits) ≡ negative) × (exp_digits (sign ++ digits) ≡ digits)
unfolding exp_digits
sign_split true sign digits s d =
    rw s (begins_own 45 digits, cond-true _ _ _ (or_left _ _ (begins_own 45 digits)))
sign_split false sign digits (inl none) d = search (arith, digit_begins_alone, or_from)
sign_split false sign digits (inr plus) d =
    search (arith, begins_other, or_right, begins_own)

abbrev IsMark : ℕ → Type 0
IsMark b = (b ≡ 101) ⊎ (b ≡ 69)

mark_test : (b : ℕ) → IsMark b → (nat_eq b 101 || nat_eq b 69) ≡ true
mark_test b (inl e) = rw e
mark_test b (inr e) = rw e

mark_no_digit : (b : ℕ) → IsMark b → is_ascii_digit b ≡ false
mark_no_digit b (inl e) = rw e
mark_no_digit b (inr e) = rw e

mark_no_point : (b : ℕ) (s : List ℕ) → IsMark b → begins 46 (b ∷ s) ≡ false
mark_no_point b s (inl e) = begins_other s (λ f. omega arith)
mark_no_point b s (inr e) = begins_other s (λ f. omega arith)

-- a right exponent passes the test, with its value; it begins neither with a digit nor with a point
exp_test : (e : ℤ) (t : List ℕ) → IsExp e t → (is_exp t ≡ true) × (exp_value t ≡ e) × (begins_digit t ≡ false)
    × (begins 46 t ≡ false)
unfolding is_exp exp_value begins_digit
exp_test e t (inl none) = rw none.1 (refl, sym none.0, refl, begins_none 46)
exp_test e t (inr p) =
    let split = sign_split p.negative p.sign p.digits p.sign_is p.digits_are in
    rw p.joined (
      and_from _ _ (mark_test p.mark p.mark_is) (ap is_whole_digits split.1 ∙ whole_test p.digits p.digits_are),
      rw (split.0, split.1) (sym p.value),
      mark_no_digit p.mark p.mark_is,
      mark_no_point p.mark (p.sign ++ p.digits) p.mark_is,
    )

exp_parts : (b : ℕ) {t : List ℕ} (sign digits : List ℕ) (negative : Bool) → IsMark b → IsExpSign negative sign
    → IsDigits digits → t ≡ sign ++ digits → ExpParts (signed negative (digits_value digits)) (b ∷ t)
exp_parts b sign digits negative mark s d e = search arith

parts_by_sign : (b : ℕ) (t : List ℕ) (minus plus : Bool) → IsMark b → begins 45 t ≡ minus → begins 43 t ≡ plus
    → IsDigits (cond (minus || plus) (drop 1 t) t)
    → ExpParts (signed minus (digits_value (cond (minus || plus) (drop 1 t) t))) (b ∷ t)
parts_by_sign b t true plus mark e f d = exp_parts b (45 ∷ []) (drop 1 t) true mark refl d (begins_is 45 t e)
parts_by_sign b t false true mark e f d = exp_parts b (43 ∷ []) (drop 1 t) false mark (inr refl) d (begins_is 43 t f)
parts_by_sign b t false false mark e f d = exp_parts b [] t false mark (inl refl) d refl

pub exp_from_test : (t : List ℕ) → is_exp t ≡ true → IsExp (exp_value t) t
unfolding is_exp exp_value exp_digits
exp_from_test [] h = inl (refl, refl)
exp_from_test (b ∷ t) h = search (arith, and_parts, parts_by_sign, whole_from_test)

-- ---- the fraction
pub frac_bare : (r : List ℕ) → begins 46 r ≡ false → (is_frac r ≡ true) × (frac_digits r ≡ []) × (after_frac r ≡ r)
unfolding is_frac frac_digits after_frac
frac_bare r point = rw point (refl, refl, refl)

pub frac_pointed : (r : List ℕ) → begins 46 r ≡ true → (is_frac r ≡ begins_digit (drop 1 r))
    × (frac_digits r ≡ digits_front (drop 1 r)) × (after_frac r ≡ digits_rest (drop 1 r))
unfolding is_frac frac_digits after_frac
frac_pointed r point = rw point (refl, refl, refl)

first_digit : (s t : List ℕ) → IsDigits s → begins_digit (s ++ t) ≡ true
unfolding begins_digit
first_digit [] t d = absurd d
first_digit (b ∷ s) t d = digit_test b d.0

point_no_digit : (s : List ℕ) → begins_digit (46 ∷ s) ≡ false
unfolding begins_digit
point_no_digit s = refl

frac_test : (digits fraction exp : List ℕ) → IsFrac digits fraction → begins_digit exp ≡ false → begins 46 exp ≡ false
    → (is_frac (fraction ++ exp) ≡ true) × (frac_digits (fraction ++ exp) ≡ digits)
    × (after_frac (fraction ++ exp) ≡ exp) × (begins_digit (fraction ++ exp) ≡ false)
frac_test digits fraction exp (inl none) stop point =
    let bare = frac_bare exp point in rw (none.1, none.0) (bare.0, bare.1, bare.2, stop)
frac_test digits fraction exp (inr some) stop point =
    let test = frac_pointed (46 ∷ (digits ++ exp)) (begins_own 46 (digits ++ exp)) in
    let all = all_of digits some.0 in
    rw some.1 (
      test.0 ∙ first_digit digits exp some.0,
      test.1 ∙ front_append digits exp all stop,
      test.2 ∙ rest_append digits exp all stop,
      point_no_digit (digits ++ exp),
    )

front_digits : (s : List ℕ) → begins_digit s ≡ true → IsDigits (digits_front s)
unfolding begins_digit
front_digits [] h = absurd (cc h)
front_digits (b ∷ s) h = rw (front_digit b s h) (digit_bounds b h, front_all s)

frac_from_test : (r : List ℕ) → is_frac r ≡ true → (fraction : List ℕ) × IsFrac (frac_digits r) fraction
    × (r ≡ fraction ++ after_frac r)
frac_from_test r h = elim (cases_Bool (begins 46 r)) [
  | inl point ↦
      let test = frac_pointed r point in
      rw (test.1, test.2) (
        46 ∷ digits_front (drop 1 r),
        inr (front_digits (drop 1 r) (sym test.0 ∙ h), refl),
        begins_is 46 r point ∙ ap (λ s. 46 ∷ s) (front_rest (drop 1 r)),
      )
  | inr none ↦ let bare = frac_bare r none in ([], inl (bare.1, refl), sym bare.2)
]

-- ---- the whole spelling
pub minus_there : (s : List ℕ) → begins 45 s ≡ true → body s ≡ drop 1 s
unfolding body
minus_there s e = cond-true _ _ _ e

pub no_minus : (s : List ℕ) → begins 45 s ≡ false → body s ≡ s
unfolding body
no_minus s e = cond-false _ _ _ e

sign_of : (negative : Bool) (minus r : List ℕ) → IsMinus negative minus → begins 45 r ≡ false
    → (begins 45 (minus ++ r) ≡ negative) × (body (minus ++ r) ≡ r)
sign_of true minus r e h = rw e (begins_own 45 r, minus_there (45 ∷ r) (begins_own 45 r))
sign_of false minus r e h = rw e (h, no_minus r h)

sign_from_test : (s : List ℕ) → (minus : List ℕ) × IsMinus (begins 45 s) minus × (s ≡ minus ++ body s)
sign_from_test s = elim (cases_Bool (begins 45 s)) [
  | inl e ↦ (45 ∷ [], rw e refl, begins_is 45 s e ∙ ap (λ r. 45 ∷ r) (sym (minus_there s e)))
  | inr e ↦ ([], rw e refl, sym (no_minus s e))
]

-- a number of the grammar passes the test, and says what the test finds
pub spells_test : (s : List ℕ) (n : Written) → Spells s n → (is_number s ≡ true) × (written_of s ≡ n)
spells_test s n h =
    let exp = exp_test n.exponent h.exp h.exp_is in
    let frac = frac_test n.frac h.fraction h.exp h.frac_is exp.2 exp.3 in
    let tail = h.fraction ++ h.exp in
    let sign = sign_of n.negative h.minus (n.int ++ tail) h.minus_is
    (digit_begins 45 n.int tail (int_is_digits n.int h.int_is) (omega arith)) in
    let rest = rest_append n.int tail (int_digits n.int h.int_is) frac.3 in
    rw (
      h.joined,
      sign.0,
      sign.1,
      front_append n.int tail (int_digits n.int h.int_is) frac.3,
      rest,
      frac.1,
      frac.2,
      exp.1,
    )
    (and_from _ _ (int_test n.int h.int_is) (and_from _ _ frac.0 exp.0), refl)

-- and what passes the test is a number of the grammar
pub test_spells : (s : List ℕ) → is_number s ≡ true → Spells s (written_of s)
test_spells s h =
    let int = and_parts _ _ h in
    let more = and_parts _ _ int.1 in
    let sign = sign_from_test s in
    let frac = frac_from_test (digits_rest (body s)) more.0 in
    record {
      minus = sign.0;
      fraction = frac.0;
      exp = after_frac (digits_rest (body s));
      minus_is = sign.1;
      int_is = int_from_test (digits_front (body s)) (front_all (body s)) int.0;
      frac_is = frac.1;
      exp_is = exp_from_test _ more.1;
      joined = sign.2 ∙ ap (λ r. sign.0 ++ r) (front_rest (body s) ∙ ap (λ r. digits_front (body s) ++ r) frac.2);
    }
