-- The parts of a spelling at their places, and the digits that were read.
use Rattle.cj_decimal.proofs.Common.{◌≡◌, ℕ, zero, suc, ◌+◌, ◌*◌, ◌^◌, ◌<◌, ◌≤◌, Bool, true, false, refl, sym, ap, ◌∙◌, arith, pow-suc, rules, IsTrue, IsTooLong, StandsFor, ◌-◌, List, [], ◌∷◌, ◌++◌, append-nil, drop_all, drop_more, length, drop, get_or, nil_from_length, and_from, and_parts, cond-false, cond-true, nat_eq, ◌||◌, not, Option, None, Some, IsSome, ℤ, pos, le-mul_of_pos_right, signed, value_after, digits_value, body, written_of, digits_front, digits_rest, begins, is_empty, begins_digit, is_int, is_frac, frac_digits, after_frac, exp_digits, is_whole_digits, is_exp, exp_value, SpellsNumber, Spells, IsReadOf, Passes, Stops, Saturates, SaturatesSize}
use Rattle.cj_decimal.proofs.Values.{ten_pow_suc, ten_pow_pos}
use Rattle.std.proofs.lemmas.Bool.{and_left, and_right}
use Rattle.cj_decimal.proofs.Grammar.{frac_bare, front_is_all, spells_test, test_spells, stops_at_end, front_digit, front_other, front_end}

-- ---- one more digit after those that were read

no_gap : (x : ℕ) → x ≡ x * 10 ^ 0
no_gap x = omega arith

over_ten : (n d c p : ℕ) → d < 10 → 10 * n + d ≡ c * (p * 10) → (d ≡ 0) × (n ≡ c * p)
over_ten n d c p h e = search arith

pub too_long_more : {n : ℕ} (d : ℕ) → d < 10 → IsTooLong n → IsTooLong (10 * n + d)
too_long_more {n} d h t = record { too_long = λ c k e. at c k e }
  where
    at : (c k : ℕ) → 10 * n + d ≡ c * 10 ^ k → 10 ^ 36 ≤ c
    at c zero e = let big : 10 ^ 36 ≤ n = t.too_long n 0 (no_gap n) in omega (arith, e)
    at c (suc k) e =
        t.too_long c k (over_ten n d c (10 ^ k) h
        (e ∙ ap (λ p. c * p) (pow-suc 10 k))).1

pub too_long_new : (n d : ℕ) → 0 < d → d < 10 → 10 ^ 35 ≤ n → IsTooLong (10 * n + d)
too_long_new n d p h big = record { too_long = λ c k e. at c k e }
  where
    at : (c k : ℕ) → 10 * n + d ≡ c * 10 ^ k → 10 ^ 36 ≤ c
    at c zero e = omega (arith, e)
    at c (suc k) e =
        absurd (omega (
          arith,
          p,
          (over_ten n d c (10 ^ k) h (e ∙ ap (λ p. c * p) (pow-suc 10 k))).0,
        ))

pub push_short : {lead extra : ℕ} (lost : Bool) {n : ℕ} (d : ℕ) → lead < 10 ^ 35 → (0 < extra → 10 ^ 35 ≤ lead)
    → (IsTrue lost → 10 ^ 35 ≤ lead) → d < 10 → StandsFor lead extra lost n
    → StandsFor (lead * 10 + d) extra lost (10 * n + d)
push_short true d h full cut small s = absurd (omega (arith, cut (search rules)))
push_short {lead} {extra} false {n} d h full cut small s = search arith

pub push_zero : {lead extra : ℕ} {lost : Bool} {n : ℕ} → StandsFor lead extra lost n
    → StandsFor lead (extra + 1) lost (10 * n + 0)
push_zero {lead} {extra} {n} s = record {
  whole = λ e. tenfold n lead (10 ^ extra) (s.whole e) ∙ sym (ap (λ p. lead * p) (ten_pow_suc extra));
  cut = λ e. too_long_more 0 (omega arith) (s.cut e);
}
  where
    tenfold : (n l p : ℕ) → n ≡ l * p → 10 * n + 0 ≡ l * (10 * p)
    tenfold n l p e = omega (arith, e)

pub push_lost : {lead extra : ℕ} (lost : Bool) {n : ℕ} (d : ℕ) → 10 ^ 35 ≤ lead → (lost ≡ false → 0 < d) → d < 10
    → StandsFor lead extra lost n → StandsFor lead extra true (10 * n + d)
push_lost true d full p h s = search (arith, too_long_more)
push_lost {lead} {extra} false {n} d full p h s =
    record { whole = λ e. absurd (cc e); cut = λ _. too_long_new n d (p refl) h (big lead extra n full (s.whole refl)) }
  where
    big : (l x n : ℕ) → 10 ^ 35 ≤ l → n ≡ l * 10 ^ x → 10 ^ 35 ≤ n
    big l x n full e = let is_pos : 0 < 10 ^ x = ten_pow_pos x in grind (arith, e, is_pos)

-- digits of which less than 36 are there are kept whole
pub stands_short : {lead extra : ℕ} (lost : Bool) {n : ℕ} → lead < 10 ^ 35 → (0 < extra → 10 ^ 35 ≤ lead)
    → (IsTrue lost → 10 ^ 35 ≤ lead) → StandsFor lead extra lost n → n ≡ lead
stands_short true small full cut s = absurd (omega (arith, cut refl))
stands_short {lead} {extra} false small full cut s = search arith

pub short_stands : (lead : ℕ) → StandsFor lead 0 false lead
short_stands lead = record { whole = λ _. no_gap lead; cut = λ e. absurd (cc e) }

-- ---- the parts of a spelling at their places

pub begins_at : (c : ℕ) (s : List ℕ) (at : ℕ) → at < length s → begins c (drop at s) ≡ nat_eq (get_or s at 0) c
unfolding begins
begins_at c s at h = ap (begins c) (drop_more s at 0 h)

pub begins_past : (c : ℕ) (s : List ℕ) (at : ℕ) → length s ≤ at → begins c (drop at s) ≡ false
unfolding begins
begins_past c s at h = ap (begins c) (drop_all at s h)

-- a byte that stands there is within
pub begins_within : (c : ℕ) (s : List ℕ) (at : ℕ) → begins c (drop at s) ≡ true → at < length s
unfolding begins
begins_within c s at h = search (arith, begins_past)

pub int_none : (t : List ℕ) → length (digits_front t) ≡ 0 → is_int (digits_front t) ≡ false
unfolding is_int
int_none t e = ap is_int (nil_from_length _ e)

front_head : (b : ℕ) (t : List ℕ) → 0 < length (digits_front (b ∷ t)) → digits_front (b ∷ t) ≡ b ∷ digits_front t
front_head b t h = search (arith, front_digit, front_other)

not_empty : (f : List ℕ) → 0 < length f → is_empty f ≡ false
unfolding is_empty
not_empty [] h = absurd (omega arith)
not_empty (b ∷ f) h = refl

-- the rule on a first 0, for two digits or more
pub int_longer : (t : List ℕ) → 1 < length (digits_front t) → is_int (digits_front t) ≡ not (begins 48 t)
unfolding is_int begins
int_longer [] h = absurd (omega (arith, h, ap length front_end))
int_longer (b ∷ t) h = search (arith, front_head, not_empty)

pub int_alone : (t : List ℕ) → length (digits_front t) ≡ 1 → is_int (digits_front t) ≡ true
unfolding is_int is_empty
int_alone t h = search arith

pub drop_one : (s : List ℕ) (at : ℕ) → at < length s → drop 1 (drop at s) ≡ drop (at + 1) s
drop_one s at h = ap (drop 1) (drop_more s at 0 h)

-- ---- the fraction
pub no_first_digit : (t : List ℕ) → length (digits_front t) ≡ 0 → begins_digit t ≡ false
unfolding begins_digit
no_first_digit [] h = refl
no_first_digit (b ∷ t) h = search (arith, front_digit)

pub first_digit_there : (t : List ℕ) → 0 < length (digits_front t) → begins_digit t ≡ true
unfolding begins_digit
first_digit_there [] h = absurd (omega (arith, h, ap length front_end))
first_digit_there (b ∷ t) h = search (arith, front_other)

-- ---- the exponent
pub no_whole_digits : (t : List ℕ) → length (digits_front t) ≡ 0 → is_whole_digits t ≡ false
unfolding is_whole_digits
no_whole_digits t h = and_left _ _ (no_first_digit t h)

pub digits_then_more : (t : List ℕ) → 0 < length (digits_rest t) → is_whole_digits t ≡ false
unfolding is_whole_digits
digits_then_more t h = and_right _ _ (not_empty (digits_rest t) h)

pub whole_digits : (t : List ℕ) → 0 < length (digits_front t) → digits_rest t ≡ [] → (is_whole_digits t ≡ true)
    × (digits_front t ≡ t)
unfolding is_whole_digits is_empty
whole_digits t h none = (and_from _ _ (first_digit_there t h) (ap is_empty none), front_is_all t none)

pub saturates_size : (lead extra : ℕ) {lost : Bool} (n : ℕ) → (0 < extra → 10 ^ 35 ≤ lead)
    → (lost ≡ true → 10 ^ 35 ≤ lead) → StandsFor lead extra lost n → SaturatesSize n lead
saturates_size lead extra {lost} n full cut s = record {
  same = λ small. stands_short lost small full cut s;
  high = λ big. at_least lead extra lost n big s;
}
  where
    times_more : (l p : ℕ) → 0 < p → l ≤ l * p
    times_more l p h = le-mul_of_pos_right {m = p} l h

    at_least : (lead extra : ℕ) (lost : Bool) (n : ℕ) → 10 ^ 35 ≤ lead → StandsFor lead extra lost n → 10 ^ 35 ≤ n
    at_least lead extra true n big s = let long : 10 ^ 36 ≤ n = (s.cut refl).too_long n 0 (omega arith) in omega arith
    at_least lead extra false n big s = omega (arith, s.whole refl, times_more lead (10 ^ extra) (ten_pow_pos extra))

pub saturates_signed : (negative : Bool) {n r : ℕ} → SaturatesSize n r
    → Saturates (signed negative n) (signed negative r)
saturates_signed false {n} s = search arith
saturates_signed true {n} s = search arith

pub exp_none : {r : List ℕ} → r ≡ [] → (is_exp r ≡ true) × Saturates (exp_value r) (pos 0)
unfolding is_exp exp_value
exp_none e = search arith

pub exp_unmarked : (r : List ℕ) → 0 < length r → (begins 101 r || begins 69 r) ≡ false → is_exp r ≡ false
unfolding is_exp begins
exp_unmarked [] h e = absurd (omega arith)
exp_unmarked (b ∷ t) h e = and_left _ _ e

pub exp_marked : (r : List ℕ) → (begins 101 r || begins 69 r) ≡ true
    → (is_exp r ≡ is_whole_digits (exp_digits (drop 1 r)))
    × (exp_value r ≡ signed (begins 45 (drop 1 r)) (digits_value (exp_digits (drop 1 r))))
unfolding is_exp exp_value begins
exp_marked [] e = absurd (cc e)
exp_marked (b ∷ t) e = search arith

pub sign_there : (t : List ℕ) → (begins 45 t || begins 43 t) ≡ true → exp_digits t ≡ drop 1 t
unfolding exp_digits
sign_there t e = cond-true _ _ _ e

pub no_sign : (t : List ℕ) → (begins 45 t || begins 43 t) ≡ false → exp_digits t ≡ t
unfolding exp_digits
no_sign t e = cond-false _ _ _ e

-- a byte of two that stands there is within
pub one_of_within : (a b : ℕ) (s : List ℕ) (at : ℕ) → (begins a (drop at s) || begins b (drop at s)) ≡ true
    → at < length s
one_of_within a b s at h = search (arith, begins_within)

-- an exponent's mark at a place, and its digits at another
pub marked_at : (s : List ℕ) (from first : ℕ) → (begins 101 (drop from s) || begins 69 (drop from s)) ≡ true
    → drop first s ≡ exp_digits (drop (from + 1) s)
    → (is_exp (drop from s) ≡ is_whole_digits (drop first s))
    × (exp_value (drop from s) ≡ signed (begins 45 (drop (from + 1) s)) (digits_value (drop first s)))
marked_at s from first mark digits =
    let marked = exp_marked (drop from s) mark in
    let next = drop_one s from (one_of_within 101 69 s from mark) in
    let same = ap exp_digits next ∙ sym digits in (
      marked.0 ∙ ap is_whole_digits same,
      marked.1 ∙ ap (λ t. signed (begins 45 t) (digits_value (exp_digits (drop 1 (drop from s))))) next
          ∙ ap (λ t. signed (begins 45 (drop (from + 1) s)) (digits_value t)) same,
    )

-- what was read of the digits, with the sign that was read
pub saturates_read : {negative sign : Bool} {n size : ℕ} {e : ℤ} (r : ℤ) → e ≡ signed sign n → sign ≡ negative
    → r ≡ signed negative size → SaturatesSize n size → Saturates e r
saturates_read {negative} r a b c s = rw (a, b, c) (saturates_signed negative s)

-- ---- the whole spelling
pub value_append : (n : ℕ) (xs ys : List ℕ) → value_after n (xs ++ ys) ≡ value_after (value_after n xs) ys
value_append n [] ys = refl
value_append n (b ∷ xs) ys = value_append (10 * n + (b - 48)) xs ys

-- what fails a part of the test is no number
passes_parts : (s : List ℕ) → SpellsNumber s → (is_int (digits_front (body s)) ≡ true)
    × (is_frac (digits_rest (body s)) ≡ true) × (is_exp (after_frac (digits_rest (body s))) ≡ true)
passes_parts s n =
    let int = and_parts _ _ (spells_test s n.0 n.1).0 in let more = and_parts _ _ int.1 in (int.0, more.0, more.1)

pub not_int : (s : List ℕ) → is_int (digits_front (body s)) ≡ false → ¬ SpellsNumber s
not_int s h n = absurd (cc (h, (passes_parts s n).0))

pub not_frac : (s : List ℕ) → is_frac (digits_rest (body s)) ≡ false → ¬ SpellsNumber s
not_frac s h n = absurd (cc (h, (passes_parts s n).1))

pub not_exp : (s : List ℕ) → is_exp (after_frac (digits_rest (body s))) ≡ false → ¬ SpellsNumber s
not_exp s h n = absurd (cc (h, (passes_parts s n).2))

-- what passes the whole test is one
pub passed : (s : List ℕ) → is_int (digits_front (body s)) ≡ true → is_frac (digits_rest (body s)) ≡ true
    → is_exp (after_frac (digits_rest (body s))) ≡ true → Spells s (written_of s)
passed s a b c = test_spells s (and_from _ _ a (and_from _ _ b c))

-- a byte that stands first is within
pub first_within : (c : ℕ) (s : List ℕ) → begins c s ≡ true → 1 ≤ length s
first_within c s h = omega (arith, begins_within c s 0 h)

pub nothing : {T : Type 0} (r : Option T) → r ≡ None → ¬ IsSome r
nothing None e h = absurd (cc h)
nothing (Some x) e h = absurd (cc e)

-- the digits of both parts, the second read after the first
pub both_digits : {lead extra : ℕ} {lost : Bool} (f i j k : List ℕ)
    → StandsFor lead extra lost (value_after (digits_value f) i) → f ≡ j → i ≡ k
    → StandsFor lead extra lost (digits_value (j ++ k))
both_digits f i j k s e g = rw (value_append 0 j k, ← e, ← g) s

pub saturates_at : {e f r q : ℤ} → Saturates e r → e ≡ f → r ≡ q → Saturates f q
saturates_at s a b = rw (← a, ← b) s

-- ---- a spelling that ends with its first digits
pub nothing_follows : (s : List ℕ) → drop (length s) s ≡ []
nothing_follows s = drop_all (length s) s (omega arith)

-- after them there is no fraction and no exponent
pub no_frac : {r : List ℕ} → r ≡ [] → (is_frac r ≡ true) × (frac_digits r ≡ []) × (after_frac r ≡ [])
no_frac {r} e = let bare = frac_bare r (rw e (empty_begins 46)) in (bare.0, bare.1, bare.2 ∙ e)
  where
    empty_begins : (c : ℕ) → begins c [] ≡ false
    empty_begins c = begins_past c [] 0 (omega arith)

pub integer_spells : (s : List ℕ) → is_int (digits_front (body s)) ≡ true → digits_rest (body s) ≡ []
    → Spells s (written_of s)
integer_spells s int none =
    let frac = no_frac none in
    passed s int frac.0 (exp_none frac.2).0

pub integer_read : (s : List ℕ) {negative : Bool} {short : ℕ} → negative ≡ begins 45 s
    → is_int (digits_front (body s)) ≡ true → digits_rest (body s) ≡ [] → short ≡ digits_value (digits_front (body s))
    → IsReadOf s negative short 0 false 0 (pos 0)
integer_read s {short} sign int none value =
    let frac = no_frac none in
    record {
      written = written_of s;
      spells = integer_spells s int none;
      sign = sym sign;
      digits = rw (frac.1, append-nil (digits_front (body s)), ← value) (short_stands short);
      after_point_is = ap length frac.1;
      exponent_is = (exp_none frac.2).1;
    }

pub stops_whole : (s : List ℕ) (from at : ℕ) → Passes s from at → at ≡ length s → Stops s from (length s)
stops_whole s from at p e = rw e at (stops_at_end s from at p (omega arith))
