-- The readings of a scalar against the spellings of RFC 8259, over lists of bytes.
use Rattle.std.specs.Prelude.{codes}
use Rattle.cj_spans.proofs.Common.{◌≡◌, ℕ, ◌≤◌, List, [], ◌∷◌, ◌++◌, Bool, true, false, cond, ◌&&◌, ◌||◌, not, nat_eq, nat_le, Option, Some, None, refl, sym, ap, subst, arith, ◌∙◌, ◌⊎◌, inl, inr, both_true, first_so, second_so, option_and_then, IsSomeAnd, Kind, Null, Truth, Number, Text, Lex, AfterN, AfterNu, AfterNul, NullDone, AfterT, AfterTr, AfterTru, AfterF, AfterFa, AfterFal, AfterFals, TruthDone, Minus, Zero, Whole, Point, Fraction, Mark, MarkSign, Exponent, InString, Escape, Hex4, Hex3, Hex2, Hex1, StringDone, IsScalar, is_escape, is_hex, IsDigit, AllDigits, IsDigits, IsMinus, IsInt, IsFrac, IsExp, IsExpRest, IsNumber, IsBody, nothing, plain, escape, unicode, lex_start, lex_step, lex_kind, digit_or, mark, point_or_mark, sign_mark}
use Rattle.std.proofs.lemmas.Bool.{eqb-true, leb-true, le-leb, or_cases}

pub none_some : {A B : Type 0} (x : A) → ◌≡◌ {A = Option A} None (Some x) → B
none_some x h = cc

pub some_same : {A : Type 0} (x y : A) → Some x ≡ Some y → x ≡ y
some_same x y h = cc

-- how far a spelling is after these bytes more
abbrev pub lex_run : List ℕ → Lex → Option Lex
lex_run [] x = Some x
lex_run (c ∷ s) x = option_and_then (lex_run s) (lex_step x c)

-- how far a spelling is after these bytes
abbrev pub reading : List ℕ → Option Lex
reading [] = None
reading (c ∷ s) = option_and_then (lex_run s) (lex_start c)

pub stepped : {A : Type 0} (f : A → Option A) (o : Option A) (y : A) → option_and_then f o ≡ Some y → (z : A)
    × (o ≡ Some z) × (f z ≡ Some y)
stepped f None y h = none_some y h
stepped f (Some z) y h = (z, refl, h)

-- the kind of the scalar that a reading is of
abbrev pub kind_of_lex : Lex → Kind
kind_of_lex AfterN = Null
kind_of_lex AfterNu = Null
kind_of_lex AfterNul = Null
kind_of_lex NullDone = Null
kind_of_lex InString = Text
kind_of_lex Escape = Text
kind_of_lex Hex4 = Text
kind_of_lex Hex3 = Text
kind_of_lex Hex2 = Text
kind_of_lex Hex1 = Text
kind_of_lex StringDone = Text
kind_of_lex AfterT = Truth
kind_of_lex AfterTr = Truth
kind_of_lex AfterTru = Truth
kind_of_lex AfterF = Truth
kind_of_lex AfterFa = Truth
kind_of_lex AfterFal = Truth
kind_of_lex AfterFals = Truth
kind_of_lex TruthDone = Truth
kind_of_lex _ = Number

-- ---- tests

between_is : (a c b : ℕ) → nat_le a c && nat_le c b ≡ true → (a ≤ c) × (c ≤ b)
between_is a c b h = (leb-true a c (first_so _ _ h), leb-true c b (second_so _ _ h))

pub between_test : {a c b : ℕ} → a ≤ c → c ≤ b → nat_le a c && nat_le c b ≡ true
between_test {a} {c} {b} h g = both_true (le-leb a c h) (le-leb c b g)

or_two : (c d e : ℕ) → nat_eq c d || nat_eq c e ≡ true → (c ≡ d) ⊎ (c ≡ e)
or_two c d e h = grind (arith, or_cases, eqb-true)

-- the reading behind a test that succeeds
test_one : (P : Lex → Type 0) (v : Bool) (x : Lex) → IsSomeAnd (cond v (Some x) None) P → (v ≡ true) × P x
test_one P true x p = (refl, p)
test_one P false x p = absurd p

test_two : (P : Lex → Type 0) (v : Bool) (x : Lex) (o : Option Lex) → IsSomeAnd (cond v (Some x) o) P
    → ((v ≡ true) × P x) ⊎ ((v ≡ false) × IsSomeAnd o P)
test_two P true x o p = inl (refl, p)
test_two P false x o p = inr (refl, p)

-- ---- what a spelling has behind a reading

-- some digits, and then what P says
record DigitsThen (P : List ℕ → Type 0) (r : List ℕ) : Type 0 where
  digits : List ℕ
  rest : List ℕ
  digits_are : AllDigits digits
  rest_is : P rest
  joined : r ≡ digits ++ rest

-- a fraction, if there is one, and then an exponent
record Tail (r : List ℕ) : Type 0 where
  frac : List ℕ
  exp : List ℕ
  frac_is : IsFrac frac
  exp_is : IsExp exp
  joined : r ≡ frac ++ exp

-- a number without its sign
record Unsigned (r : List ℕ) : Type 0 where
  int : List ℕ
  rest : List ℕ
  int_is : IsInt int
  tail : Tail rest
  joined : r ≡ int ++ rest

-- the rest of a string
abbrev BodyTail : List ℕ → Type 0
BodyTail r = (body : List ℕ) × IsBody body × (r ≡ body ++ 34 ∷ [])

-- the bytes behind a reading, with which its scalar ends
abbrev Rest : List ℕ → Lex → Type 0
Rest r AfterN = r ≡ codes "ull"
Rest r AfterNu = r ≡ codes "ll"
Rest r AfterNul = r ≡ codes "l"
Rest r AfterT = r ≡ codes "rue"
Rest r AfterTr = r ≡ codes "ue"
Rest r AfterTru = r ≡ codes "e"
Rest r AfterF = r ≡ codes "alse"
Rest r AfterFa = r ≡ codes "lse"
Rest r AfterFal = r ≡ codes "se"
Rest r AfterFals = r ≡ codes "e"
Rest r Minus = Unsigned r
Rest r Zero = Tail r
Rest r Whole = DigitsThen Tail r
Rest r Point = Tail (46 ∷ r)
Rest r Fraction = DigitsThen IsExp r
Rest r Mark = IsExpRest r
Rest r MarkSign = IsDigits r
Rest r Exponent = AllDigits r
Rest r InString = BodyTail r
Rest r Escape = BodyTail (92 ∷ r)
Rest r Hex4 = BodyTail (92 ∷ 117 ∷ r)
Rest r Hex3 = (h : ℕ) → is_hex h ≡ true → BodyTail (92 ∷ 117 ∷ h ∷ r)
Rest r Hex2 = (h i : ℕ) → is_hex h && is_hex i ≡ true → BodyTail (92 ∷ 117 ∷ h ∷ i ∷ r)
Rest r Hex1 = (h i j : ℕ) → is_hex h && is_hex i && is_hex j ≡ true → BodyTail (92 ∷ 117 ∷ h ∷ i ∷ j ∷ r)
Rest r _ = r ≡ []

no_tail : Tail []
no_tail = grind arith

no_digits : {P : List ℕ → Type 0} (r : List ℕ) → P r → DigitsThen P r
no_digits r p = grind arith

more_digits : {P : List ℕ → Type 0} (c : ℕ) {r : List ℕ} → IsDigit c → DigitsThen P r → DigitsThen P (c ∷ r)
more_digits c d t = record {
  digits = c ∷ t.digits;
  rest = t.rest;
  digits_are = (d, t.digits_are);
  rest_is = t.rest_is;
  joined = ap (λ z. c ∷ z) t.joined;
}

-- ---- one byte before it

front : {c d : ℕ} {r s : List ℕ} → (nat_eq c d ≡ true) × (r ≡ s) → c ∷ r ≡ d ∷ s
front {c} {d} q = cc (eqb-true c d q.0, q.1)

behind : (P : List ℕ → Type 0) (c d : ℕ) (r : List ℕ) → (nat_eq c d ≡ true) × P (d ∷ r) → P (c ∷ r)
behind P c d r q = rw (eqb-true c d q.0) q.1

zero_first : (c : ℕ) (r : List ℕ) → (nat_eq c 48 ≡ true) × Tail r → Unsigned (c ∷ r)
zero_first c r q = record { int = c ∷ []; rest = r; int_is = inl (eqb-true c 48 q.0, refl); tail = q.1; joined = refl }

whole_first : (c : ℕ) (r : List ℕ) → (nat_le 49 c && nat_le c 57 ≡ true) × DigitsThen Tail r → Unsigned (c ∷ r)
whole_first c r q =
    let f = between_is 49 c 57 q.0 in let t = q.1 in
    record {
      int = c ∷ t.digits;
      rest = t.rest;
      int_is = inr (f.0, f.1, t.digits_are);
      tail = t.rest_is;
      joined = ap (λ z. c ∷ z) t.joined;
    }

module _ (c : ℕ) (r : List ℕ) where
  digit : (x : Lex) → IsSomeAnd (digit_or c x None) (Rest r) → IsDigit c × Rest r x
  digit x p = let q = test_one _ _ x p in (between_is 48 c 57 q.0, q.1)

  exp_from : IsSomeAnd (mark c) (Rest r) → IsExp (c ∷ r)
  exp_from p = let q = test_one _ _ Mark p in (or_two c 101 69 q.0, q.1)

  tail_from : IsSomeAnd (point_or_mark c) (Rest r) → Tail (c ∷ r)
  tail_from p = grind (arith, test_two, behind, exp_from)

  sign_from : IsSomeAnd (sign_mark c) (Rest r) → IsExpRest (c ∷ r)
  sign_from p =
      let q = test_one _ _ MarkSign p in
      record {
        sign = c ∷ [];
        digits = r;
        sign_is = elim (or_two c 43 45 q.0) [
          | inl e ↦ inr (inl (ap (λ t. t ∷ []) e))
          | inr e ↦ inr (inr (ap (λ t. t ∷ []) e))
        ];
        digits_are = q.1;
        joined = refl;
      }

  plain_from : nat_eq c 34 ≡ false → nat_eq c 92 ≡ false → IsSomeAnd (cond (nat_le 32 c) (Some InString) None) (Rest r)
      → BodyTail (c ∷ r)
  plain_from f g p =
      let q = test_one _ _ InString p in let t = q.1 in
      (c ∷ t.0, plain c t.0 (both_true q.0 (both_true (ap not f) (ap not g))) t.1, ap (λ z. c ∷ z) t.2)

rest_before : (x : Lex) (c : ℕ) (r : List ℕ) → IsSomeAnd (lex_step x c) (Rest r) → Rest (c ∷ r) x
rest_before Minus c r p = grind (arith, test_two, zero_first, whole_first, test_one)
rest_before Zero c r p = tail_from c r p
rest_before Whole c r p = grind (arith, test_two, more_digits, between_is, no_digits, tail_from)
rest_before Point c r p =
    let q = digit c r Fraction p in let t = q.1 in
    record {
      frac = 46 ∷ c ∷ t.digits;
      exp = t.rest;
      frac_is = (refl, (q.0, t.digits_are));
      exp_is = t.rest_is;
      joined = ap (λ z. 46 ∷ c ∷ z) t.joined;
    }
rest_before Fraction c r p = grind (arith, test_two, more_digits, between_is, no_digits, exp_from)
rest_before Mark c r p = grind (arith, test_two, between_is, sign_from)
rest_before MarkSign c r p = digit c r Exponent p
rest_before Exponent c r p = digit c r Exponent p
rest_before InString c r p = grind (arith, test_two, nothing, front, behind, plain_from)
rest_before Escape c r p =
    elim (test_two (Rest r) (is_escape c) InString _ p) [
      | inl q ↦ let t = q.1 in (92 ∷ c ∷ t.0, escape c t.0 q.0 t.1, ap (λ z. 92 ∷ c ∷ z) t.2)
      | inr q ↦ behind (λ z. BodyTail (92 ∷ z)) c 117 r (test_one (Rest r) (nat_eq c 117) Hex4 q.1)
    ]
rest_before Hex4 c r p = let q = test_one (Rest r) (is_hex c) Hex3 p in q.1 c q.0
rest_before Hex3 c r p = grind (arith, test_one, both_true)
rest_before Hex2 c r p = grind (arith, test_one, both_true)
rest_before Hex1 c r p =
    let q = test_one (Rest r) (is_hex c) InString p in let t = q.1 in λ i j k e. (
      92 ∷ 117 ∷ i ∷ j ∷ k ∷ c ∷ t.0,
      unicode i j k c t.0 (both_true e q.0) t.1,
      ap (λ z. 92 ∷ 117 ∷ i ∷ j ∷ k ∷ c ∷ z) t.2,
    )
rest_before NullDone c r p = absurd p
rest_before TruthDone c r p = absurd p
rest_before StringDone c r p = absurd p
rest_before _ c r p = front (test_one (Rest r) _ _ p)

-- where a scalar may end, nothing need follow
rest_none : (x : Lex) (k : Kind) → lex_kind x ≡ Some k → Rest [] x
rest_none Zero k h = no_tail
rest_none Whole k h = no_digits [] no_tail
rest_none Fraction k h = no_digits [] tt
rest_none Exponent k h = tt
rest_none NullDone k h = refl
rest_none TruthDone k h = refl
rest_none StringDone k h = refl
rest_none _ k h = none_some k h

pub kind_done : (x : Lex) (k : Kind) → lex_kind x ≡ Some k → kind_of_lex x ≡ k
kind_done AfterN k h = cc
kind_done _ k h = cc

pub kind_stays : (x : Lex) (c : ℕ) (y : Lex) → lex_step x c ≡ Some y → kind_of_lex y ≡ kind_of_lex x
kind_stays AfterN c y h = grind (arith)
kind_stays _ c y h = grind (arith)

pub run_kind : (r : List ℕ) (x y : Lex) → lex_run r x ≡ Some y → kind_of_lex y ≡ kind_of_lex x
run_kind [] x y h = cc (some_same x y h)
run_kind (c ∷ r) x y h = let w = stepped _ _ y h in
    run_kind r w.0 y w.2 ∙ kind_stays x c w.0 w.1

rest_of : (r : List ℕ) (x y : Lex) (k : Kind) → lex_run r x ≡ Some y → lex_kind y ≡ Some k → Rest r x
rest_of [] x y k h d = rest_none x k (ap lex_kind (some_same x y h) ∙ d)
rest_of (c ∷ r) x y k h d = let w = stepped (lex_run r) (lex_step x c) y h in
    rest_before x c r (rw w.1 (rest_of r w.0 y k w.2 d))

-- ---- all scalars

number : (minus : List ℕ) {r : List ℕ} → IsMinus minus → Unsigned r → IsNumber (minus ++ r)
number minus m u = grind (arith, u.int_is, u.tail.frac_is, u.tail.exp_is)

scalar_from : (c : ℕ) (r : List ℕ) (k : Kind)
    → IsSomeAnd (lex_start c) (λ x. Rest r x × (kind_of_lex x ≡ k)) → IsScalar k (c ∷ r)
scalar_from c r k p =
    let P : Lex → Type 0 = λ x. Rest r x × (kind_of_lex x ≡ k) in
    let at : Kind → Type 0 = λ j. IsScalar j (c ∷ r) in
    elim (test_two P (nat_eq c 110) AfterN _ p) [
      | inl q ↦ subst at q.1.1 (front (q.0, q.1.0))
      | inr h1 ↦ elim (test_two P (nat_eq c 116) AfterT _ h1.1) [
        | inl q ↦ subst at q.1.1 (inl (front (q.0, q.1.0)))
        | inr h2 ↦ elim (test_two P (nat_eq c 102) AfterF _ h2.1) [
          | inl q ↦ subst at q.1.1 (inr (front (q.0, q.1.0)))
          | inr h3 ↦ elim (test_two P (nat_eq c 45) Minus _ h3.1) [
            | inl q ↦ subst at q.1.1 (number (c ∷ []) (inr (front (q.0, refl))) q.1.0)
            | inr h4 ↦ elim (test_two P (nat_eq c 48) Zero _ h4.1) [
              | inl q ↦ subst at q.1.1 (number [] (inl refl) (zero_first c r (q.0, q.1.0)))
              | inr h5 ↦ elim (test_two P (nat_le 49 c && nat_le c 57) Whole _ h5.1) [
                | inl q ↦ subst at q.1.1 (number [] (inl refl) (whole_first c r (q.0, q.1.0)))
                | inr h6 ↦
                    let q = test_one P (nat_eq c 34) InString h6.1 in let t = q.1.0 in
                    subst at q.1.1 (record { body = t.0; body_is = t.1; joined = front (q.0, t.2) })
              ]
            ]
          ]
        ]
      ]
    ]

pub reading_sound : (s : List ℕ) (x : Lex) (k : Kind) → reading s ≡ Some x → lex_kind x ≡ Some k → IsScalar k s
reading_sound [] x k h d = none_some x h
reading_sound (c ∷ r) x k h d = let w = stepped (lex_run r) (lex_start c) x h in
    scalar_from c r k (rw w.1 (rest_of r w.0 x k w.2 d, sym (run_kind r w.0 x w.2) ∙ kind_done x k d))
