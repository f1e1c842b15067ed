-- Each spelling of RFC 8259 is read to its end, and every reading can come to an end.
use Rattle.std.specs.Prelude.{codes}
use Rattle.cj_spans.proofs.Common.{◌≡◌, ℕ, ◌<◌, List, [], ◌∷◌, ◌++◌, length, true, ◌&&◌, nat_le, Option, Some, None, refl, sym, ap, subst, arith, ◌∙◌, inl, inr, first_so, second_so, option_and_then, append-nil, nat_tests, Kind, Null, Truth, Number, Text, Lex, AfterN, AfterNu, AfterNul, NullDone, AfterT, AfterTr, AfterTru, AfterF, AfterFa, AfterFal, AfterFals, TruthDone, Minus, Zero, Whole, Point, Fraction, Mark, MarkSign, Exponent, InString, Escape, Hex4, Hex3, Hex2, Hex1, StringDone, IsScalar, is_plain, is_escape, is_hex, IsDigit, AllDigits, IsDigits, IsMinus, IsInt, IsFrac, IsExp, IsExpRest, IsBody, nothing, plain, escape, unicode, lex_start, lex_step, lex_kind, hex, digit_or}
use Rattle.cj_spans.proofs.Spellings.{lex_run, reading, kind_of_lex, none_some, between_test}

-- ---- a spelling is read to its end

-- after these bytes more, a scalar of the kind may end
record Ends (k : Kind) (r : List ℕ) (o : Option Lex) : Type 0 where
  last : Lex
  run : option_and_then (lex_run r) o ≡ Some last
  kind : lex_kind last ≡ Some k

ended : {k : Kind} (x : Lex) → lex_kind x ≡ Some k → Ends k [] (Some x)
ended x k = record { last = x; run = refl; kind = k }

ends_by : {k : Kind} {r : List ℕ} {o : Option Lex} (z : Lex) → o ≡ Some z → Ends k r (Some z) → Ends k r o
ends_by {k} {r} z h e = subst (Ends k r) (sym h) e

later : {k : Kind} (c : ℕ) {r : List ℕ} {x : Lex} (z : Lex) → lex_step x c ≡ Some z → Ends k r (Some z)
    → Ends k (c ∷ r) (Some x)
later c {r} z h e = grind (arith, e.run, e.kind)

pub plain_goes : (c : ℕ) → is_plain c ≡ true → lex_step InString c ≡ Some InString
plain_goes c h = grind (arith)

pub escape_goes : (c : ℕ) → is_escape c ≡ true → lex_step Escape c ≡ Some InString
escape_goes c h = cc

pub hex_goes : (c : ℕ) (x : Lex) → is_hex c ≡ true → hex c x ≡ Some x
hex_goes c x h = cc

digit_goes : (y : Lex) (c : ℕ) (other : Option Lex) → IsDigit c → digit_or c y other ≡ Some y
digit_goes y c other d = cc (between_test d.0 d.1)

body_ends : {s : List ℕ} → IsBody s → Ends Text (s ++ 34 ∷ []) (Some InString)
body_ends nothing = later 34 StringDone refl (ended StringDone refl)
body_ends (plain c s p r) = later c InString (plain_goes c p) (body_ends r)
body_ends (escape c s p r) = grind (arith, later, escape_goes, body_ends r)
body_ends (unicode h i j k s p r) =
    let three = first_so (is_hex h && is_hex i && is_hex j) (is_hex k) p in
    let two = first_so (is_hex h && is_hex i) (is_hex j) three in
    later 92 Escape refl (later 117 Hex4 refl (later h Hex3 (hex_goes h Hex3 (first_so (is_hex h) (is_hex i) two))
    (later i Hex2 (hex_goes i Hex2 (second_so (is_hex h) (is_hex i) two))
    (later j Hex1 (hex_goes j Hex1 (second_so (is_hex h && is_hex i) (is_hex j) three))
    (later k InString (hex_goes k InString (second_so (is_hex h && is_hex i && is_hex j) (is_hex k) p))
    (body_ends r))))))

-- digits that a reading passes over
digits_pass : {k : Kind} {x : Lex} → ((c : ℕ) → IsDigit c → lex_step x c ≡ Some x) → (s : List ℕ) {r : List ℕ}
    → AllDigits s → Ends k r (Some x) → Ends k (s ++ r) (Some x)
digits_pass stay [] h e = e
digits_pass {x} stay (c ∷ s) h e = later c x (stay c h.0) (digits_pass stay s h.1 e)

digits_end : {x : Lex} → ((c : ℕ) → IsDigit c → lex_step x c ≡ Some Exponent) → (s : List ℕ) → IsDigits s
    → Ends Number s (Some x)
digits_end go [] h = absurd h
digits_end go (c ∷ s) h =
    later c Exponent (go c h.0) (rw (append-nil s) at
    (digits_pass (λ c h. digit_goes Exponent c None h) s h.1 (ended Exponent refl)))

rest_ends : {s : List ℕ} → IsExpRest s → Ends Number s (Some Mark)
rest_ends h =
    let P : List ℕ → Type 0 = λ t. Ends Number (t ++ h.digits) (Some Mark) in
    let behind_sign = digits_end (λ c h. digit_goes Exponent c None h) h.digits h.digits_are in
    rw h.joined (elim h.sign_is [
      | inl n ↦ subst P (sym n) (digits_end (λ c h. digit_goes Exponent c _ h) h.digits h.digits_are)
      | inr (inl p) ↦ subst P (sym p) (later 43 MarkSign refl behind_sign)
      | inr (inr m) ↦ subst P (sym m) (later 45 MarkSign refl behind_sign)
    ])

module _ {x : Lex} (k : lex_kind x ≡ Some Number) (a : lex_step x 101 ≡ Some Mark) (b : lex_step x 69 ≡ Some Mark) where
  exp_part : (s : List ℕ) → IsExp s → Ends Number s (Some x)
  exp_part [] h = ended x k
  exp_part (c ∷ s) h =
      later c Mark (elim h.0 [ inl e ↦ ap (lex_step x) e ∙ a | inr e ↦ ap (lex_step x) e ∙ b ]) (rest_ends h.1)

frac_part : {x : Lex} → lex_kind x ≡ Some Number → lex_step x 101 ≡ Some Mark → lex_step x 69 ≡ Some Mark
    → lex_step x 46 ≡ Some Point → (f s : List ℕ) → IsFrac f → IsExp s → Ends Number (f ++ s) (Some x)
frac_part k a b d [] s f h = exp_part k a b s h
frac_part k a b d (c ∷ []) s f h = absurd f.1
frac_part {x} k a b d (c ∷ e ∷ fs) s f h =
    later c Point (ap (lex_step x) f.0 ∙ d) (later e Fraction (digit_goes Fraction e None f.1.0)
    (digits_pass (λ c h. digit_goes Fraction c _ h) fs f.1.1 (exp_part refl refl refl s h)))

-- the same behind the first digits, in each of the places where a number may begin
int_part : (g : ℕ → Option Lex) → g 48 ≡ Some Zero → ((c : ℕ) → nat_le 49 c && nat_le c 57 ≡ true → g c ≡ Some Whole)
    → (c : ℕ) (i f s : List ℕ) → IsInt (c ∷ i) → IsFrac f → IsExp s → Ends Number (i ++ (f ++ s)) (g c)
int_part g zero whole c i f s h a b =
    elim h [
      | inl z ↦ ends_by Zero (ap g z.0 ∙ zero) (rw z.1 (frac_part refl refl refl refl f s a b))
      | inr d ↦ ends_by Whole (whole c (between_test d.0 d.1)) (digits_pass (λ c h. digit_goes Whole c _ h) i d.2
          (frac_part refl refl refl refl f s a b))
    ]

-- the reading of a scalar's spelling, at which it may end
pub record Spelled (k : Kind) (s : List ℕ) : Type 0 where
  pub last : Lex
  pub run : reading s ≡ Some last
  pub kind : lex_kind last ≡ Some k

first_read : {k : Kind} (c : ℕ) {r : List ℕ} → Ends k r (lex_start c) → Spelled k (c ∷ r)
first_read c e = record { last = e.last; run = e.run; kind = e.kind }

number_read : (m i f s : List ℕ) → IsMinus m → IsInt i → IsFrac f → IsExp s → Spelled Number (m ++ (i ++ (f ++ s)))
number_read m [] f s n h a b = absurd h
number_read m (c ∷ i) f s n h a b =
    let P : List ℕ → Type 0 = λ z. Spelled Number (z ++ (c ∷ i ++ (f ++ s))) in
    elim n [
      | inl e ↦ subst P (sym e) (first_read c (int_part lex_start refl first_digit c i f s h a b))
      | inr e ↦
          let d = int_part _ refl minus_digit c i f s h a b in
          subst P (sym e) (record { last = d.last; run = d.run; kind = d.kind })
    ]
  where
    first_digit : (c : ℕ) → nat_le 49 c && nat_le c 57 ≡ true → lex_start c ≡ Some Whole
    first_digit c h = grind (arith, nat_tests)

    minus_digit : (c : ℕ) → nat_le 49 c && nat_le c 57 ≡ true → lex_step Minus c ≡ Some Whole
    minus_digit c h = grind (arith, nat_tests)

pub reading_whole : (k : Kind) (s : List ℕ) → IsScalar k s → Spelled k s
reading_whole Null s h = record { last = NullDone; run = ap reading h; kind = refl }
reading_whole Truth s h =
    record { last = TruthDone; run = elim h [ inl e ↦ ap reading e | inr e ↦ ap reading e ]; kind = refl }
reading_whole Number s h = grind (arith, number_read, h.joined, h.minus_is)
reading_whole Text s h = grind (arith, first_read, body_ends, h.joined, h.body_is)
reading_whole _ s h = absurd h

-- ---- every reading can still come to an end

-- bytes after which a scalar that was read up to x may end
pub record Ending (x : Lex) : Type 0 where
  pub rest : List ℕ
  pub last : Lex
  pub run : lex_run rest x ≡ Some last
  pub done : lex_kind last ≡ Some (kind_of_lex x)

ending : {x : Lex} (r : List ℕ) (y : Lex) → lex_run r x ≡ Some y → lex_kind y ≡ Some (kind_of_lex x) → Ending x
ending r y h d = record { rest = r; last = y; run = h; done = d }

pub can_end : (x : Lex) → Ending x
can_end AfterN = ending (codes "ull") NullDone refl refl
can_end AfterNu = ending (codes "ll") NullDone refl refl
can_end AfterNul = ending (codes "l") NullDone refl refl
can_end AfterT = ending (codes "rue") TruthDone refl refl
can_end AfterTr = ending (codes "ue") TruthDone refl refl
can_end AfterTru = ending (codes "e") TruthDone refl refl
can_end AfterF = ending (codes "alse") TruthDone refl refl
can_end AfterFa = ending (codes "lse") TruthDone refl refl
can_end AfterFal = ending (codes "se") TruthDone refl refl
can_end AfterFals = ending (codes "e") TruthDone refl refl
can_end Minus = ending (codes "0") Zero refl refl
can_end Point = ending (codes "0") Fraction refl refl
can_end Mark = ending (codes "0") Exponent refl refl
can_end MarkSign = ending (codes "0") Exponent refl refl
can_end InString = ending (34 ∷ []) StringDone refl refl
can_end Escape = ending (110 ∷ 34 ∷ []) StringDone refl refl
can_end Hex1 = ending (48 ∷ 34 ∷ []) StringDone refl refl
can_end Hex2 = ending (48 ∷ 48 ∷ 34 ∷ []) StringDone refl refl
can_end Hex3 = ending (48 ∷ 48 ∷ 48 ∷ 34 ∷ []) StringDone refl refl
can_end Hex4 = ending (48 ∷ 48 ∷ 48 ∷ 48 ∷ 34 ∷ []) StringDone refl refl
can_end x = ending [] x refl refl

-- ---- a spelling and what follows it

and_some : (o : Option Lex) → option_and_then (λ z. Some z) o ≡ o
and_some None = refl
and_some (Some z) = refl

run-append : (s r : List ℕ) (o : Option Lex) (x : Lex) → option_and_then (lex_run s) o ≡ Some x
    → option_and_then (lex_run (s ++ r)) o ≡ lex_run r x
run-append s r None x h = none_some x h
run-append [] r (Some y) x h = let e : y ≡ x = cc in cc
run-append (d ∷ s) r (Some y) x h = run-append s r _ x h

pub reading-append : (s r : List ℕ) (x : Lex) → reading s ≡ Some x → reading (s ++ r) ≡ lex_run r x
reading-append [] r x h = none_some x h
reading-append (d ∷ s) r x h = run-append s r _ x h

-- one byte more
pub reading-more : (s : List ℕ) (c : ℕ) (x : Lex) → reading s ≡ Some x → reading (s ++ c ∷ []) ≡ lex_step x c
reading-more s c x h = reading-append s _ x h ∙ and_some _

pub record Prefix (s : List ℕ) : Type 0 where
  pub last : Lex
  pub run : reading s ≡ Some last

pub reading-prefix : (s r : List ℕ) (y : Lex) → 0 < length s → reading (s ++ r) ≡ Some y → Prefix s
reading-prefix [] r y l h = absurd (omega arith)
reading-prefix (d ∷ s) r y l h = let q = prefix_run s r (lex_start d) y h in record { last = q.0; run = q.1 }
  where
    prefix_run : (s r : List ℕ) (o : Option Lex) (y : Lex) → option_and_then (lex_run (s ++ r)) o ≡ Some y → (x : Lex)
        × (option_and_then (lex_run s) o ≡ Some x)
    prefix_run s r None y h = none_some y h
    prefix_run [] r (Some z) y h = (z, refl)
    prefix_run (d ∷ s) r (Some z) y h = prefix_run s r (lex_step z d) y h
