-- Strings: their code points, their first ones as a number, and letters beyond ASCII.
use Rattle.cj_spans.proofs.Common.{◌≡◌, ℕ, suc, ◌+◌, ◌*◌, ◌/◌, ◌<◌, ◌≤◌, ◌^◌, List, [], ◌∷◌, false, nat_eq, get_or, length, Option, Some, None, inl, inr, refl, arith, ◌∙◌, mul-le-mul_right, Less, cases_order, AreAlike, code_points_from, compare, compare_texts, digits, front_word, zero, ◌++◌, Bool, true, ◌&&◌, sym, ap, subst, length-append, take-length, first_so, second_so, append-nil, take-append-le, nat_tests, encode_utf8, is_plain, is_escape, is_hex, IsBody, nothing, plain as plain_byte, escape, unicode, IsString, char_of, four_digits, unit, is_unicode, is_pair, body_of, common_steps, ◌-◌, ◌%◌, map, take, drop, cond, ltb, replicate, take-add, drop_more, count_trailing_zeros, IsAscii, byte}
use Rattle.std.specs.Int.{from_be_bytes, w64}
use Rattle.cj_spans.proofs.Texts.{chars_past, points_done}
use Rattle.cj_spans.proofs.Quoted.{plain_code}
use Rattle.std.proofs.lemmas.Bool.{cases_lt, eqb-true}
use Rattle.std.proofs.lemmas.Str.{encode_ascii, inside_one, cons_from_encodes, chars-encodes, IsUtf8-past_char, IsUtf8-take, IsCharBoundary-before_ascii, IsUtf8-append, IsUtf8-from_ascii}
use Rattle.std.specs.Str.{chars, IsUtf8, encode_utf8_all}
use Rattle.std.specs.Char.Utf16.{is_high_surrogate, is_low_surrogate}
use Rattle.cj_spans.specs.Meaning.StandFor.{StandFor, done, plain, letter, single, pair}
use Rattle.std.proofs.lemmas.Simd.{get_or-chunk, length-chunk}
use Rattle.cj_spans.proofs.Vectors.{marks_over, none_marked, marks_within, not_marked}
use Rattle.std.proofs.lemmas.Str.Ascii.{IsAscii-from_reads}
use Rattle.std.specs.Simd.Lanes.{zip2, mask_l, top, chunk}
use Rattle.simdutf8.specs.Steps.{first, second}
use Rattle.simdutf8.proofs.Chars.{least_is, most_is, StepsThen-IsUtf8}

-- ---- the first code points of a text as one number

-- ---- the digits by cases

pub digits_few : (w c : ℕ) (cs : List ℕ) → c < 255 → digits w (c ∷ cs) ≡ c * w + digits (w / 256) cs
digits_few w c cs h = grind arith

pub digits_cut : (w c : ℕ) (cs : List ℕ) → 255 ≤ c → digits w (c ∷ cs) ≡ 255 * w
digits_cut w c cs h = grind arith

-- ---- no number is as much as the next digit's weight more

pub digits_below : (w : ℕ) (cs : List ℕ) → digits w cs ≤ 255 * w
digits_below w [] = omega arith
digits_below w (c ∷ cs) = grind (arith, digits_few, mul-le-mul_right, digits_cut, digits_below (w / 256) cs)

pub digits_none : (cs : List ℕ) → digits 0 cs ≡ 0
digits_none cs = omega (arith, digits_below 0 cs)

pub word_fits : (cs : List ℕ) → digits (256 ^ 7) cs < 2 ^ 64
word_fits cs = omega (arith, digits_below (256 ^ 7) cs)

-- ---- a lesser word is of a lesser text

-- the first code points decide
first_less : (c d : ℕ) (cs ds : List ℕ) → c < d → compare (c ∷ cs) (d ∷ ds) ≡ Less
first_less c d cs ds h = grind arith

-- equal first code points leave the order to what follows
first_same : {c d : ℕ} (cs ds : List ℕ) → c ≡ d → compare (c ∷ cs) (d ∷ ds) ≡ compare cs ds
first_same {c} {d} cs ds h = grind arith

-- a lesser first code point makes no greater number
first_no_more : (w c d : ℕ) (cs ds : List ℕ) → d < c → digits w (d ∷ ds) ≤ digits w (c ∷ cs)
first_no_more w c d cs ds h =
    elim (cases_lt c 255) [
      | inl l ↦
          let e = digits_few w c cs l in
          let f = digits_few w d ds (omega arith) in
          let r = digits_below (w / 256) ds in
          let k : suc d ≤ c = omega arith in
          let m = mul-le-mul_right w k in
          omega arith
      | inr l ↦
          let e = digits_cut w c cs l in
          let r = digits_below w (d ∷ ds) in
          omega arith
    ]

-- of one first code point it is one that does not end the number
first_goes_on : (w c : ℕ) (cs ds : List ℕ) → digits w (c ∷ cs) < digits w (c ∷ ds)
    → digits (w / 256) cs < digits (w / 256) ds
first_goes_on w c cs ds h = grind (arith, digits_few, digits_cut)

less_by_digits : (w : ℕ) (s t : List ℕ) → digits w s < digits w t → compare s t ≡ Less
less_by_digits w s [] h = absurd (omega arith)
less_by_digits w [] (d ∷ ds) h = refl
less_by_digits w (c ∷ cs) (d ∷ ds) h =
    elim (cases_order c d) [
      | inl e ↦
          let g : digits w (c ∷ cs) < digits w (c ∷ ds) =
          rw (← e) at h in
          first_same cs ds e ∙ less_by_digits (w / 256) cs ds (first_goes_on w c cs ds g)
      | inr (inl l) ↦ first_less c d cs ds l
      | inr (inr l) ↦ let m = first_no_more w c d cs ds l in absurd (omega arith)
    ]

pub less_by_words : (s t : Option (List ℕ)) → front_word s < front_word t → compare_texts s t ≡ Less
less_by_words s None h = absurd (omega arith)
less_by_words None (Some t) h = refl
less_by_words (Some s) (Some t) h = less_by_digits (256 ^ 7) s t h

-- ---- a word of plain bytes

pub digits_end : (w : ℕ) (bs : List ℕ) (i : ℕ) → length bs ≤ i → digits w (code_points_from bs i) ≡ 0
digits_end w bs i h = cc (points_done bs i (chars_past bs i h))

-- a plain byte is a code point by itself
pub digits_plain : (w : ℕ) (bs : List ℕ) (i b : ℕ) → i < length bs → b ≡ get_or bs i 0 → b < 128 → nat_eq b 92 ≡ false
    → digits w (code_points_from bs i) ≡ b * w + digits (w / 256) (code_points_from bs (i + 1))
digits_plain w bs i b h e l n = grind (arith, plain_code, digits_few)

plain_digit : (w : ℕ) (bs : List ℕ) (i k : ℕ) → i + 8 ≤ length bs → AreAlike bs i bs i 8 → k < 8
    → digits w (code_points_from bs (i + k)) ≡ get_or bs (i + k) 0 * w + digits (w / 256)
    (code_points_from bs (i + (k + 1)))
plain_digit w bs i k h a l = grind (arith, digits_plain)

-- it is the sum of their weights
pub plain_word : (bs : List ℕ) (i : ℕ) → i + 8 ≤ length bs → AreAlike bs i bs i 8
    → digits (256 ^ 7) (code_points_from bs i)
    ≡ from_be_bytes w64 (get_or bs i 0 ∷ get_or bs (i + 1) 0 ∷ get_or bs (i + 2) 0 ∷ get_or bs (i + 3) 0
    ∷ get_or bs (i + 4) 0 ∷ get_or bs (i + 5) 0 ∷ get_or bs (i + 6) 0 ∷ get_or bs (i + 7) 0 ∷ [])
plain_word bs i h a = grind (arith, digits, plain_digit, digits_none)

-- ---- the characters between the quotes of a string stand for code points

-- how the bytes b and r of a body begin
data BodyBegins (b : ℕ) (r : List ℕ) : Type 0 where
  by_plain : is_plain b ≡ true → IsBody r → BodyBegins b r
  by_escape : b ≡ 92 → (e : ℕ) (s : List ℕ) → r ≡ e ∷ s → is_escape e ≡ true → IsBody s → BodyBegins b r
  by_unicode : b ≡ 92 → (h i j k : ℕ) (s : List ℕ) → r ≡ 117 ∷ h ∷ i ∷ j ∷ k ∷ s → is_hex h && is_hex i && is_hex j
      && is_hex k ≡ true → IsBody s → BodyBegins b r

body_begins : {s : List ℕ} → IsBody s → (b : ℕ) (r : List ℕ) → s ≡ b ∷ r → BodyBegins b r
body_begins nothing b r e = cc
body_begins (plain_byte c s p y) b r e = grind arith
body_begins (escape c s p y) b r e = let x : 92 ≡ b = cc in let z : c ∷ s ≡ r = cc in by_escape (sym x) c s (sym z) p y
body_begins (unicode h i j k s p y) b r e = let x : 92 ≡ b = cc in let z : 117 ∷ h ∷ i ∷ j ∷ k ∷ s ≡ r = cc in
    by_unicode (sym x) h i j k s (sym z) p y

-- bytes of longer characters are no escapes
strip : (xs r : List ℕ) → ((k : ℕ) → k < length xs → 128 ≤ get_or xs k 0) → IsBody (xs ++ r) → IsBody r
strip [] r h y = y
strip (x ∷ xs) r h y =
    let l : 128 ≤ x = h 0 (omega arith) in
    elim (body_begins y x (xs ++ r) refl) [
      | by_plain p z ↦ strip xs r (λ k m. h (suc k) (omega arith)) z
      | by_escape e c s f p z ↦ absurd (omega arith)
      | by_unicode e a b c d s f p z ↦ absurd (omega arith)
    ]

long_bytes : (c : ℕ) → 128 ≤ c → (k : ℕ) → k < length (encode_utf8 c) → 128 ≤ get_or (encode_utf8 c) k 0
long_bytes c h k l =
    elim (cases_lt (get_or (encode_utf8 c) k 0) 128) [
      | inl m ↦
          let e = inside_one c [] (encode_utf8 c) k (sym (append-nil (encode_utf8 c))) l m in
          absurd (omega arith)
      | inr g ↦ g
    ]

-- an ASCII byte is a character
record Next (cs : List ℕ) (c : ℕ) (rest : List ℕ) : Type 0 where
  after : List ℕ
  is : cs ≡ c ∷ after
  left : encode_utf8_all after ≡ rest

next : (cs : List ℕ) (c : ℕ) (rest : List ℕ) → c < 128 → encode_utf8_all cs ≡ c ∷ rest → Next cs c rest
next cs c rest l e = let r = cons_from_encodes cs rest c (e ∙ ap (λ xs. xs ++ rest) (sym (encode_ascii c l))) in
    record { after = r.0; is = r.1; left = r.2 }

all_so : (a b c d : Bool) → a && b && c && d ≡ true → (b ≡ true) × (c ≡ true) × (d ≡ true)
all_so a b c d h = grind arith

four_so : (a b c d : Bool) → a && b && c && d ≡ true → a ≡ true
four_so a b c d h = grind (arith)

hex_small : (h : ℕ) → is_hex h ≡ true → h < 128
hex_small h e = grind (arith, nat_tests)

escape_small : (e : ℕ) → is_escape e ≡ true → e < 128
escape_small e h = grind (arith, nat_tests)

escape_other : (e : ℕ) → is_escape e ≡ true → nat_eq e 117 ≡ false
escape_other e h = grind (arith, nat_tests)

plain_other : (c : ℕ) → is_plain c ≡ true → nat_eq c 92 ≡ false
plain_other c h = grind (arith, nat_tests)

-- the five characters after a backslash
record Unit4 (cs : List ℕ) (h i j k : ℕ) (s : List ℕ) : Type 0 where
  after : List ℕ
  is : cs ≡ 117 ∷ h ∷ i ∷ j ∷ k ∷ after
  left : encode_utf8_all after ≡ s

unit4 : (cs : List ℕ) (h i j k : ℕ) (s : List ℕ) → encode_utf8_all cs ≡ 117 ∷ h ∷ i ∷ j ∷ k ∷ s
    → is_hex h && is_hex i && is_hex j && is_hex k ≡ true → Unit4 cs h i j k s
unit4 cs h i j k s e p =
    let ph = four_so (is_hex h) (is_hex i) (is_hex j) (is_hex k) p in
    let q = all_so (is_hex h) (is_hex i) (is_hex j) (is_hex k) p in
    let a = next cs 117 (h ∷ i ∷ j ∷ k ∷ s) (omega arith) e in
    let b = next a.after h (i ∷ j ∷ k ∷ s) (hex_small h ph) a.left in
    let c = next b.after i (j ∷ k ∷ s) (hex_small i q.0) b.left in
    let d = next c.after j (k ∷ s) (hex_small j q.1) c.left in
    let f = next d.after k s (hex_small k q.2) d.left in
    record {
      after = f.after;
      is = a.is ∙ ap (λ xs. 117 ∷ xs)
          (b.is ∙ ap (λ xs. h ∷ xs) (c.is ∙ ap (λ xs. i ∷ xs) (d.is ∙ ap (λ xs. j ∷ xs) f.is)));
      left = f.left;
    }

-- some code points that the characters stand for
abbrev Stands : List ℕ → Type 0
Stands cs = (ps : List ℕ) × StandFor cs ps

-- another unit is at the front
record NextUnit (es : List ℕ) : Type 0 where
  l : ℕ
  m : ℕ
  n : ℕ
  o : ℕ
  after : List ℕ
  is : es ≡ 92 ∷ 117 ∷ l ∷ m ∷ n ∷ o ∷ after
  body : IsBody (encode_utf8_all after)

unit_second : (ds : List ℕ) → char_of (92 ∷ ds) 1 ≡ 117 → BodyBegins 92 (encode_utf8_all ds) → NextUnit (92 ∷ ds)
unit_second ds u (by_plain p y) = grind arith
unit_second ds u (by_escape q e s f p y) = grind (arith, common_steps, escape_small, escape_other)
unit_second ds u (by_unicode q h i j k s f p y) =
    let a = unit4 ds h i j k s f p in
    record {
      l = h;
      m = i;
      n = j;
      o = k;
      after = a.after;
      is = ap (λ xs. 92 ∷ xs) a.is;
      body = subst IsBody (sym a.left) y;
    }

unit_front : (es : List ℕ) → is_unicode es ≡ true → IsBody (encode_utf8_all es) → NextUnit es
unit_front [] u y = let n : ⊥ = cc in absurd n
unit_front (c ∷ ds) u y =
    let e : c ≡ 92 = eqb-true c 92 (first_so _ _ u) in
    let f : char_of (c ∷ ds) 1 ≡ 117 = eqb-true (char_of (c ∷ ds) 1) 117 (second_so _ _ u) in
    let y0 = subst (λ x. IsBody (encode_utf8_all (x ∷ ds))) e y in
    let y1 = subst (λ xs. IsBody (xs ++ encode_utf8_all ds)) (encode_ascii 92 (omega arith)) y0 in
    subst (λ x. NextUnit (x ∷ ds)) (sym e)
    (unit_second ds (subst (λ x. char_of (x ∷ ds) 1 ≡ 117) e f) (body_begins y1 92 (encode_utf8_all ds) refl))

unit_pair : (h i j k : ℕ) {es : List ℕ}
    → ((ds : List ℕ) → length ds ≤ length es → IsBody (encode_utf8_all ds) → Stands ds)
    → is_high_surrogate (four_digits (h ∷ i ∷ j ∷ k ∷ [])) ≡ true → is_low_surrogate (unit es) ≡ true → NextUnit es
    → Stands (92 ∷ 117 ∷ h ∷ i ∷ j ∷ k ∷ es)
unit_pair h i j k {es} ih a b f =
    let g : length f.after ≤ length es = let e = ap (λ (xs : List ℕ). length xs) f.is in omega arith in
    let r = ih f.after g f.body in
    let low = rw f.is at b in
    rw f.is (_, pair h i j k f.l f.m f.n f.o f.after r.0 a low r.1)

unit_case : (h i j k : ℕ) (es : List ℕ)
    → ((ds : List ℕ) → length ds ≤ length es → IsBody (encode_utf8_all ds) → Stands ds) → IsBody (encode_utf8_all es)
    → (v : Bool) → is_pair (92 ∷ 117 ∷ h ∷ i ∷ j ∷ k ∷ es) ≡ v → Stands (92 ∷ 117 ∷ h ∷ i ∷ j ∷ k ∷ es)
unit_case h i j k es ih y true e =
    let f = all_so true (is_high_surrogate (four_digits (h ∷ i ∷ j ∷ k ∷ []))) (is_unicode es)
    (is_low_surrogate (unit es)) e in
    unit_pair h i j k ih f.0 f.2 (unit_front es f.1 y)
unit_case h i j k es ih y false e = let r = ih es (omega arith) y in
    (four_digits (h ∷ i ∷ j ∷ k ∷ []) ∷ r.0, single h i j k es r.0 e r.1)

ascii_case : {c : ℕ} (cs : List ℕ) → ((ds : List ℕ) → length ds ≤ length cs → IsBody (encode_utf8_all ds) → Stands ds)
    → BodyBegins c (encode_utf8_all cs) → Stands (c ∷ cs)
ascii_case {c} cs ih (by_plain p y) = let r = ih cs (omega arith) y in (c ∷ r.0, plain c cs r.0 (plain_other c p) r.1)
ascii_case cs ih (by_escape q e s f p y) =
    let a = next cs e s (escape_small e p) f in
    let g : length a.after ≤ length cs = let z = ap (λ (xs : List ℕ). length xs) a.is in omega arith in
    let r = ih a.after g (subst IsBody (sym a.left) y) in
    rw a.is (rw q (_, letter e a.after r.0 (escape_other e p) r.1))
ascii_case cs ih (by_unicode q h i j k s f p y) =
    let a = unit4 cs h i j k s f p in
    let g : length a.after ≤ length cs = let z = ap (λ (xs : List ℕ). length xs) a.is in omega arith in
    let r = unit_case h i j k a.after (λ ds l b. ih ds (omega arith) b) (subst IsBody (sym a.left) y)
    (is_pair (92 ∷ 117 ∷ h ∷ i ∷ j ∷ k ∷ a.after)) refl in
    rw a.is (rw q r)

stands : (n : ℕ) (cs : List ℕ) → length cs ≤ n → IsBody (encode_utf8_all cs) → Stands cs
stands n [] l y = ([], done)
stands zero (c ∷ cs) l y = absurd (omega arith)
stands (suc n) (c ∷ cs) l y =
    elim (cases_lt c 128) [
      | inl m ↦ ascii_case cs (λ ds g b. stands n ds (omega arith) b)
          (body_begins (rw (encode_ascii c m) at y) c (encode_utf8_all cs)
          refl)
      | inr g ↦ let r = stands n cs (omega arith) (strip (encode_utf8 c) (encode_utf8_all cs) (long_bytes c g) y) in
          let p : nat_eq c 92 ≡ false = grind (arith, nat_tests) in (c ∷ r.0, plain c cs r.0 p r.1)
    ]

quote_at : (body : List ℕ) → get_or (body ++ 34 ∷ []) (length body) 0 < 128
quote_at [] = omega arith
quote_at (x ∷ body) = quote_at body

body-joined : (body : List ℕ) → body_of (34 ∷ (body ++ 34 ∷ [])) ≡ body
body-joined body = grind (arith, common_steps)

utf8_body : (body : List ℕ) → IsUtf8 (34 ∷ (body ++ 34 ∷ [])) → IsUtf8 body
utf8_body body u =
    let xs = body ++ 34 ∷ [] in
    let v = IsUtf8-past_char (34 ∷ xs) xs 34 u (ap (λ ys. ys ++ xs) (sym (encode_ascii 34 (omega arith)))) in
    let e = length-append body (34 ∷ []) in
    let b = IsCharBoundary-before_ascii xs (length body) (omega arith) (quote_at body) in
    subst IsUtf8 (take-append-le (length body) body (34 ∷ []) (omega arith) ∙ take-length body)
    (IsUtf8-take xs (length body) v b)

-- the text of a string is told by the cases of the grammar
pub text_of_string : {s : List ℕ} → IsString s → IsUtf8 s → (ps : List ℕ) × StandFor (chars (body_of s)) ps
text_of_string {s} h u =
    let b = h.body in
    let v = utf8_body b (subst IsUtf8 h.joined u) in
    let y = subst IsBody (sym v.1.1) h.body_is in
    let r = stands (length v.0) v.0 (omega arith) y in
    let e : chars (body_of s) ≡ v.0 = cc (h.joined, body-joined b, v.1.1, chars-encodes v.0 v.1.0) in
    (r.0, rw e r.1)

-- ---- letters beyond ASCII: what the marks of a vector say of its bytes, and UTF-8 past ASCII and past a letter

-- a byte beyond ASCII
abbrev beyond : ℕ → Bool
beyond x = ltb 127 x

ascii_from : (x : ℕ) → beyond x ≡ false → x < 128
ascii_from x h = grind (arith, nat_tests)

-- the marks of the bytes beyond ASCII, among the m from i on
abbrev pub letter_marks : ℕ → List ℕ → ℕ → ℕ
letter_marks m b i = mask_l (map (top 7) (zip2 (λ a c. cond (ltb a c) 255 0) (replicate m 127) (chunk i m b))) % 2 ^ 64

pub all_ascii : (m : ℕ) (b : List ℕ) (i : ℕ) → m ≤ 64 → i + m ≤ length b → letter_marks m b i ≡ 0 → (k : ℕ)
    → i ≤ k → k < i + m → byte b k < 128
all_ascii m b i few room e k l h = grind (arith, ascii_from, none_marked, marks_over, length-chunk)

pub letter_within : (m : ℕ) (b : List ℕ) (i : ℕ) → m ≤ 64 → i + m ≤ length b → (letter_marks m b i ≡ 0 → ⊥)
    → count_trailing_zeros 64 (letter_marks m b i) ≤ m
letter_within m b i few room n = grind (arith, marks_within, marks_over, length-chunk)

pub ascii_before : (m : ℕ) (b : List ℕ) (i : ℕ) → m ≤ 64 → i + m ≤ length b → (letter_marks m b i ≡ 0 → ⊥)
    → (k : ℕ) → i ≤ k → k < i + count_trailing_zeros 64 (letter_marks m b i) → byte b k < 128
ascii_before m b i few room n k l h = grind (arith, ascii_from, not_marked, marks_over, length-chunk)

-- ---- UTF-8

joined : (b : List ℕ) (i n : ℕ) → i ≤ n → IsUtf8 (take i b) → IsUtf8 (take (n - i) (drop i b)) → IsUtf8 (take n b)
joined b i n order front part =
    let e : i + (n - i) ≡ n = omega arith in
    rw (← e) (rw take-add (IsUtf8-append _ _ front part))

pub past_ascii : (b : List ℕ) (i n : ℕ) → i ≤ n → n ≤ length b
    → ((k : ℕ) → i ≤ k → k < n → byte b k < 128) → IsUtf8 (take i b) → IsUtf8 (take n b)
past_ascii b i n order within ascii front =
    let part = chunk i (n - i) b in
    let long : length part ≡ n - i = length-chunk i (n - i) b (omega arith) in
    let all : IsAscii part = IsAscii-from_reads part (n - i) (omega arith) (λ k l.
    let here : byte b (i + k) < 128 = ascii (i + k) (omega arith) (omega arith) in
    rw (get_or-chunk i (n - i) b k 0 l) here) in
    joined b i n order front (IsUtf8-from_ascii part all)

two_bytes : (x y : ℕ) → 194 ≤ x → x ≤ 223 → 128 ≤ y → y ≤ 191 → IsUtf8 (x ∷ y ∷ [])
two_bytes x y a c d e =
    let l = least_is x in
    let m = most_is x in
    (StepsThen-IsUtf8 (x ∷ y ∷ [])).0
    (first (omega arith) (inr (omega arith)), (second (omega arith) (omega arith) (omega arith), omega arith))

pub past_letter : (b : List ℕ) (i : ℕ) → i + 2 ≤ length b → 194 ≤ byte b i → byte b i ≤ 223 → 128 ≤ byte b (i + 1)
    → byte b (i + 1) ≤ 191 → IsUtf8 (take i b) → IsUtf8 (take (i + 2) b)
past_letter b i room a c d e front =
    let both : drop i b ≡ byte b i ∷ byte b (i + 1) ∷ drop (i + 1 + 1) b = cc
    (drop_more b i 0 (omega arith), drop_more b (i + 1) 0 (omega arith)) in
    rw take-add (IsUtf8-append _ _ front (rw both (two_bytes (byte b i) (byte b (i + 1)) a c d e)))
