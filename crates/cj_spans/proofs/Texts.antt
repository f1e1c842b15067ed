-- Characters and code points, read one at a time.
use Rattle.cj_spans.proofs.Common.{◌≡◌, ℕ, zero, suc, ◌+◌, ◌-◌, ◌*◌, ◌<◌, ◌≤◌, List, [], ◌∷◌, length, drop, get_or, Bool, true, false, cond, nat_eq, Option, Some, refl, sym, ap, arith, ◌∙◌, add-one, drop-cons, both_true, drop-drop, nat_tests, common_steps, left, after_read, ReadsCodePoint, char_of, four_digits, unit, is_unicode, is_escaped, is_pair, escaped, first_code_point, first_width, code_points_after, chars, chars_after, continuation_len, lead_bits}
use Rattle.std.proofs.lemmas.Bool.{and_left, and_right}
use Rattle.cj_spans.specs.declared.text.decode.CodePoint.{CodePoint}
use Rattle.std.specs.Char.{digit_value}
use Rattle.std.specs.Char.Utf16.{is_high_surrogate, is_low_surrogate, surrogate_pair_char}

-- ---- characters

first_of : (b : ℕ) (bs : List ℕ) → chars (b ∷ bs) ≡ chars_after (continuation_len b) (lead_bits b) bs
unfolding chars
first_of b bs = refl

pub chars_end : (c : ℕ) (bs : List ℕ) → chars_after 0 c bs ≡ c ∷ chars bs
unfolding chars
chars_end c [] = refl
chars_end c (b ∷ bs) = refl

pub chars_past : (bs : List ℕ) (i : ℕ) → length bs ≤ i → chars (drop i bs) ≡ []
unfolding chars
chars_past bs i h = grind (arith, common_steps)

at_drop : (bs : List ℕ) (i : ℕ) → i < length bs → drop i bs ≡ get_or bs i 0 ∷ drop (i + 1) bs
at_drop bs i h = rw (add-one, drop-cons bs i 0)

-- the first byte says how many more come, and has the first bits
lead : (bs : List ℕ) (i n c : ℕ) → i < length bs → continuation_len (get_or bs i 0) ≡ n → lead_bits (get_or bs i 0) ≡ c
    → chars (drop i bs) ≡ chars_after n c (drop (i + 1) bs)
lead bs i n c h e f = cc (at_drop bs i h, first_of (get_or bs i 0) (drop (i + 1) bs))

pub lead_one : (bs : List ℕ) (i : ℕ) → i < length bs → get_or bs i 0 < 128
    → chars (drop i bs) ≡ chars_after 0 (get_or bs i 0) (drop (i + 1) bs)
lead_one bs i h l = lead bs i 0 (get_or bs i 0) h (grind (arith, nat_tests)) (grind (arith, nat_tests))

pub lead_two : (bs : List ℕ) (i : ℕ) {c : ℕ} (o : Option CodePoint) → i < length bs → 128 ≤ get_or bs i 0
    → get_or bs i 0 < 224 → c ≡ get_or bs i 0 - 192 → chars_after 1 c (drop (i + 1) bs) ≡ after_read bs 0 o
    → chars (drop i bs) ≡ after_read bs 0 o
lead_two bs i {c} o h l g e f = lead bs i 1 c h (grind (arith, nat_tests)) (grind (arith, nat_tests)) ∙ f

pub lead_three : (bs : List ℕ) (i c : ℕ) (o : Option CodePoint) → i < length bs → 224 ≤ get_or bs i 0
    → get_or bs i 0 < 240 → c ≡ get_or bs i 0 - 224 → chars_after 2 c (drop (i + 1) bs) ≡ after_read bs 0 o
    → chars (drop i bs) ≡ after_read bs 0 o
lead_three bs i c o h l g e f = lead bs i 2 c h (grind (arith, nat_tests)) (grind (arith, nat_tests)) ∙ f

pub lead_four : (bs : List ℕ) (i c : ℕ) (o : Option CodePoint) → i < length bs → 240 ≤ get_or bs i 0
    → c ≡ get_or bs i 0 - 240 → chars_after 3 c (drop (i + 1) bs) ≡ after_read bs 0 o
    → chars (drop i bs) ≡ after_read bs 0 o
lead_four bs i c o h l e f = lead bs i 3 c h (grind (arith, nat_tests)) (grind (arith, nat_tests)) ∙ f

-- ---- steps over characters

char_cons : (bs cs : List ℕ) (p : CodePoint) → p.code ∷ left bs p.stop ≡ cs → ReadsCodePoint bs cs (char_of cs 0) 1 p
char_cons bs [] p h = cc
char_cons bs (c ∷ cs) p h = grind (arith, p.code)

pub char_some : (bs : List ℕ) {cs : List ℕ} (i : ℕ) (p : CodePoint) → left bs i ≡ after_read bs 0 (Some p)
    → left bs i ≡ cs
    → ReadsCodePoint bs cs (char_of cs 0) 1 p
char_some bs {cs} i p h e = grind (arith, char_cons, chars_end, p.code)

char_nil : (bs cs : List ℕ) (p : CodePoint) → [] ≡ cs → p.code ≡ 0 → left bs p.stop ≡ []
    → ReadsCodePoint bs cs (char_of cs 0) 1 p
char_nil bs [] p h z e = record { code = z; rest = e }
char_nil bs (c ∷ cs) p h z e = cc

pub char_none : (bs : List ℕ) {cs : List ℕ} (i : ℕ) (p : CodePoint) → left bs i ≡ [] → left bs i ≡ cs → p.code ≡ 0
    → p.stop ≡ length bs → ReadsCodePoint bs cs (char_of cs 0) 1 p
char_none bs {cs} i p h e z s = grind (arith, char_nil, chars_past)

at_later : (k : ℕ) (cs : List ℕ) → char_of (drop k cs) 0 ≡ char_of cs k
at_later zero cs = refl
at_later (suc k) [] = refl
at_later (suc k) (c ∷ cs) = at_later k cs

-- what comes after two steps
pub takes_on : {bs cs : List ℕ} (x n m : ℕ) (p : CodePoint) → ReadsCodePoint bs cs x n p → {y : ℕ} {q : CodePoint}
    → ReadsCodePoint bs (drop n cs) y m q → ReadsCodePoint bs cs y (n + m) q
takes_on {cs} x n m p t u = grind (arith, common_steps, u.code, u.rest)

digits_by : {a b c d e f g h : ℕ} → a ≡ e → b ≡ f → c ≡ g → d ≡ h
    → (a * 16 + b) * 256 + (c * 16 + d) ≡ ((e * 16 + f) * 16 + g) * 16 + h
digits_by {a} {b} {c} {d} i j k l = grind arith

-- four digits after one another
pub digits_read : {bs cs : List ℕ} {p q r s : CodePoint} {a b c d : ℕ} → ReadsCodePoint bs cs (char_of cs 0) 1 p
    → ReadsCodePoint bs (drop 1 cs) (char_of (drop 1 cs) 0) 1 q
    → ReadsCodePoint bs (drop 2 cs) (char_of (drop 2 cs) 0) 1 r
    → ReadsCodePoint bs (drop 3 cs) (char_of (drop 3 cs) 0) 1 s
    → a ≡ digit_value p.code → b ≡ digit_value q.code → c ≡ digit_value r.code → d ≡ digit_value s.code
    → ReadsCodePoint bs cs (four_digits cs) 4 (record { code = (a * 16 + b) * 256 + (c * 16 + d); stop = s.stop })
digits_read {cs} t u v w i j k l = record {
  code = digits_by (i ∙ ap digit_value t.code) (j ∙ ap digit_value (u.code ∙ at_later 1 cs))
      (k ∙ ap digit_value (v.code ∙ at_later 2 cs)) (l ∙ ap digit_value (w.code ∙ at_later 3 cs));
  rest = w.rest ∙ drop-drop 1 3 cs;
}

pub rest_two : {bs cs : List ℕ} {x y : ℕ} {p q : CodePoint} → ReadsCodePoint bs cs x 1 p
    → ReadsCodePoint bs (drop 1 cs) y 1 q → left bs q.stop ≡ drop 2 cs
rest_two {cs} t u = u.rest ∙ drop-drop 1 1 cs

pub rest_three : {bs : List ℕ} (cs : List ℕ) {y : ℕ} {r : CodePoint} → ReadsCodePoint bs (drop 2 cs) y 1 r
    → left bs r.stop ≡ drop 3 cs
rest_three cs u = u.rest ∙ drop-drop 1 2 cs

-- ---- code points

pub pair_shown : (cs : List ℕ) → is_unicode cs ≡ true → is_high_surrogate (unit cs) ≡ true
    → is_unicode (drop 6 cs) ≡ true → is_low_surrogate (unit (drop 6 cs)) ≡ true → is_pair cs ≡ true
pair_shown cs a b c d = both_true (both_true (both_true a b) c) d

-- one of its four tests fails
not_high : (cs : List ℕ) → is_high_surrogate (unit cs) ≡ false → is_pair cs ≡ false
not_high cs h = grind (arith, and_left, and_right)

not_followed : (cs : List ℕ) → is_unicode (drop 6 cs) ≡ false → is_pair cs ≡ false
not_followed cs h = grind (arith, and_left, and_right)

not_low : (cs : List ℕ) → is_low_surrogate (unit (drop 6 cs)) ≡ false → is_pair cs ≡ false
not_low cs h = grind (arith, and_right)

not_unicode : (cs : List ℕ) → is_unicode cs ≡ false → is_pair cs ≡ false
not_unicode cs h = and_left _ _ (and_left _ _ (and_left _ _ h))

not_escaped : (cs : List ℕ) → is_escaped cs ≡ false → is_unicode cs ≡ false
not_escaped cs h = and_left _ _ h

-- the point and the width, by cases
by_tests : (cs : List ℕ) {p u e : Bool} → is_pair cs ≡ p → is_unicode cs ≡ u → is_escaped cs ≡ e
    → (first_code_point cs ≡ cond p (surrogate_pair_char (unit cs) (unit (drop 6 cs)))
    (cond u (unit cs) (cond e (escaped (char_of cs 1)) (char_of cs 0))))
    × (first_width cs ≡ cond p 12 (cond u 6 (cond e 2 1)))
unfolding first_code_point first_width
by_tests cs h g a = grind arith

pub first_pair : (cs : List ℕ) → is_pair cs ≡ true
    → (first_code_point cs ≡ surrogate_pair_char (unit cs) (unit (drop 6 cs))) × (first_width cs ≡ 12)
first_pair cs h = by_tests cs h refl refl

pub first_unit : (cs : List ℕ) → is_pair cs ≡ false → is_unicode cs ≡ true → (first_code_point cs ≡ unit cs)
    × (first_width cs ≡ 6)
first_unit cs h g = by_tests cs h g refl

pub first_letter : (cs : List ℕ) → is_unicode cs ≡ false → is_escaped cs ≡ true
    → (first_code_point cs ≡ escaped (char_of cs 1)) × (first_width cs ≡ 2)
first_letter cs g a = by_tests cs (not_unicode cs g) g a

pub first_plain : (cs : List ℕ) → is_escaped cs ≡ false → (first_code_point cs ≡ char_of cs 0) × (first_width cs ≡ 1)
first_plain cs a = let g = not_escaped cs a in by_tests cs (not_unicode cs g) g a

taken : {bs cs : List ℕ} {p : CodePoint} {x n : ℕ} → (first_code_point cs ≡ x) × (first_width cs ≡ n)
    → ReadsCodePoint bs cs x n p → ReadsCodePoint bs cs (first_code_point cs) (first_width cs) p
taken {cs} e t = grind (arith, t.code, e.0, t.rest, e.1)

-- the text goes on after its first point
points_drop : (n : ℕ) (cs : List ℕ) → code_points_after n cs ≡ code_points_after 0 (drop n cs)
unfolding code_points_after
points_drop (suc n) (c ∷ cs) = points_drop n cs
points_drop _ _ = refl

width_some : (cs : List ℕ) → 0 < first_width cs
width_some cs = by_bools (is_pair cs) (is_unicode cs) (is_escaped cs) refl refl refl
  where
    by_bools : (p u e : Bool) → is_pair cs ≡ p → is_unicode cs ≡ u → is_escaped cs ≡ e → 0 < first_width cs
    by_bools true u e h g a = let w = (by_tests cs h g a).1 in omega arith
    by_bools false true e h g a = let w = (by_tests cs h g a).1 in omega arith
    by_bools false false true h g a = let w = (by_tests cs h g a).1 in omega arith
    by_bools false false false h g a = let w = (by_tests cs h g a).1 in omega arith

drop_width : (c : ℕ) (cs : List ℕ) (w : ℕ) → 0 < w
    → code_points_after (w - 1) cs ≡ code_points_after 0 (drop w (c ∷ cs))
drop_width c cs zero h = absurd (omega arith)
drop_width c cs (suc n) h = grind (arith, points_drop)

pub points_cons : (c : ℕ) (cs : List ℕ)
    → code_points_after 0 (c ∷ cs) ≡ first_code_point (c ∷ cs) ∷ code_points_after 0
    (drop (first_width (c ∷ cs)) (c ∷ cs))
unfolding code_points_after
points_cons c cs = grind (arith, drop_width, width_some)

pub points_nil : code_points_after 0 [] ≡ []
unfolding code_points_after
points_nil = refl

-- ---- a unit and what follows it

pub join_lone : {bs cs : List ℕ} {h : CodePoint} → is_high_surrogate h.code ≡ false → is_unicode cs ≡ true
    → ReadsCodePoint bs cs (unit cs) 6 h → ReadsCodePoint bs cs (first_code_point cs) (first_width cs) h
join_lone {cs} n u t = taken (first_unit cs (not_high cs (ap is_high_surrogate (sym t.code) ∙ n)) u) t

pub join_other : {bs cs : List ℕ} {h : CodePoint} → is_unicode (drop 6 cs) ≡ false → is_unicode cs ≡ true
    → ReadsCodePoint bs cs (unit cs) 6 h → ReadsCodePoint bs cs (first_code_point cs) (first_width cs) h
join_other {cs} n u t = taken (first_unit cs (not_followed cs n) u) t

pub join_not_low : {bs cs : List ℕ} {h l : CodePoint} → ReadsCodePoint bs (drop 6 cs) (unit (drop 6 cs)) 6 l
    → is_low_surrogate l.code ≡ false → is_unicode cs ≡ true → ReadsCodePoint bs cs (unit cs) 6 h
    → ReadsCodePoint bs cs (first_code_point cs) (first_width cs) h
join_not_low {cs} s n u t = taken (first_unit cs (not_low cs (ap is_low_surrogate (sym s.code) ∙ n)) u) t

pub join_pair : {bs cs : List ℕ} {h l : CodePoint} → is_high_surrogate h.code ≡ true → is_unicode (drop 6 cs) ≡ true
    → ReadsCodePoint bs (drop 6 cs) (unit (drop 6 cs)) 6 l → is_low_surrogate l.code ≡ true → is_unicode cs ≡ true
    → ReadsCodePoint bs cs (unit cs) 6 h
    → ReadsCodePoint bs cs (first_code_point cs) (first_width cs)
    (record { code = surrogate_pair_char h.code l.code; stop = l.stop })
join_pair {cs} {l} m f s n u t =
    taken (first_pair cs
    (pair_shown cs u (ap is_high_surrogate (sym t.code) ∙ m) f (ap is_low_surrogate (sym s.code) ∙ n))) (record {
      code = ap (λ x. surrogate_pair_char x l.code) t.code ∙ ap (surrogate_pair_char (unit cs)) s.code;
      rest = s.rest ∙ drop-drop 6 6 cs;
    })

pub letter_read : {bs cs : List ℕ} {p q : CodePoint} {x : ℕ} → is_unicode cs ≡ false → is_escaped cs ≡ true
    → ReadsCodePoint bs cs (char_of cs 0) 1 p → ReadsCodePoint bs (drop 1 cs) (char_of (drop 1 cs) 0) 1 q
    → x ≡ escaped q.code → ReadsCodePoint bs cs (first_code_point cs) (first_width cs)
    (record { code = x; stop = q.stop })
letter_read {cs} n a t u e =
    taken (first_letter cs n a) (record { code = e ∙ ap escaped (u.code ∙ at_later 1 cs); rest = rest_two t u })

-- ---- walks over characters and code points

char_first : (bs : List ℕ) (i : ℕ) (f : CodePoint) → left bs i ≡ after_read bs 0 (Some f)
    → ReadsCodePoint bs (left bs i) (char_of (left bs i) 0) 1 f
char_first bs i f h = char_some bs i f h refl

pub plain_point : (bs : List ℕ) (i : ℕ) (f : CodePoint) → left bs i ≡ after_read bs 0 (Some f)
    → nat_eq f.code 92 ≡ false
    → ReadsCodePoint bs (left bs i) (first_code_point (left bs i)) (first_width (left bs i)) f
plain_point bs i f h n = let t = char_first bs i f h in
    taken (first_plain (left bs i) (ap (λ x. nat_eq x 92) (sym t.code) ∙ n)) t

pub escaped_point : (bs : List ℕ) (i : ℕ) (f : CodePoint) → left bs i ≡ after_read bs 0 (Some f)
    → nat_eq f.code 92 ≡ true → is_escaped (left bs i) ≡ true
escaped_point bs i f h n = let t = char_first bs i f h in cc t.code

points_at : {bs : List ℕ} (cs ds : List ℕ) (f : CodePoint) {p : CodePoint} → cs ≡ f.code ∷ ds
    → ReadsCodePoint bs cs (first_code_point cs) (first_width cs) p
    → code_points_after 0 cs ≡ p.code ∷ code_points_after 0 (left bs p.stop)
points_at [] ds f h t = cc
points_at (c ∷ cs) ds f h t = cc (points_cons c cs, t.code, t.rest)

pub points_step : {bs : List ℕ} (i : ℕ) (f : CodePoint) {p : CodePoint} → left bs i ≡ after_read bs 0 (Some f)
    → ReadsCodePoint bs (left bs i) (first_code_point (left bs i)) (first_width (left bs i)) p
    → code_points_after 0 (left bs i) ≡ p.code ∷ code_points_after 0 (left bs p.stop)
points_step {bs} i f h t = points_at (left bs i) (left bs f.stop) f (h ∙ chars_end f.code (drop f.stop bs)) t

pub points_done : (bs : List ℕ) (i : ℕ) → left bs i ≡ [] → code_points_after 0 (left bs i) ≡ []
points_done bs i h = cc points_nil

pub characters_step : (bs : List ℕ) (i : ℕ) (f : CodePoint) → left bs i ≡ after_read bs 0 (Some f)
    → left bs i ≡ f.code ∷ left bs f.stop
characters_step bs i f h = h ∙ chars_end f.code (drop f.stop bs)
