-- What stands between the quotes of a string, and bytes that two strings share.
use Rattle.cj_spans.proofs.Common.{◌≡◌, ℕ, zero, suc, ◌+◌, ◌-◌, ◌<◌, ◌≤◌, List, [], ◌∷◌, ◌++◌, length, take, drop, get_or, true, false, nat_eq, inl, inr, refl, sym, ap, subst, arith, ◌∙◌, length-append, cases_lt, drop-take, get_or-take, length-take, nat_tests, common_steps, left, code_points_from, AreAlike, StartAlike, compare, nat_cmp, Equal, first_code_point, first_width, code_points_after, text, are_same, chars}
use Rattle.cj_spans.specs.Meaning.StandFor.{StandFor, done, plain, letter, single, pair}
use Rattle.cj_spans.proofs.Texts.{chars_end, chars_past, lead_one, pair_shown, first_pair, first_unit, first_letter, first_plain, points_cons, points_nil, points_done}

-- ---- a byte that stands for itself

pub plain_character : (bs : List ℕ) (i : ℕ) → i < length bs → get_or bs i 0 < 128
    → left bs i ≡ get_or bs i 0 ∷ left bs (i + 1)
plain_character bs i h l = grind (arith, lead_one, chars_end)

points_go_on : (c : ℕ) (cs ds : List ℕ) {ps : List ℕ} {x n : ℕ}
    → (first_code_point (c ∷ cs) ≡ x) × (first_width (c ∷ cs) ≡ n)
    → drop n (c ∷ cs) ≡ ds → code_points_after 0 ds ≡ ps → code_points_after 0 (c ∷ cs) ≡ x ∷ ps
points_go_on c cs ds e d h = cc (points_cons c cs, e.0, e.1)

plain_cons : (c : ℕ) (cs : List ℕ) → nat_eq c 92 ≡ false → code_points_after 0 (c ∷ cs) ≡ c ∷ code_points_after 0 cs
plain_cons c cs n = points_go_on c cs cs {ps = code_points_after 0 cs} (first_plain (c ∷ cs) n) refl refl

pub plain_code : (bs : List ℕ) (i : ℕ) → i < length bs → get_or bs i 0 < 128 → nat_eq (get_or bs i 0) 92 ≡ false
    → code_points_from bs i ≡ get_or bs i 0 ∷ code_points_from bs (i + 1)
plain_code bs i h l n = grind (arith, plain_character, plain_cons)

pub text_ends : (bs ws : List ℕ) (i j : ℕ) → length bs ≤ i → length ws ≤ j
    → are_same (code_points_from bs i) (left ws j) ≡ true
text_ends bs ws i j h k = grind (arith, chars_past, points_nil)

pub order_ends : (bs ds : List ℕ) (i j : ℕ) → length bs ≤ i → length ds ≤ j
    → compare (code_points_from bs i) (code_points_from ds j) ≡ Equal
order_ends bs ds i j h k = grind (arith, points_done, chars_past)

pub order_apart : (bs ds : List ℕ) (i j : ℕ) {b c : ℕ} → (i < length bs) × (b ≡ get_or bs i 0) → (j < length ds)
    × (c ≡ get_or ds j 0) → nat_eq b c ≡ false → (b < 128) × (c < 128) → (nat_eq b 92 ≡ false) × (nat_eq c 92 ≡ false)
    → compare (code_points_from bs i) (code_points_from ds j) ≡ nat_cmp b c
order_apart bs ds i j {b} {c} f g n a p = grind (arith, plain_code, f.0, f.1, p.0, g.0, g.1, p.1)

-- ---- between the quotes

body_place : (s : List ℕ) (n : ℕ) → drop 1 (take n s) ≡ take (n - 1) (drop 1 s)
body_place s zero = refl
body_place s (suc n) = grind (arith, common_steps, drop-take)

pub code_points_between : (s : List ℕ) → code_points_after 0 (left (take (length s - 1) s) 1) ≡ text s
unfolding text
code_points_between s = cc (body_place s (length s - 1))

-- ---- the first byte between the quotes

-- of a string that is not empty it is the first point, where it stands for itself
text_front : (s : List ℕ) → 2 < length s → get_or s 1 0 < 128 → nat_eq (get_or s 1 0) 92 ≡ false → (ps : List ℕ)
    × (text s ≡ get_or s 1 0 ∷ ps)
text_front s h l n =
    let m = length s - 1 in
    let bs = take m s in
    let e : get_or bs 1 0 ≡ get_or s 1 0 = get_or-take m s 1 0 (omega arith) in
    let k = length-take m s in
    let p = plain_code bs 1 (omega arith) (omega arith) (ap (λ c. nat_eq c 92) e ∙ n) in
    (code_points_from bs 2, sym (code_points_between s) ∙ p ∙ ap (λ c. c ∷ code_points_from bs 2) e)

text_empty : (s : List ℕ) → length s ≤ 2 → text s ≡ []
text_empty s h = let k = length-take (length s - 1) s in
    sym (code_points_between s)
    ∙ points_done (take (length s - 1) s) 1 (chars_past (take (length s - 1) s) 1 (omega arith))

others_differ : (x y : ℕ) (xs ys : List ℕ) → nat_eq x y ≡ false → are_same (x ∷ xs) (y ∷ ys) ≡ false
others_differ x y xs ys h = cc

front_differs : (s ys : List ℕ) (y : ℕ) → 1 < length s → get_or s 1 0 < 128 → nat_eq (get_or s 1 0) 92 ≡ false
    → nat_eq (get_or s 1 0) y ≡ false → are_same (text s) (y ∷ ys) ≡ false
front_differs s ys y h l n d = grind (arith, text_front, others_differ, text_empty)

-- texts that differ in it are others
pub other_text : (s w : List ℕ) → 1 < length s → 0 < length w → (get_or s 1 0 < 128) × (get_or w 0 0 < 128)
    → (nat_eq (get_or s 1 0) 92 ≡ false) × (nat_eq (get_or w 0 0) 92 ≡ false)
    → nat_eq (get_or s 1 0) (get_or w 0 0) ≡ false → are_same (text s) (chars w) ≡ false
other_text s w h o a n d = cc (plain_character w 0 o a.1, front_differs s (left w 1) (get_or w 0 0) h a.0 n.0 d)

pub other_texts : (s o : List ℕ) → 1 < length s → 2 < length o → (get_or s 1 0 < 128) × (get_or o 1 0 < 128)
    → (nat_eq (get_or s 1 0) 92 ≡ false) × (nat_eq (get_or o 1 0) 92 ≡ false)
    → nat_eq (get_or s 1 0) (get_or o 1 0) ≡ false → are_same (text s) (text o) ≡ false
other_texts s o h k a n d = grind (arith, text_front, front_differs, a.1, n.1, a.0, n.0)

-- ---- the relation has one answer, the function's

pub stands_once : {cs ps : List ℕ} → StandFor cs ps → code_points_after 0 cs ≡ ps
stands_once done = points_nil
stands_once (plain c cs ps e s) = points_go_on c cs cs (first_plain (c ∷ cs) e) refl (stands_once s)
stands_once (letter c cs ps e s) = points_go_on 92 (c ∷ cs) cs (first_letter (92 ∷ c ∷ cs) e refl) refl (stands_once s)
stands_once (single h i j k cs ps e s) =
    points_go_on 92 (117 ∷ h ∷ i ∷ j ∷ k ∷ cs) cs (first_unit (92 ∷ 117 ∷ h ∷ i ∷ j ∷ k ∷ cs) e refl) refl
    (stands_once s)
stands_once (pair h i j k l m n o cs ps e f s) =
    let cs0 = 92 ∷ 117 ∷ h ∷ i ∷ j ∷ k ∷ 92 ∷ 117 ∷ l ∷ m ∷ n ∷ o ∷ cs in
    points_go_on 92 (117 ∷ h ∷ i ∷ j ∷ k ∷ 92 ∷ 117 ∷ l ∷ m ∷ n ∷ o ∷ cs) cs
    (first_pair cs0 (pair_shown cs0 refl e refl f)) refl (stands_once s)

-- ---- bytes that two strings share

abbrev IsShared : ℕ → ℕ → Type 0
IsShared x y = (x ≡ y) × (x < 128) × (nat_eq x 92 ≡ false)

-- the same at places that are equal
shared_at : (bs : List ℕ) (k i : ℕ) (ds : List ℕ) (l j : ℕ) → k ≡ i → l ≡ j → IsShared (get_or bs k 0) (get_or ds l 0)
    → IsShared (get_or bs i 0) (get_or ds j 0)
shared_at bs k i ds l j x y s = rw x at (rw y at s)

alike_on : (bs : List ℕ) (i : ℕ) (ds : List ℕ) (j n last m : ℕ) → AreAlike bs i ds j n → last ≤ n
    → AreAlike bs (i + last) ds (j + last) m → AreAlike bs i ds j (last + m)
alike_on bs i ds j n last m a c b k l =
    elim (cases_lt k n) [
      | inl h ↦ a k h
      | inr g ↦
          shared_at bs (i + last + (k - last)) (i + k) ds (j + last + (k - last)) (j + k) (omega arith) (omega arith)
          (b (k - last) (omega arith))
    ]

pub alike_none : (bs : List ℕ) (i : ℕ) (ds : List ℕ) (j : ℕ) → StartAlike bs i ds j 0
alike_none bs i ds j = grind arith

pub alike_first : (bs : List ℕ) (i : ℕ) (ds : List ℕ) (j n : ℕ) → i + n ≤ length bs → j + n ≤ length ds
    → AreAlike bs i ds j n → StartAlike bs i ds j n
alike_first bs i ds j n h k a = grind arith

-- more of them are alike, by a look that begins no later than where the first look ended
pub alike_more : {bs : List ℕ} {i : ℕ} {ds : List ℕ} {j n : ℕ} (last m : ℕ) {all : ℕ} → StartAlike bs i ds j n
    → last ≤ n
    → last + m ≡ all → all ≤ length bs - i → all ≤ length ds - j → AreAlike bs (i + last) ds (j + last) m
    → StartAlike bs i ds j all
alike_more {bs} {i} {ds} {j} {n} last m s c e h k a = subst (StartAlike bs i ds j) e (record {
  within = omega arith;
  within_other = omega arith;
  alike = alike_on bs i ds j n last m s.alike c a;
})

pub alike_one_more : {bs : List ℕ} {i : ℕ} {ds : List ℕ} {j n : ℕ} → StartAlike bs i ds j n → n < length bs - i
    → n < length ds - j → get_or bs (i + n) 0 ≡ get_or ds (j + n) 0 → get_or bs (i + n) 0 < 128
    → nat_eq (get_or bs (i + n) 0) 92 ≡ false → StartAlike bs i ds j (n + 1)
alike_one_more {bs} {i} {ds} {j} {n} s h k same low other = grind (arith, alike_more, shared_at)

-- those behind the first one are alike too
alike_behind : (bs : List ℕ) (i : ℕ) (ds : List ℕ) (j n : ℕ) → AreAlike bs i ds j (suc n)
    → AreAlike bs (i + 1) ds (j + 1) n
alike_behind bs i ds j n a l m =
    shared_at bs (i + suc l) (i + 1 + l) ds (j + suc l) (j + 1 + l) (omega arith) (omega arith)
    (a (suc l) (omega arith))

alike_here : (bs : List ℕ) (i : ℕ) (ds : List ℕ) (j n : ℕ) → AreAlike bs i ds j (suc n)
    → IsShared (get_or bs i 0) (get_or ds j 0)
alike_here bs i ds j n a = grind (arith, shared_at)

-- the code points that they share
pub shared_front : (n : ℕ) (bs : List ℕ) (i : ℕ) (ds : List ℕ) (j : ℕ) → n ≤ length bs - i → n ≤ length ds - j
    → AreAlike bs i ds j n → (f : List ℕ) × (code_points_from bs i ≡ f ++ code_points_from bs (i + n))
    × (code_points_from ds j ≡ f ++ code_points_from ds (j + n))
shared_front zero bs i ds j h k a = grind arith
shared_front (suc n) bs i ds j h k a =
    let s = alike_here bs i ds j n a in
    let p = plain_code bs i (omega arith) s.1 s.2 in
    let q = plain_code ds j (omega arith) (rw s.0 at s.1) (ap (λ v. nat_eq v 92) (sym s.0) ∙ s.2) in
    let r = shared_front n bs (i + 1) ds (j + 1) (omega arith) (omega arith) (alike_behind bs i ds j n a) in
    let e : i + 1 + n ≡ i + suc n = omega arith in
    let f : j + 1 + n ≡ j + suc n = omega arith in (
      get_or bs i 0 ∷ r.0,
      p ∙ ap (λ cs. get_or bs i 0 ∷ cs) (r.1 ∙ ap (λ v. r.0 ++ code_points_from bs v) e),
      q ∙ (λ k. sym s.0 k ∷ (r.2 ∙ ap (λ v. r.0 ++ code_points_from ds v) f) k),
    )

-- plain bytes up to the ends of a string and of a text: they are the same
pub same_alike : (n : ℕ) (ws : List ℕ) (i : ℕ) (bs : List ℕ) (j : ℕ) → n ≡ length ws - i → n ≡ length bs - j
    → AreAlike ws i bs j n → are_same (code_points_from bs j) (left ws i) ≡ true
same_alike zero ws i bs j h k a = grind (arith, text_ends)
same_alike (suc n) ws i bs j h k a =
    let s = alike_here ws i bs j n a in
    let same = s.0 in
    let p = plain_character ws i (omega arith) s.1 in
    let q = plain_code bs j (omega arith) (rw same at s.1) (ap (λ v. nat_eq v 92) (sym same) ∙ s.2) in
    let one : nat_eq (get_or bs j 0) (get_or ws i 0) ≡ true = grind (arith, nat_tests, same) in
    let rest = same_alike n ws (i + 1) bs (j + 1) (omega arith) (omega arith) (alike_behind ws i bs j n a) in
    cc

-- tell nothing
number_equal : (x : ℕ) → nat_cmp x x ≡ Equal
number_equal x = grind arith

order_behind : (fs cs ds : List ℕ) → compare cs ds ≡ compare (fs ++ cs) (fs ++ ds)
order_behind [] cs ds = refl
order_behind (x ∷ fs) cs ds = cc (order_behind fs cs ds, number_equal x)

pub order_passed : {bs : List ℕ} {i : ℕ} {ds : List ℕ} {j n : ℕ} → StartAlike bs i ds j n
    → compare (code_points_from bs (i + n)) (code_points_from ds (j + n)) ≡ compare (code_points_from bs i)
    (code_points_from ds j)
order_passed {bs} {i} {ds} {j} {n} s =
    let f = shared_front n bs i ds j s.within s.within_other s.alike in
    cc (order_behind f.0 (code_points_from bs (i + n)) (code_points_from ds (j + n)), f.1, f.2)

pub fewer_left : {bs : List ℕ} {i : ℕ} {ds : List ℕ} {j n : ℕ} → StartAlike bs i ds j n
    → length (code_points_from bs (i + n)) ≤ length (code_points_from bs i)
fewer_left {bs} {i} {ds} {j} {n} s =
    let f = shared_front n bs i ds j s.within s.within_other s.alike in let l = ap length f.1 in omega (
      arith,
      length-append f.0 (code_points_from bs (i + n)),
    )
