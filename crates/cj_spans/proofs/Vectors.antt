-- Bytes of a line, 16 at a time: what the marks of a vector say of the bytes.
use Rattle.cj_spans.proofs.Common.{◌≡◌, ℕ, zero, suc, ◌+◌, ◌-◌, ◌%◌, ◌^◌, ◌/◌, ◌<◌, ◌≤◌, List, [], ◌∷◌, length, map, get_or, nat_eq, Bool, true, false, cond, not, eqb, ltb, replicate, refl, sym, ap, subst, arith, ◌∙◌, w8, nat_tests, prefix_len, count_trailing_zeros, length-map, get_or-map, map-id, div-eq_of_lt, is_plain, byte, is_digit, AreAlike, IsWholeSign, AreMarkedTo}
use Rattle.std.specs.Simd.Lanes.{zip2, mask_l, sel_l, top, chunk}
use Rattle.std.proofs.lemmas.List.Sums.{prefix_len-le-length, prefix_len_passes}
use Rattle.std.proofs.lemmas.Simd.{bit_mask_l, mask_l-lt, get_or-chunk, leading_from_mask_l, tops_compared, bitmask_splat, zip2_splat, zip2_splat_left, mask_l-mod, map-map, length-chunk, none_from_empty_mask, trailing_mask_l, run_in_chunk_le, run_in_chunk_fails}
use Rattle.std.proofs.Math.Pow.{pow_mono}

-- ---- where a mask marks those that p holds of, among the n bytes from i on

module _ (p : ℕ → Bool) (b : List ℕ) (i n : ℕ) {m : ℕ} (few : n ≤ 64) (room : i + n ≤ length b)
    (e : m ≡ mask_l (map p (chunk i n b))) where
  pub none_marked : m ≡ 0 → (k : ℕ) → i ≤ k → k < i + n → p (byte b k) ≡ false
  none_marked z = grind (arith, none_from_empty_mask)

  marks_counted : (m ≡ 0 → ⊥) → count_trailing_zeros 64 m ≡ prefix_len (λ x. not (p x)) (chunk i n b)
  marks_counted s = grind (arith, trailing_mask_l, length-chunk)

  pub marks_within : (m ≡ 0 → ⊥) → count_trailing_zeros 64 m ≤ n
  marks_within s = grind (arith, run_in_chunk_le, marks_counted)

  pub not_marked : (m ≡ 0 → ⊥) → (k : ℕ) → i ≤ k → k < i + count_trailing_zeros 64 m → p (byte b k) ≡ false
  not_marked s = grind (arith, run_in_chunk_fails, marks_counted)

-- ---- digits

-- how far a byte is above `0`, where bytes below it come last
abbrev above : ℕ → ℕ
above x = (x + 208) % 256

-- a byte that is no digit
abbrev other : ℕ → Bool
other x = ltb 9 (above x)

digit_from : (x : ℕ) → x < 256 → other x ≡ false → is_digit x ≡ true
digit_from x l h = grind arith

-- the marks of the m lanes above n
pub marks_over : {m : ℕ} (n : ℕ) (v : List ℕ) → length v ≡ m → m ≤ 64
    → mask_l (map (top 7) (zip2 (λ a c. cond (ltb a c) 255 0) (replicate m n) v)) % 2 ^ 64
    ≡ mask_l (map (λ y. ltb n y) v)
marks_over {m} n v long few = cc (
  tops_compared w8 ltb (replicate m n) v,
  zip2_splat_left ltb n m v long,
  mask_l-mod
      (map (λ y. ltb n y) v) 64 (omega (arith, length-map v (λ y. ltb n y))),
)

-- the marks of the m bytes from i on that are no digits
abbrev marks_of : ℕ → List ℕ → ℕ → ℕ
marks_of m b i =
    mask_l (map (top 7) (zip2 (λ a c. cond (ltb a c) 255 0) (replicate m 9)
    (zip2 (λ a c. (a + (256 - c)) % 256) (chunk i m b) (replicate m 48)))) % 2 ^ 64

marks_are : (m : ℕ) (b : List ℕ) (i : ℕ) → i + m ≤ length b → m ≤ 64 → marks_of m b i ≡ mask_l (map other (chunk i m b))
marks_are m b i room few =
    let v = chunk i m b in
    let long : length v ≡ m = length-chunk i m b room in
    cc (
      zip2_splat (λ a c. (a + (256 - c)) % 256) v m 48 long,
      marks_over 9 (map above v) (length-map v above ∙ long)
          few,
      map-map (λ y. ltb 9 y) above v,
    )

abbrev pub digit_marks : List ℕ → ℕ → ℕ
digit_marks b i = marks_of 16 b i

digit_marks_are : (b : List ℕ) (i : ℕ) → i + 16 ≤ length b → digit_marks b i ≡ mask_l (map other (chunk i 16 b))
digit_marks_are b i room = marks_are 16 b i room (omega arith)

unset : (x : Bool) → ◌≡◌ {A = ℕ} (cond x 1 0) 0 → x ≡ false
unset true h = absurd (omega arith)
unset false h = refl

-- the marks of 32 bytes
pub block_marked : (b : List ℕ) (i : ℕ) → i + 32 ≤ length b → ((k : ℕ) → byte b k < 256)
    → AreMarkedTo b i (i + 32) (marks_of 32 b i)
block_marked b i room small =
    let v = chunk i 32 b in
    let e = marks_are 32 b i room (omega arith) in
    let long : length (map other v) ≡ 32 = length-map v other ∙ length-chunk i 32 b room in
    record {
      order = omega arith;
      near = omega arith;
      within = room;
      few =
          let q : i + 32 - i ≡ 32 = omega arith in
          subst (λ n. marks_of 32 b i < 2 ^ n) (sym q)
          (subst (λ n. n < 2 ^ 32) (sym e) (subst (λ n. mask_l (map other v) < 2 ^ n) long (mask_l-lt (map other v))));
      digits = λ k l h.
          let few : k < 32 = omega arith in
          let at : get_or (map other v) k false ≡ other (byte b (i + k)) = cc
          (get_or-map other v k 0 false (omega (arith, length-chunk i 32 b room)), get_or-chunk i 32 b k 0 few) in
          digit_from (byte b (i + k)) (small (i + k))
          (sym at ∙ unset (get_or (map other v) k false)
          (sym (bit_mask_l (map other v) k) ∙ ap (λ n. n / 2 ^ k % 2) (sym e) ∙ h));
    }

pub all_digits : (b : List ℕ) (i : ℕ) → i + 16 ≤ length b → ((k : ℕ) → byte b k < 256) → digit_marks b i ≡ 0
    → (k : ℕ) → i ≤ k → k < i + 16 → is_digit (byte b k) ≡ true
all_digits b i room small e k l h =
    digit_from (byte b k) (small k) (none_marked other b i 16 (omega arith) room (digit_marks_are b i room) e k l h)

pub digits_within : (b : List ℕ) (i : ℕ) → i + 16 ≤ length b → (digit_marks b i ≡ 0 → ⊥)
    → count_trailing_zeros 64 (digit_marks b i) ≤ 16
digits_within b i room n = marks_within other b i 16 (omega arith) room (digit_marks_are b i room) n

pub digits_before : (b : List ℕ) (i : ℕ) → i + 16 ≤ length b → ((k : ℕ) → byte b k < 256) → (digit_marks b i ≡ 0 → ⊥)
    → (k : ℕ) → i ≤ k → k < i + count_trailing_zeros 64 (digit_marks b i) → is_digit (byte b k) ≡ true
digits_before b i room small n k l h =
    digit_from (byte b k) (small k) (not_marked other b i 16 (omega arith) room (digit_marks_are b i room) n k l h)

-- ---- bytes of a string

-- the byte, or 0 in the place of n
abbrev dropped : ℕ → ℕ → ℕ
dropped n x = cond (eqb x n) 0 x

-- the byte, or 0 in the place of a quote or a backslash
abbrev kept : ℕ → ℕ
kept x = cond (eqb x 92) 0 (dropped 34 x)

-- a byte that does not stand for itself in a string
abbrev special : ℕ → Bool
special x = ltb (kept x) 32

plain_from : (x : ℕ) → special x ≡ false → is_plain x ≡ true
plain_from x h = grind (arith, nat_tests)

chosen : (p : ℕ → Bool) (f : ℕ → ℕ) (n : ℕ) (v : List ℕ) → length v ≡ n
    → sel_l (map p v) (replicate n 0) (map f v) ≡ map (λ x. cond (p x) 0 (f x)) v
chosen p f n [] h = refl
chosen p f zero (x ∷ v) h = absurd (omega arith)
chosen p f (suc n) (x ∷ v) h = cc (chosen p f n v (omega arith))

-- the vector v with 0 in the place of n
abbrev without : ℕ → List ℕ → List ℕ
without n v = sel_l (map (top 7) (zip2 (λ a c. cond (eqb a c) 255 0) v (replicate 16 n))) (replicate 16 0) v

without_is : (n : ℕ) (v : List ℕ) → length v ≡ 16 → without n v ≡ map (dropped n) v
without_is n v long = cc (
  tops_compared w8 eqb v (replicate 16 n),
  zip2_splat eqb v 16 n long,
  map-id v,
  chosen (λ x.
      eqb x n) (λ x. x) 16 v long,
)

-- the vector v with 0 in the place of quotes and backslashes
abbrev kept_lanes : List ℕ → List ℕ
kept_lanes v =
    sel_l (map (top 7) (zip2 (λ a c. cond (eqb a c) 255 0) v (replicate 16 92))) (replicate 16 0) (without 34 v)

kept_lanes_are : (v : List ℕ) → length v ≡ 16 → kept_lanes v ≡ map kept v
kept_lanes_are v long = cc (
  tops_compared w8 eqb v (replicate 16 92),
  zip2_splat eqb v 16 92 long,
  without_is 34 v
      long,
  chosen (λ x. eqb x 92) (dropped 34) 16 v long,
)

-- the marks of the bytes from i on that do not stand for themselves
abbrev pub plain_marks : List ℕ → ℕ → ℕ
plain_marks b i =
    mask_l (map (top 7) (zip2 (λ a c. cond (ltb a c) 255 0) (kept_lanes (chunk i 16 b)) (replicate 16 32))) % 2 ^ 64

plain_marks_are : (b : List ℕ) (i : ℕ) → i + 16 ≤ length b → plain_marks b i ≡ mask_l (map special (chunk i 16 b))
plain_marks_are b i room =
    let v = chunk i 16 b in
    let long : length v ≡ 16 = length-chunk i 16 b room in
    cc (
      kept_lanes_are v long,
      bitmask_splat w8 ltb (map kept v) 16 32 (length-map v kept ∙ long) (omega arith),
      map-map (λ x. ltb x 32) kept v,
    )

pub all_plain : (b : List ℕ) (i : ℕ) → i + 16 ≤ length b → plain_marks b i ≡ 0 → (k : ℕ) → i ≤ k → k < i + 16
    → is_plain (byte b k) ≡ true
all_plain b i room e k l h =
    plain_from (byte b k) (none_marked special b i 16 (omega arith) room (plain_marks_are b i room) e k l h)

pub plain_within : (b : List ℕ) (i : ℕ) → i + 16 ≤ length b → (plain_marks b i ≡ 0 → ⊥)
    → count_trailing_zeros 64 (plain_marks b i) ≤ 16
plain_within b i room n = marks_within special b i 16 (omega arith) room (plain_marks_are b i room) n

pub plain_before : (b : List ℕ) (i : ℕ) → i + 16 ≤ length b → (plain_marks b i ≡ 0 → ⊥) → (k : ℕ) → i ≤ k
    → k < i + count_trailing_zeros 64 (plain_marks b i) → is_plain (byte b k) ≡ true
plain_before b i room n k l h =
    plain_from (byte b k) (not_marked special b i 16 (omega arith) room (plain_marks_are b i room) n k l h)

-- ---- bytes of whole numbers and of commas

-- how far a byte is above the comma, where a point and bytes below it come last
abbrev above_comma : ℕ → ℕ
above_comma x = (dropped 46 x + 212) % 256

-- a byte that stands in no array of whole numbers
abbrev foreign : ℕ → Bool
foreign x = ltb 13 (above_comma x)

sign_from : (x : ℕ) → x < 256 → foreign x ≡ false → IsWholeSign x
sign_from x l h = grind arith

-- the marks of the bytes from i on that stand in no such array
abbrev pub foreign_marks : List ℕ → ℕ → ℕ
foreign_marks b i =
    mask_l (map (top 7) (zip2 (λ a c. cond (ltb a c) 255 0) (replicate 16 13)
    (zip2 (λ a c. (a + (256 - c)) % 256) (without 46 (chunk i 16 b)) (replicate 16 44)))) % 2 ^ 64

foreign_marks_are : (b : List ℕ) (i : ℕ) → i + 16 ≤ length b → foreign_marks b i ≡ mask_l (map foreign (chunk i 16 b))
foreign_marks_are b i room =
    let v = chunk i 16 b in
    let long : length v ≡ 16 = length-chunk i 16 b room in
    let w = map (dropped 46) v in
    let long1 : length w ≡ 16 = length-map v (dropped 46) ∙ long in
    cc (
      without_is 46 v long,
      zip2_splat (λ a c. (a + (256 - c)) % 256) w 16 44 long1,
      marks_over 13 (map (λ a. (a +
          212) % 256) w) (length-map w (λ a. (a + 212) % 256) ∙ long1) (omega arith),
      map-map (λ y. ltb 13 y) (λ a. (a +
          212) % 256) w,
      map-map (λ a. ltb 13 ((a + 212) % 256)) (dropped 46) v,
    )

-- where the marks stop below a bit, the bytes from there on are signs
pub signs_above : (b : List ℕ) (i : ℕ) → i + 16 ≤ length b → ((k : ℕ) → byte b k < 256) → (j k : ℕ)
    → foreign_marks b i < 2 ^ j → j ≤ k → k < 16 → IsWholeSign (byte b (i + k))
signs_above b i room small j k low order few =
    let v = chunk i 16 b in
    let e = foreign_marks_are b i room in
    let less : mask_l (map foreign v) < 2 ^ k = omega (arith, pow_mono order, e) in
    let none : mask_l (map foreign v) / 2 ^ k ≡ 0 = div-eq_of_lt less in
    let bit = bit_mask_l (map foreign v) k in
    let at : get_or (map foreign v) k false ≡ foreign (byte b (i + k)) = cc
    (get_or-map foreign v k 0 false (omega (arith, length-chunk i 16 b room)), get_or-chunk i 16 b k 0 few) in
    sign_from (byte b (i + k)) (small (i + k))
    (sym at ∙ unset (get_or (map foreign v) k false) (sym bit ∙ ap (λ n. n % 2) none))

-- ---- bytes of two strings

-- the vector v with 255 in the place of a backslash, and where another vector differs
abbrev unescaped : ℕ → List ℕ → List ℕ
unescaped m v = sel_l (map (top 7) (zip2 (λ a c. cond (eqb a c) 255 0) v (replicate m 92))) (replicate m 255) v

abbrev shared : ℕ → List ℕ → List ℕ → List ℕ
shared m v w = sel_l (map (top 7) (zip2 (λ a c. cond (eqb a c) 255 0) v w)) (unescaped m v) (replicate m 255)

-- the marks of the bytes of both that are not the same, or do not stand for themselves
abbrev pub alike_marks : ℕ → List ℕ → ℕ → List ℕ → ℕ → ℕ
alike_marks m b i o j =
    mask_l (map (top 7) (zip2 (λ a c. cond (ltb a c) 255 0) (replicate m 127)
    (shared m (chunk i m b) (chunk j m o)))) % 2 ^ 64

-- a byte that both have and that stands for itself
abbrev IsShared : ℕ → ℕ → Type 0
IsShared x y = (x ≡ y) × (x < 128) × (nat_eq x 92 ≡ false)

-- what a lane of the marks is
abbrev lane : ℕ → ℕ → ℕ
lane x y = cond (eqb x y) (cond (eqb x 92) 255 x) 255

lane_shared : (x y : ℕ) → not (ltb 127 (lane x y)) ≡ true → IsShared x y
lane_shared x y h = grind arith

-- the lanes of both
abbrev lanes : ℕ → List ℕ → List ℕ → List ℕ
lanes m v w = sel_l (zip2 eqb v w) (sel_l (map (λ x. eqb x 92) v) (replicate m 255) v) (replicate m 255)

lanes_at : (m : ℕ) (v w : List ℕ) → length v ≡ m → length w ≡ m → (k : ℕ) → k < m
    → get_or (lanes m v w) k 0 ≡ lane (get_or v k 0) (get_or w k 0)
lanes_at (suc m) (x ∷ v) (y ∷ w) a b zero l = refl
lanes_at (suc m) (x ∷ v) (y ∷ w) a b (suc k) l = lanes_at m v w (omega arith) (omega arith) k (omega arith)
lanes_at _ _ _ a b k l = absurd (omega arith)

length_lanes : (m : ℕ) (v w : List ℕ) → length v ≡ m → length w ≡ m → length (lanes m v w) ≡ m
length_lanes zero [] w a b = refl
length_lanes zero (x ∷ v) w a b = absurd (omega arith)
length_lanes (suc m) [] w a b = absurd (omega arith)
length_lanes (suc m) (x ∷ v) [] a b = absurd (omega arith)
length_lanes (suc m) (x ∷ v) (y ∷ w) a b = ap suc (length_lanes m v w (omega arith) (omega arith))

shared_is : {m : ℕ} (v w : List ℕ) → length v ≡ m → shared m v w ≡ lanes m v w
shared_is {m} v w a = cc (tops_compared w8 eqb v w, tops_compared w8 eqb v (replicate m 92), zip2_splat eqb v m 92 a)

-- the lanes of the bytes from i and from j on
abbrev lanes_from : ℕ → List ℕ → ℕ → List ℕ → ℕ → List ℕ
lanes_from m b i o j = lanes m (chunk i m b) (chunk j m o)

lanes_long : (m : ℕ) (b : List ℕ) (i : ℕ) (o : List ℕ) (j : ℕ) → i + m ≤ length b → j + m ≤ length o
    → length (lanes_from m b i o j) ≡ m
lanes_long m b i o j room there = grind (arith, length_lanes, length-chunk)

alike_marks_are : (m : ℕ) (b : List ℕ) (i : ℕ) (o : List ℕ) (j : ℕ) → m ≤ 64 → i + m ≤ length b → j + m ≤ length o
    → alike_marks m b i o j ≡ mask_l (map (λ y. ltb 127 y) (lanes_from m b i o j))
alike_marks_are m b i o j few room there =
    let all = lanes_from m b i o j in
    let long : length all ≡ m = lanes_long m b i o j room there in
    cc (
      shared_is (chunk i m b) (chunk j m o) (length-chunk i m b room),
      tops_compared w8 ltb (replicate m 127) all,
      zip2_splat_left ltb 127 m all long,
      mask_l-mod (map (λ y. ltb 127 y) all) 64 (omega (arith, length-map all (λ y. ltb 127 y))),
    )

-- how many lanes come before the first that is marked
abbrev count_before : ℕ → List ℕ → ℕ → List ℕ → ℕ → ℕ
count_before m b i o j = prefix_len (λ y. not (ltb 127 y)) (lanes_from m b i o j)

within_lanes : (m : ℕ) (b : List ℕ) (i : ℕ) (o : List ℕ) (j : ℕ) → i + m ≤ length b → j + m ≤ length o
    → count_before m b i o j ≤ m
within_lanes m b i o j room there = grind (arith, lanes_long, prefix_len-le-length)

alike_before : (m : ℕ) (b : List ℕ) (i : ℕ) (o : List ℕ) (j : ℕ) → i + m ≤ length b → j + m ≤ length o
    → AreAlike b i o j (count_before m b i o j)
alike_before m b i o j room there k l =
    let v = chunk i m b in
    let w = chunk j m o in
    let h : k < m = omega (arith, l, within_lanes m b i o j room there) in
    let at : get_or (lanes m v w) k 0 ≡ lane (get_or v k 0) (get_or w k 0) =
    lanes_at m v w (length-chunk i m b room) (length-chunk j m o there) k h in
    let s = lane_shared (get_or v k 0) (get_or w k 0)
    (ap (λ y. not (ltb 127 y)) (sym at) ∙ prefix_len_passes (λ y. not (ltb 127 y)) (lanes m v w) k 0 l) in
    let x : get_or v k 0 ≡ get_or b (i + k) 0 = get_or-chunk i m b k 0 h in
    let y : get_or w k 0 ≡ get_or o (j + k) 0 = get_or-chunk j m o k 0 h in
    (sym x ∙ s.0 ∙ y, omega arith, ap (λ z. nat_eq z 92) (sym x) ∙ s.2)

pub all_alike : (m : ℕ) (b : List ℕ) (i : ℕ) (o : List ℕ) (j : ℕ) → m ≤ 64 → i + m ≤ length b → j + m ≤ length o
    → alike_marks m b i o j ≡ 0 → AreAlike b i o j m
all_alike m b i o j few room there e =
    let none = leading_from_mask_l (λ y. ltb 127 y) (lanes_from m b i o j)
    (sym (alike_marks_are m b i o j few room there) ∙ e) in
    subst (AreAlike b i o j) (none ∙ lanes_long m b i o j room there) (alike_before m b i o j room there)

-- where not all are alike, those before the first that are not
counted_alike : (m : ℕ) (b : List ℕ) (i : ℕ) (o : List ℕ) (j : ℕ) → m ≤ 64 → i + m ≤ length b → j + m ≤ length o
    → (alike_marks m b i o j ≡ 0 → ⊥) → count_trailing_zeros 64 (alike_marks m b i o j) ≡ count_before m b i o j
counted_alike m b i o j few room there n = grind (arith, alike_marks_are, trailing_mask_l, lanes_long)

pub few_alike : (m : ℕ) (b : List ℕ) (i : ℕ) (o : List ℕ) (j : ℕ) → m ≤ 64 → i + m ≤ length b → j + m ≤ length o
    → (alike_marks m b i o j ≡ 0 → ⊥) → count_trailing_zeros 64 (alike_marks m b i o j) ≤ m
few_alike m b i o j few room there n = grind (arith, counted_alike, within_lanes)

pub front_alike : (m : ℕ) (b : List ℕ) (i : ℕ) (o : List ℕ) (j : ℕ) → m ≤ 64 → i + m ≤ length b → j + m ≤ length o
    → (alike_marks m b i o j ≡ 0 → ⊥) → AreAlike b i o j (count_trailing_zeros 64 (alike_marks m b i o j))
front_alike m b i o j few room there n =
    subst (AreAlike b i o j) (sym (counted_alike m b i o j few room there n)) (alike_before m b i o j room there)
