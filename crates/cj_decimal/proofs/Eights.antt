-- Numbers of at most eight digits, read by one word of eight bytes.
use Rattle.cj_decimal.proofs.Common.{◌≡◌, ℕ, ◌≤◌, List, [], ◌∷◌, ◌++◌, Bool, true, false, refl, ap, ◌∙◌, arith, inl, inr, ◌⊎◌, ℤ, nat_le, bit_xor, AllDigits, IsDigit, IsExp, IsExpSign, IsFrac, IsInt, IsMinus, SpellsNumber, zero, suc, ◌+◌, ◌-◌, ◌*◌, ◌/◌, ◌%◌, ◌^◌, ◌<◌, length, length-map, drop, map, ◌&&◌, ◌||◌, nat_eq, sym, not, get_or, IsTrue, bit_and, and_block, xor_block, xor_lt, pow-add, pow-suc, shr-shr, and_mask, digits_value, value_after, IsNumberIfBegun}
use Rattle.cj_decimal.proofs.Grammar.{all_of}
use Rattle.std.proofs.lemmas.Nat.Bits.{and_high_mask}
use Rattle.std.specs.Prelude.{replicate}
use Rattle.std.proofs.lemmas.Bool.{agree_below_at}
use Rattle.cj_decimal.specs.Word.{little_endian, AllBelow, weighed}

-- ---- the bytes of a number of JSON: digits, and others that are not below 16 without the bits of `0`

abbrev pub NumberBytes : List ℕ → Type 0
NumberBytes [] = Unit {0}
NumberBytes (b ∷ s) = (IsDigit b ⊎ (16 ≤ bit_xor b 48)) × NumberBytes s

both : (s t : List ℕ) → NumberBytes s → NumberBytes t → NumberBytes (s ++ t)
both [] t h i = i
both (b ∷ s) t h i = (h.0, both s t h.1 i)

of_digits : (s : List ℕ) → AllDigits s → NumberBytes s
of_digits [] h = tt
of_digits (b ∷ s) h = (inl h.0, of_digits s h.1)

-- a byte that is no digit, and others
behind : (b : ℕ) (s : List ℕ) {t : List ℕ} → nat_le 16 (bit_xor b 48) ≡ true → NumberBytes s → t ≡ b ∷ s
    → NumberBytes t
behind b s test h e = search arith

none : {s : List ℕ} → s ≡ [] → NumberBytes s
none e = rw e tt

of_minus : (b : Bool) (s : List ℕ) → IsMinus b s → NumberBytes s
of_minus true s e = behind 45 [] refl tt e
of_minus false s e = none e

of_int : (s : List ℕ) → IsInt s → NumberBytes s
of_int [] h = absurd h
of_int (b ∷ s) (inl is_zero) = search arith
of_int (b ∷ s) (inr h) = (inl (omega arith, h.1), of_digits s h.2)

of_frac : (digits s : List ℕ) → IsFrac digits s → NumberBytes s
of_frac digits s (inl nothing) = none nothing.1
of_frac digits s (inr h) = behind 46 digits refl (of_digits digits (all_of digits h.0)) h.1

of_sign : (b : Bool) (s : List ℕ) → IsExpSign b s → NumberBytes s
of_sign true s e = behind 45 [] refl tt e
of_sign false s (inl e) = none e
of_sign false s (inr e) = behind 43 [] refl tt e

of_exp : (e : ℤ) (s : List ℕ) → IsExp e s → NumberBytes s
of_exp e s (inl nothing) = none nothing.1
of_exp e s (inr p) = search (arith, both, of_sign, of_digits, all_of)

pub number_bytes : (s : List ℕ) → SpellsNumber s → NumberBytes s
number_bytes s number =
    let n = number.0 in let p = number.1 in
    rw p.joined
    (both p.minus _ (of_minus n.negative p.minus p.minus_is)
    (both n.int _ (of_int n.int p.int_is)
    (both p.fraction p.exp (of_frac n.frac p.fraction p.frac_is) (of_exp n.exponent p.exp p.exp_is))))

-- ---- numbers of at most eight digits, read by one word of eight bytes

-- ---- bits, byte by byte

-- what goes over blocks of bits goes over bytes
by_bytes : (op : ℕ → ℕ → ℕ) → op 0 0 ≡ 0 → ((a b r t : ℕ) → r < 2 ^ 8 → t < 2 ^ 8
    → op (a * 2 ^ 8 + r) (b * 2 ^ 8 + t) ≡ op a b * 2 ^ 8 + op r t) → (c : ℕ) → c < 256 → (s : List ℕ) → AllBelow 256 s
    → op (little_endian s) (little_endian (replicate (length s) c)) ≡ little_endian (map (λ b. op b c) s)
by_bytes op none block c l [] h = none
by_bytes op none block c l (b ∷ s) h =
    let w = little_endian s in let v = little_endian (replicate (length s) c) in
    let p : b + 256 * w ≡ w * 2 ^ 8 + b = omega arith in
    let q : c + 256 * v ≡ v * 2 ^ 8 + c = omega arith in
    let rest = by_bytes op none block c l s h.1 in
    ap (λ n. op n (c + 256 * v)) p ∙ ap (op (w * 2 ^ 8 + b)) q ∙ omega (arith, block w v b c h.0 l, rest)

high_half : (b : ℕ) → b < 256 → bit_and b 240 ≡ b / 16 * 16
high_half b l = and_high_mask 8 4 (omega arith) b l

pub high_halves : (s : List ℕ) → length s ≡ 8 → AllBelow 256 s
    → bit_and (little_endian s) 0xf0f0f0f0f0f0f0f0 ≡ little_endian (map (λ b. bit_and b 240) s)
high_halves s e h = ap (λ n. bit_and (little_endian s) (little_endian (replicate n 240))) (sym e)
    ∙ by_bytes bit_and refl (and_block 8) 240 (omega arith) s h

pub all_high : (s : List ℕ) → AllBelow 256 s → little_endian (map (λ b. bit_and b 240) s) ≡ 0 → AllBelow 16 s
all_high [] h z = tt
all_high (b ∷ s) h z = (omega (arith, z, high_half b h.0), all_high s h.1 (omega arith))

-- ---- one byte

-- what a byte is without the bits of `0`: below 10 if it is a digit and only then, and below 16 only from `-` to `?`
abbrev is_right : ℕ → ℕ → Bool
is_right b x = (not (nat_le x 9) || nat_eq (x + 48) b)
    && ((not (nat_le x 15) || (nat_le 45 b && nat_le b 63)) && (not (nat_le 48 b && nat_le b 57) || nat_le x 9))

right : (b : ℕ) → b < 256 → is_right b (bit_xor b 48) ≡ true
right b l = agree_below_at (λ b. is_right b (bit_xor b 48)) (λ b. true) 256 b refl l

module _ (b x : ℕ) (test : is_right b x ≡ true) where
  back : x < 10 → x + 48 ≡ b
  back h = grind arith

  begun : x < 16 → (45 ≤ b) × (b < 64)
  begun h = (grind arith, grind arith)

  digit_small : 48 ≤ b → b ≤ 57 → x < 10
  digit_small low high = grind arith

-- ---- the bytes before a number are cleared

clear : ℕ → List ℕ → List ℕ
clear zero s = s
clear (suc j) [] = []
clear (suc j) (b ∷ s) = 0 ∷ clear j s

times_shifted : (x p : ℕ) → x * (2 ^ 8 * p) ≡ 256 * (x * p)
times_shifted x p = grind (arith)

clear_word : (j : ℕ) (s : List ℕ) → j ≤ length s → AllBelow 256 s
    → little_endian s / 2 ^ (8 * j) * 2 ^ (8 * j) ≡ little_endian (clear j s)
unfolding clear
clear_word zero s within h = omega arith
clear_word (suc j) [] within h = absurd (omega arith)
clear_word (suc j) (b ∷ s) within h =
    let n = b + 256 * little_endian s in
    let k : 8 * suc j ≡ 8 + 8 * j = omega arith in
    let first : n / 2 ^ 8 ≡ little_endian s = omega arith in
    ap (λ i. n / 2 ^ i * 2 ^ i) k
    ∙ ap (λ q. q * 2 ^ (8 + 8 * j)) (sym (shr-shr n 8 (8 * j)) ∙ ap (λ q. q / 2 ^ (8 * j)) first)
    ∙ ap (λ p. little_endian s / 2 ^ (8 * j) * p) (pow-add 2 8 (8 * j))
    ∙ times_shifted (little_endian s / 2 ^ (8 * j)) (2 ^ (8 * j))
    ∙ omega (arith, clear_word j s (omega (arith, within)) h.1)

word_below : (s : List ℕ) → length s ≡ 8 → AllBelow 256 s → little_endian s < 2 ^ 64
word_below s l h = rw l at (below s h)
  where
    below : (s : List ℕ) → AllBelow 256 s → little_endian s < 256 ^ length s
    below [] h = omega arith
    below (b ∷ s) h = omega (arith, h.0, below s h.1, pow-suc 256 (length s))

masked : (j : ℕ) (s : List ℕ) → j ≤ 8 → length s ≡ 8 → AllBelow 256 s
    → bit_and (little_endian s) (2 ^ 64 - 2 ^ (8 * j)) ≡ little_endian (clear j s)
masked j s k l h =
    and_high_mask 64 (8 * j) (omega arith) (little_endian s) (word_below s l h)
    ∙ clear_word j s (omega arith) h

-- ---- the number that eight digits spell

-- two bytes of a word, four apart
two_bytes : (n : ℕ) → bit_and n 0x000000ff000000ff ≡ n / 2 ^ 32 % 256 * 2 ^ 32 + n % 256
two_bytes n =
    let parts : n ≡ n / 2 ^ 32 * 2 ^ 32 + n % 2 ^ 32 = omega arith in
    let block = and_block 32 (n / 2 ^ 32) 255 (n % 2 ^ 32) 255 (omega arith) (omega arith) in
    let high = and_mask (n / 2 ^ 32) 8 in
    let low = and_mask (n % 2 ^ 32) 8 in
    let all = ap (λ m. bit_and m 0x000000ff000000ff) parts in
    omega arith

-- the number of some pairs of digits, of which each second one counts
of_pairs : {n : ℕ} (p q r s t u v w : ℕ) → n ≡ little_endian (p ∷ q ∷ r ∷ s ∷ t ∷ u ∷ v ∷ w ∷ [])
    → AllBelow 100 (p ∷ q ∷ r ∷ s ∷ t ∷ u ∷ v ∷ w ∷ [])
    → (bit_and n 0x000000ff000000ff * 4294967296000100 % 2 ^ 64
    + bit_and (n / 2 ^ 16) 0x000000ff000000ff * 42949672960001 % 2 ^ 64) % 2 ^ 64 / 2 ^ 32
    ≡ p * 1000000 + r * 10000 + t * 100 + v
of_pairs {n} p q r s t u v w e small = search (arith, two_bytes)

value_after_weighed : (n : ℕ) (s : List ℕ)
    → value_after n (map (λ d. d + 48) s) ≡ n * 10 ^ length s + weighed 10 s
unfolding weighed
value_after_weighed n [] = omega arith
value_after_weighed n (d ∷ s) =
    let e : 10 * n + (d + 48 - 48) ≡ 10 * n + d = omega arith in
    ap (λ m. value_after m (map (λ c. c + 48) s)) e ∙ value_after_weighed (10 * n + d) s
    ∙ regroup n d (10 ^ length s) (weighed 10 s)
    ∙ ap (λ p. n * p + (10 ^ length s * d + weighed 10 s)) (sym (pow-suc 10 (length s)))
  where
    regroup : (n d p w : ℕ) → (10 * n + d) * p + w ≡ n * (p * 10) + (p * d + w)
    regroup n d p w = omega arith

pub value_weighed : (s : List ℕ) → digits_value (map (λ d. d + 48) s) ≡ weighed 10 s
value_weighed s = value_after_weighed 0 s ∙ omega arith

pub value_eight : (s : List ℕ) → length s ≡ 8 → AllBelow 10 s → (w n : ℕ) → w ≡ little_endian s
    → n ≡ (bit_and (w * 10 + w / 2 ^ 8) 0x000000ff000000ff * 4294967296000100 % 2 ^ 64
    + bit_and ((w * 10 + w / 2 ^ 8) / 2 ^ 16) 0x000000ff000000ff * 42949672960001 % 2 ^ 64) % 2 ^ 64 / 2 ^ 32
    → n ≡ digits_value (map (λ d. d + 48) s)
unfolding weighed
value_eight (a ∷ b ∷ c ∷ d ∷ e ∷ f ∷ g ∷ h ∷ []) l z w n is answer =
    let value = of_pairs (10 * a + b) (10 * b + c) (10 * c + d) (10 * d + e) (10 * e + f) (10 * f + g) (10 * g + h)
    (10 * h) (pairs a b c d e f g h w z.0 is) (omega arith) in
    answer ∙ value ∙ sym (value_weighed (a ∷ b ∷ c ∷ d ∷ e ∷ f ∷ g ∷ h ∷ []) ∙ sum a b c d e f g h)
  where
    pairs : (a b c d e f g h w : ℕ) → a < 10 → w ≡ little_endian (a ∷ b ∷ c ∷ d ∷ e ∷ f ∷ g ∷ h ∷ [])
        → w * 10 + w / 2 ^ 8 ≡ little_endian ((10 * a + b) ∷ (10 * b + c) ∷ (10 * c + d) ∷ (10 * d + e) ∷ (10 * e + f)
        ∷ (10 * f + g) ∷ (10 * g + h) ∷ (10 * h) ∷ [])
    pairs a b c d e f g h w la is =
        let r : w / 2 ^ 8 ≡ little_endian (b ∷ c ∷ d ∷ e ∷ f ∷ g ∷ h ∷ []) = omega arith in omega arith

    sum : (a b c d e f g h : ℕ) → weighed 10 (a ∷ b ∷ c ∷ d ∷ e ∷ f ∷ g ∷ h ∷ [])
        ≡ (10 * a + b) * 1000000 + (10 * c + d) * 10000 + (10 * e + f) * 100 + (10 * g + h)
    sum a b c d e f g h = omega arith
value_eight _ l z w n is answer = absurd (omega arith)

-- ---- the digits at the end of eight bytes

length_clear : (j : ℕ) (s : List ℕ) → length (clear j s) ≡ length s
unfolding clear
length_clear (suc j) (b ∷ s) = ap suc (length_clear j s)
length_clear _ _ = refl

clear_below : (j : ℕ) (s : List ℕ) → AllBelow 256 s → AllBelow 256 (clear j s)
unfolding clear
clear_below zero s h = h
clear_below (suc j) [] h = tt
clear_below (suc j) (b ∷ s) h = (omega arith, clear_below j s h.1)

without_zeros : List ℕ → List ℕ
without_zeros s = map (λ b. bit_xor b 48) s

xor_below : (s : List ℕ) → AllBelow 256 s → AllBelow 256 (without_zeros s)
unfolding without_zeros
xor_below [] h = tt
xor_below (b ∷ s) h = (xor_lt 8 b 48 h.0 (omega arith), xor_below s h.1)

spelled : (s : List ℕ) → AllBelow 256 s → AllBelow 10 (without_zeros s) → AllDigits s
    × (map (λ d. d + 48) (without_zeros s) ≡ s)
unfolding without_zeros
spelled [] h z = (tt, refl)
spelled (b ∷ s) h z =
    let rest = spelled s h.1 z.1 in
    let e = back b _ (right b h.0) z.0 in
    (((omega arith, omega arith), rest.0), rw e (ap (λ t. b ∷ t) rest.1))

cleared : (j : ℕ) (s : List ℕ) → AllBelow 256 s → AllBelow 10 (clear j (without_zeros s)) → AllDigits (drop j s)
    × (digits_value (map (λ d. d + 48) (clear j (without_zeros s))) ≡ digits_value (drop j s))
unfolding clear without_zeros
cleared zero s h z = let e = spelled s h z in (e.0, ap digits_value e.1)
cleared (suc j) [] h z = (tt, refl)
cleared (suc j) (b ∷ s) h z = cleared j s h.1 z.1

-- ---- and back: digits pass the test

digits_small : (j : ℕ) (s : List ℕ) → AllDigits (drop j s) → AllBelow 10 (clear j (without_zeros s))
unfolding clear without_zeros
digits_small zero (b ∷ s) d = (digit_small b _ (right b (omega arith)) d.0.0 d.0.1, digits_small zero s d.1)
digits_small (suc j) (b ∷ s) d = (omega arith, digits_small j s d)
digits_small _ _ d = tt

-- of the bytes in a number of JSON those below 16 are digits
low_digit : (b : ℕ) → IsDigit b ⊎ (16 ≤ bit_xor b 48) → bit_xor b 48 < 16 → bit_xor b 48 < 10
low_digit b (inl digit) low = digit_small b _ (right b (omega arith)) digit.0 digit.1
low_digit b (inr high) low = absurd (omega arith)

low_digits : (j : ℕ) (s : List ℕ) → NumberBytes (drop j s) → AllBelow 16 (clear j (without_zeros s))
    → AllBelow 10 (clear j (without_zeros s))
unfolding clear without_zeros
low_digits zero (b ∷ s) h z = (low_digit b h.0 z.0, low_digits zero s h.1 z.1)
low_digits (suc j) (b ∷ s) h z = (omega arith, low_digits j s h z.1)
low_digits _ _ h z = tt

-- the first byte at the end of eight, if each of them is low there
first_begun : (j : ℕ) (s : List ℕ) → j < length s → AllBelow 256 s → AllBelow 16 (clear j (without_zeros s))
    → (45 ≤ get_or (drop j s) 0 0) × (get_or (drop j s) 0 0 < 64)
unfolding clear without_zeros
first_begun zero (b ∷ s) l h z = begun b _ (right b h.0) z.0
first_begun (suc j) (b ∷ s) l h z = first_begun j s (omega arith) h.1 z.1
first_begun _ _ l h z = absurd (omega arith)

pub all_low : (s : List ℕ) → AllBelow 16 s → little_endian (map (λ b. bit_and b 240) s) ≡ 0
all_low [] h = refl
all_low (b ∷ s) h = omega (arith, h.0, high_half b (omega arith), all_low s h.1)

pub below_more : (m n : ℕ) → m ≤ n → (s : List ℕ) → AllBelow m s → AllBelow n s
below_more m n l [] h = tt
below_more m n l (b ∷ s) h = (omega arith, below_more m n l s h.1)

-- the word that is tested, and what its test says of the bytes
module _ (j : ℕ) (s : List ℕ) {w : ℕ} (m : ℕ) (lj : j ≤ 8) (ls : length s ≡ 8) (h : AllBelow 256 s)
    (is : w ≡ little_endian s)
    (word : m ≡ bit_and (bit_xor w 0x3030303030303030) (2 ^ 64 - 2 ^ (8 * j))) where
  tested_length : length (clear j (without_zeros s)) ≡ 8
  unfolding without_zeros
  tested_length = length_clear j (without_zeros s) ∙ length-map s (λ b. bit_xor b 48) ∙ ls

  tested : m ≡ little_endian (clear j (without_zeros s))
  unfolding without_zeros
  tested =
      let xs = without_zeros s in
      let same =
      ap (λ n. bit_xor (little_endian s) (little_endian (replicate n 48))) (sym ls)
      ∙ by_bytes bit_xor refl (xor_block 8) 48 (omega arith) s h in
      word ∙ ap (λ v. bit_and (bit_xor v 0x3030303030303030) (2 ^ 64 - 2 ^ (8 * j))) is
      ∙ ap (λ v. bit_and v (2 ^ 64 - 2 ^ (8 * j))) same
      ∙ masked j xs lj (length-map s (λ b. bit_xor b 48) ∙ ls) (xor_below s h)

  -- where each byte of the word is below 16: the eight digits of the word, and those that stand at the end of eight
  -- bytes, which are a number if begun as one
  pub eight_at_end : j < 8 → ((t : List ℕ) → length t ≡ 8 → AllBelow 256 t → m ≡ little_endian t → AllBelow 16 t)
      → IsNumberIfBegun (drop j s)
      → SpellsNumber (drop j s) × AllDigits (drop j s)
      × ((t : List ℕ) × (length t ≡ 8) × AllBelow 10 t × (m ≡ little_endian t)
      × (digits_value (map (λ d. d + 48) t) ≡ digits_value (drop j s)))
  eight_at_end few each if_begun =
      search (arith, tested_length, clear_below, xor_below, tested, first_begun, low_digits, number_bytes, cleared)

  -- and digits pass the test
  pub digits_pass : (b : Bool)
      → ((t : List ℕ) → length t ≡ 8 → AllBelow 256 t → m ≡ little_endian t → AllBelow 16 t → IsTrue b)
      → AllDigits (drop j s) → IsTrue b
  digits_pass b each d =
      search (arith, tested_length, xor_below, tested, below_more, digits_small)
