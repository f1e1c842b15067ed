-- Words of eight digits, from the first one on, have the order of their numbers.
use Rattle.cj_decimal.proofs.Common.{◌≡◌, ℕ, zero, suc, ◌+◌, ◌*◌, ◌/◌, ◌%◌, ◌^◌, ◌<◌, ◌≤◌, List, [], ◌∷◌, length, map, get_or, refl, sym, ap, subst, arith, ◌∙◌, inl, inr, w64, pow-suc, cases_lt, mul-le-mul_left, Class, whole_answer, IsShort, IsInt, digits_value, le_bytes_8}
use Rattle.std.proofs.Math.Nat.{pow-zero}
use Rattle.std.specs.Int.{swap_bytes}
use Rattle.std.specs.Prelude.{Option, None, Some, IfSome, IsSome, Ok, pos}
use Rattle.cj_decimal.specs.Word.{little_endian, AllBelow, IsCountWord, IsWordOf, IsBoundWord, weighed}
use Rattle.cj_decimal.proofs.Readings.{answer_digits, int_short}
use Rattle.cj_decimal.proofs.Eights.{value_weighed}

weighed_below : (n : ℕ) → 10 ≤ n → (s : List ℕ) → AllBelow 10 s → weighed n s < n ^ length s
unfolding weighed
weighed_below n h [] z = omega (arith, pow-zero n)
weighed_below n h (d ∷ s) z =
    let front : suc d ≤ n = omega arith in
    omega (arith, mul-le-mul_left (n ^ length s) front, weighed_below n h s z.1, pow-suc n (length s))

-- one digit decides, or the rest does
step : (k : ℕ) → k ≤ 1 → (p q a b x y u v : ℕ) → x < q → y < q → u < p → (x + k ≤ y → u + k ≤ v)
    → q * a + x + k ≤ q * b + y → p * a + u + k ≤ p * b + v
step k one p q a b x y u v lx ly lu f h =
    elim (cases_lt a b) [
      | inl less ↦ let m = mul-le-mul_left p less in omega arith
      | inr more ↦ elim (cases_lt b a) [
        | inl greater ↦ absurd (omega (arith, mul-le-mul_left q greater, ly, h))
        | inr equal ↦ let e : a ≡ b = omega arith in same e
      ]
    ]
  where
    same : a ≡ b → p * a + u + k ≤ p * b + v
    same e = let g : q * a + x + k ≤ q * a + y = subst (λ n. q * a + x + k ≤ q * n + y) (sym e) h in
        let l = f (omega (arith, g)) in subst (λ n. p * a + u + k ≤ p * n + v) e (omega (arith, l))

-- with 1 for k it is "less", and with 0 "at most"
order : (k : ℕ) → k ≤ 1 → (s t : List ℕ) → length s ≡ length t → AllBelow 10 s → AllBelow 10 t
    → weighed 256 s + k ≤ weighed 256 t → weighed 10 s + k ≤ weighed 10 t
unfolding weighed
order k one [] [] e hs ht l = l
order k one (a ∷ s) (b ∷ t) e hs ht l =
    let n : length t ≡ length s = omega (arith, e) in
    let wide : 10 ≤ 256 = omega arith in
    rw n (step k one (10 ^ length s) (256 ^ length s) a b (weighed 256 s) (weighed 256 t) (weighed 10 s) (weighed 10 t)
    (weighed_below 256 wide s hs.1) (rw n at (weighed_below 256 wide t ht.1)) (weighed_below 10 (omega arith) s hs.1)
    (order k one s t (sym n) hs.1 ht.1) (rw n at l))
order k one _ _ e hs ht l = absurd (omega (arith, e))

-- ---- eight digits

bytes_of : (s : List ℕ) → AllBelow 10 s → (i : ℕ) → get_or s i 0 < 256
bytes_of [] h i = omega arith
bytes_of (b ∷ s) h zero = omega arith
bytes_of (b ∷ s) h (suc i) = bytes_of s h.1 i

pub swapped : (s : List ℕ) → length s ≡ 8 → AllBelow 10 s → swap_bytes w64 (little_endian s) ≡ weighed 256 s
unfolding weighed
swapped (a ∷ b ∷ c ∷ d ∷ e ∷ f ∷ g ∷ h ∷ []) l z = search (arith, le_bytes_8, bytes_of)
swapped _ l z = absurd (omega (arith, l))

unswapped : (s : List ℕ) → length s ≡ 8 → AllBelow 10 s → swap_bytes w64 (weighed 256 s) ≡ little_endian s
unfolding weighed
unswapped (a ∷ b ∷ c ∷ d ∷ e ∷ f ∷ g ∷ h ∷ []) l z = search (arith, swapped)
unswapped _ l z = absurd (omega (arith, l))

-- ---- words and their numbers

-- words have the order of their numbers
pub words_in_order : (v w a b : ℕ) → IsWordOf v a → IsWordOf w b → v ≤ w → a ≤ b
words_in_order v w a b x y h =
    let s = x.0 in let t = y.0 in
    let p = x.3 in let below : weighed 256 s + 0 ≤ weighed 256 t = omega (arith, p, y.3, h) in
    let o = order 0 (omega arith) s t (x.1 ∙ sym y.1) x.2 y.2 below in
    let m = x.4 ∙ value_weighed s in let n = y.4 ∙ value_weighed t in
    omega arith

-- eight digits as a word
pub word_of_eight : (s : List ℕ) {m n : ℕ} → length s ≡ 8 → AllBelow 10 s → m ≡ little_endian s
    → digits_value (map (λ d. d + 48) s) ≡ n → IsWordOf (swap_bytes w64 m) n
word_of_eight s l small is value = search (arith, swapped)

pub eight_of_word : (w n : ℕ) → IsWordOf w n → (s : List ℕ) × (length s ≡ 8) × AllBelow 10 s
    × (swap_bytes w64 w ≡ little_endian s) × (n ≡ digits_value (map (λ d. d + 48) s))
eight_of_word w n h = search (arith, unswapped)

-- neither the word of a number nor its bytes in the other order are the greatest word
room : (s : List ℕ) → length s ≡ 8 → AllBelow 10 s → (little_endian s < 2 ^ 60) × (weighed 256 s < 2 ^ 60)
unfolding weighed
room (a ∷ b ∷ c ∷ d ∷ e ∷ f ∷ g ∷ h ∷ []) l z = omega arith
room _ l z = absurd (omega (arith, l))

pub eight_room : (s : List ℕ) {m : ℕ} → length s ≡ 8 → AllBelow 10 s → m ≡ little_endian s → m < 2 ^ 60
eight_room s l z is = rw is (room s l z).0

pub word_room : (w n : ℕ) → IsWordOf w n → w < 2 ^ 60
word_room w n k = rw k.3 (room k.0 k.1 k.2).1

-- 0 is the word of 0
pub word_zero : IsWordOf 0 0
unfolding weighed
word_zero =
    let digits : AllBelow 10 (0 ∷ 0 ∷ 0 ∷ 0 ∷ 0 ∷ 0 ∷ 0 ∷ 0 ∷ []) = omega arith in
    (0 ∷ 0 ∷ 0 ∷ 0 ∷ 0 ∷ 0 ∷ 0 ∷ 0 ∷ [], refl, digits, omega arith, refl)

word_small : (w n : ℕ) → IsWordOf w n → n < 2 ^ 32
word_small w n h =
    let m = h.4 ∙ value_weighed h.0 in
    let b = weighed_below 10 (omega arith) h.0 h.2 in
    let p = ap (λ k. 10 ^ k) h.1 in
    omega arith

-- digits that have a word are a short number
pub word_short : (s : List ℕ) (w : ℕ) {n : ℕ} → IsInt s → IsWordOf w (digits_value s) → n ≡ digits_value s → IsShort s n
word_short s w int word is =
    int_short s int is (omega (arith, is, word_small w (digits_value s) word))

-- the word of a number's digits has the number that reading it answers
pub word_answer : (o : Option ℕ) (s : List ℕ) → (IsSome o → IsInt s) → IfSome o (λ w. IsWordOf w (digits_value s))
    → IfSome o (λ w. (n : ℕ) × IsWordOf w n × ((c : Class s) → whole_answer c ≡ Ok (Some (pos n))))
word_answer None s int word = word
word_answer (Some w) s int word = search (arith, answer_digits, word_short)

-- ---- what a word of a count tells

pub below_bound : (w n word limit : ℕ) → IsWordOf w n → w < word → IsBoundWord word limit → n < limit
below_bound w n word limit h less is_bound = search arith

pub all_below : (n word : ℕ) → 100000000 ≤ n → IsBoundWord word n
unfolding weighed
all_below n word h = λ s l z w. let v = value_weighed s in let b = weighed_below 10 (omega arith) s z in
    let p = ap (λ k. 10 ^ k) l in omega arith

-- a word that has the digits of a number tells of eight digits whether they spell less
pub bound_of_word : (word n : ℕ) → IsWordOf word n → IsBoundWord word n
bound_of_word word n h = λ s l z w.
    let above : weighed 256 s + 1 ≤ weighed 256 h.0 = omega (arith, h.3, w) in
    let o = order 1 (omega arith) s h.0 (l ∙ sym h.1) z h.2 above in
    let m = h.4 ∙ value_weighed h.0 in let v = value_weighed s in omega arith

-- the digits of a number, one after another, are its word
pub spelled : (n a b c d e f g word : ℕ) → n < 100000000 → a ≡ n / 10 → b ≡ a / 10 → c ≡ b / 10 → d ≡ c / 10
    → e ≡ d / 10 → f ≡ e / 10 → g ≡ f / 10
    → word ≡ n % 10 + a % 10 * 256 + b % 10 * 65536 + c % 10 * 16777216
    + (d % 10 + e % 10 * 256 + f % 10 * 65536 + g * 16777216) * 4294967296
    → IsWordOf word n
unfolding weighed
spelled n a b c d e f g word small ia ib ic id ie if ig is =
    let t = g ∷ f % 10 ∷ e % 10 ∷ d % 10 ∷ c % 10 ∷ b % 10 ∷ a % 10 ∷ n % 10 ∷ [] in
    let digits : AllBelow 10 t = omega arith in
    let as_word : word ≡ weighed 256 t = omega (arith, is) in
    let value : weighed 10 t ≡ n = omega arith in (
      t,
      refl,
      digits,
      as_word,
      sym value ∙ sym (value_weighed t),
    )

-- the word of digits that spell less than a count is below that of the count
pub word_below : (w m : ℕ) {word n : ℕ} → IsWordOf w m → IsCountWord word n → m < n → w < word
word_below w m {word} {n} is count less =
    elim (cases_lt n 100000000) [
      | inl few ↦ elim (cases_lt w word) [
        | inl below ↦ below
        | inr above ↦
            let o = words_in_order word w n m (count.few few) is above in absurd (omega arith)
      ]
      | inr more ↦ let room = word_room w m is in omega (arith, room, count.more more)
    ]
