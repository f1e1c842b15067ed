-- Ranges that are widened.
use Rattle.cj_stream.proofs.Common.{All, All-append, All-cons, All-nil, AreWordsOf, Bool, Contains, IsRange, IsTrue, IsWordOf, List, None, Option, Some, TakesNumber, Widens, WidensFront, [], ap, append-nil, append_assoc, arith, cases_lt, cond, false, get_or, inl, inr, int_lt, ints, length, map, max, min, number_on, pos, refl, subst, suc, sym, true, wider, zero, ℕ, ℤ, ◌++◌, ◌+◌, ◌-◌, ◌<◌, ◌^◌, ◌∙◌, ◌∷◌, ◌≡◌, ◌≤ℤ◌, ◌≤◌, ◌⊎◌}
use Rattle.std.specs.Int.{int_min, int_max}
use Rattle.std.proofs.lemmas.List.Elements.{All-contains, All-contains_itself, All-weaker, Contains-append_cases, Contains-append_left, Contains-append_right, Contains-push}
use Rattle.cj_decimal.proofs.Below.{words_in_order, word_room, word_zero}
use Rattle.cj_stream.specs.TallySink.{RangesFront, TakesSome}

-- not below one number and not above another
abbrev Within : ℤ → ℤ → ℤ → Type 0
Within low high n = (low ≤ℤ n) × (n ≤ℤ high)

-- by no number a range is the same
pub Widens-no : (a : Option (ℤ × ℤ)) → Widens a [] a
Widens-no a before is = rw (append-nil before) is

-- by some numbers, and then by others
pub Widens-two : (xs ys : List ℤ) (a m b : Option (ℤ × ℤ)) → Widens a xs m → Widens m ys b → Widens a (xs ++ ys) b
Widens-two xs ys a m b first then before is =
    rw (append_assoc before xs ys) at (then (before ++ xs) (first before is))

-- the range of one number
pub Widens-first : (n : ℤ) → Widens None (n ∷ []) (Some (n, n))
Widens-first n before none = rw none (
  Contains-push [] n,
  Contains-push [] n,
  All-cons (Within n n) n [] (omega (arith, ints), omega (arith, ints)) (All-nil (Within n n)),
)

-- one of the ends, or else the new number
end : (before : List ℤ) (e n : ℤ) (x : ℤ) → Contains before e → (x ≡ e) ⊎ (x ≡ n) → Contains (before ++ n ∷ []) x
end before e n x has (inl same) =
    rw same (Contains-append_left _ _ e has)
end before e n x has (inr same) = rw same (Contains-push _ n)

-- a range and one more number
Widens-next : (least greatest low high n : ℤ) → (low ≡ least) ⊎ (low ≡ n) → low ≤ℤ least → low ≤ℤ n
    → (high ≡ greatest) ⊎ (high ≡ n) → greatest ≤ℤ high → n ≤ℤ high
    → Widens (Some (least, greatest)) (n ∷ []) (Some (low, high))
Widens-next least greatest low high n l l1 l2 h h1 h2 before is = (
  end _ _ n _ is.0 l,
  end _ _ n _ is.1 h,
  All-append (Within low high) _ _
      (All-weaker (Within least greatest) (Within low high)
      (λ x k. (omega (arith, ints, k.0, l1), omega (arith, ints, k.1, h1))) before is.2)
      (All-cons (Within low high) n [] (l2, h2) (All-nil (Within low high))),
)

-- of two numbers one is the least, and one the greatest
least-one : (a n : ℤ) (b : Bool) → int_lt n a ≡ b → (cond b n a ≡ a) ⊎ (cond b n a ≡ n)
least-one a n true e = inr refl
least-one a n false e = inl refl

least-low : (a n : ℤ) (b : Bool) → int_lt n a ≡ b → (cond b n a ≤ℤ a) × (cond b n a ≤ℤ n)
least-low a n true e = (grind (arith, ints), grind (arith, ints))
least-low a n false e = (grind (arith, ints), grind (arith, ints))

greatest-one : (a n : ℤ) (b : Bool) → int_lt n a ≡ b → (cond b a n ≡ a) ⊎ (cond b a n ≡ n)
greatest-one a n true e = inl refl
greatest-one a n false e = inr refl

greatest-high : (a n : ℤ) (b : Bool) → int_lt n a ≡ b → (a ≤ℤ cond b a n) × (n ≤ℤ cond b a n)
greatest-high a n true e = (grind (arith, ints), grind (arith, ints))
greatest-high a n false e = (grind (arith, ints), grind (arith, ints))

-- each end is the lesser or the greater one of it and the new number
pub Widens-ends : (least greatest n : ℤ)
    → Widens (Some (least, greatest)) (n ∷ []) (Some (int_min least n, int_max greatest n))
Widens-ends least greatest n =
    let low = least-low _ n _ refl in
    let high = greatest-high _ n _ refl in
    Widens-next _ _ _ _ n (least-one _ n _ refl) low.0
    low.1 (greatest-one _ n _ refl) high.0 high.1

-- the range of some numbers and others
either : (xs ys : List ℤ) (x y n : ℤ) → Contains xs x → Contains ys y → (n ≡ x) ⊎ (n ≡ y) → Contains (xs ++ ys) n
either xs ys x y n a b (inl same) = rw same (Contains-append_left _ _ x a)
either xs ys x y n a b (inr same) =
    rw same (Contains-append_right _ _ y b)

pub IsRange-two : (xs ys : List ℤ) (p q : Option (ℤ × ℤ)) → IsRange xs p → IsRange ys q → IsRange (xs ++ ys) (wider p q)
IsRange-two xs ys None q a b = subst (λ (ns : List ℤ). IsRange (ns ++ ys) q) (sym a) b
IsRange-two xs ys (Some p) None a b =
    subst (λ (ns : List ℤ). IsRange (xs ++ ns) (Some p)) (sym b)
    (subst (λ (ns : List ℤ). IsRange ns (Some p)) (sym (append-nil xs)) a)
IsRange-two xs ys (Some p) (Some q) a b =
    let low = least-low p.0 q.0 (int_lt q.0 p.0) refl in
    let high = greatest-high p.1 q.1 (int_lt q.1 p.1) refl in
    let all = Within (int_min p.0 q.0) (int_max p.1 q.1) in (
      either xs _ _ _ _ a.0 b.0 (least-one _ _ _ refl),
      either _ _ _ _ (int_max p.1 q.1) a.1 b.1 (greatest-one p.1 q.1 (int_lt q.1 p.1) refl),
      All-append all xs ys
          (All-weaker (Within p.0 p.1) all (λ x k. (omega (arith, ints, k.0, low.0), omega (arith, ints, k.1, high.0)))
          xs a.2)
          (All-weaker (Within q.0 q.1) all (λ x k. (omega (arith, ints, k.0, low.1), omega (arith, ints, k.1, high.1)))
          ys b.2),
    )

-- the number of a vertex that is whole
number_on-some : (axis : ℕ) (v : List ℤ) → number_on axis (map Some v) ≡ get_or v axis (pos 0)
number_on-some axis [] = refl
number_on-some zero (x ∷ xs) = refl
number_on-some (suc axis) (x ∷ xs) = number_on-some axis xs

-- the first of some vertices, and what is left of their numbers on an axis
pub numbers-first : (axis : ℕ) (n : ℤ) (whole left : List (List (Option ℤ))) (v : List ℤ) → n ≡ get_or v axis (pos 0)
    → whole ≡ map Some v ∷ left
    → map (number_on axis) whole ≡ n ∷ map (number_on axis) left
numbers-first axis n whole left v is e = ap (map (number_on axis)) e
    ∙ ap (λ m. m ∷ map (number_on axis) left) (number_on-some _ v ∙ sym is)

-- a range was widened on the way to all numbers, and the numbers `left` are left
pub record Widening (old : Option (ℤ × ℤ)) (all : List ℤ) (range : Option (ℤ × ℤ)) (left : List ℤ) : Type 0 where
  pub rest : (end : Option (ℤ × ℤ)) → Widens range left end → Widens old all end

-- at the start all numbers are left
pub Widening-start : (range : Option (ℤ × ℤ)) (all left : List ℤ) → left ≡ all → Widening range all range left
Widening-start range all left e = record { rest = λ end w. rw e at w }

-- a number is taken
pub Widening-step : (old range wider : Option (ℤ × ℤ)) (all whole left : List ℤ) (n : ℤ) → whole ≡ n ∷ left
    → Widens range (n ∷ []) wider → Widening old all range whole → Widening old all wider left
Widening-step old range wider all whole left n e one h =
    record {
      rest = λ end w.
          h.rest end (rw e
          (Widens-two _ _ _ _ _ one w));
    }

-- at the end none is left
pub Widening-end : (old range : Option (ℤ × ℤ)) (all left : List ℤ) → left ≡ [] → Widening old all range left
    → Widens old all range
Widening-end old range all left e h =
    h.rest range (rw e (Widens-no _))

-- what holds on each of the three axes
pub on_axes : (holds : ℕ → Type 0) → holds 0 → holds 1 → holds 2 → (axis : ℕ) → axis < 3 → holds axis
on_axes holds x y z (suc (suc (suc n))) below = absurd (omega arith)
on_axes holds x y z other below = search

-- ---- ranges of words

-- of two words one is the least, and its number is the least
least-word : (low w m a n : ℕ) → m ≡ min low w → IsWordOf low a → IsWordOf w n → (c : ℕ) × IsWordOf m c
    × ((pos c ≡ pos a) ⊎ (pos c ≡ pos n)) × (c ≤ a) × (c ≤ n)
least-word low w m a n is x y = elim (cases_lt w low) [
  | inl less ↦ (
    n,
    subst (λ k. IsWordOf k n) (omega (arith, is)) y,
    inr refl,
    words_in_order w low n a y x (omega arith),
    omega
        arith,
  )
  | inr more ↦ (
    a,
    subst (λ k. IsWordOf k a) (omega (arith, is)) x,
    inl refl,
    omega arith,
    words_in_order low w a n x y
        (omega arith),
  )
]

greatest-word : (high w m b n : ℕ) → m ≡ max high w → IsWordOf high b → IsWordOf w n → (d : ℕ) × IsWordOf m d
    × ((pos d ≡ pos b) ⊎ (pos d ≡ pos n)) × (b ≤ d) × (n ≤ d)
greatest-word high w m b n is x y = elim (cases_lt high w) [
  | inl less ↦ (
    n,
    subst (λ k. IsWordOf k n) (omega (arith, is)) y,
    inr refl,
    words_in_order high w b n x y (omega arith),
    omega
        arith,
  )
  | inr more ↦ (
    b,
    subst (λ k. IsWordOf k b) (omega (arith, is)) x,
    inl refl,
    omega arith,
    words_in_order w high n b y x
        (omega arith),
  )
]

-- words with the word of one number more
pub words-widened : (low high w l h n : ℕ) → l ≡ min low w → h ≡ max high w → IsWordOf w n
    → TakesNumber (low, high) (pos n) (l, h)
words-widened low high w l h n is_low is_high word None none =
    let room = word_room w n word in let least = none.0 in let greatest = none.1 in (
      (pos n, pos n),
      (
        n,
        n,
        subst (λ k. IsWordOf k n) (omega (arith, is_low, room, least)) word,
        subst (λ k. IsWordOf k n)
            (omega (arith, is_high, greatest)) word,
        refl,
      ),
      Widens-first _,
    )
words-widened low high w l h n is_low is_high word (Some r) words =
    let a = words.0 in let b = words.1 in
    let c = least-word _ w l a n is_low words.2 word in
    let d = greatest-word _ w h b n is_high words.3 word in
    let wide = Widens-next _ _ _ _ _ c.2 (omega (arith, ints, c.3))
    (omega (arith, ints, c.4)) d.2 (omega (arith, ints, d.3)) (omega (arith, ints, d.4)) in (
      (pos _, pos _),
      (c.0, d.0, c.1, d.1, refl),
      rw words.4 wide,
    )

-- what words have a range, and which
pub words-none : (words : ℕ × ℕ) (r : Option (ℤ × ℤ)) → AreWordsOf words r → words.0 ≡ 2 ^ 64 - 1 → r ≡ None
words-none words None are e = refl
words-none words (Some r) are e = absurd (omega (arith, word_room words.0 are.0 are.2))

pub words-some : (words : ℕ × ℕ) (r : Option (ℤ × ℤ)) → AreWordsOf words r → (words.0 ≡ 2 ^ 64 - 1 → ⊥) → (a b : ℕ)
    × IsWordOf words.0 a × IsWordOf words.1 b × (r ≡ Some (pos a, pos b))
words-some words None are not = absurd (not are.0)
words-some words (Some r) are not = (are.0, are.1, are.2, are.3, ap (λ q. Some q) are.4)

-- the greatest word has a number, also if there is none
pub words-top : (words : ℕ × ℕ) (r : Option (ℤ × ℤ)) → AreWordsOf words r → (n : ℕ) × IsWordOf words.1 n
words-top words None are = (0, rw are.1 word_zero)
words-top words (Some r) are = (are.1, are.3)

-- a range that is not widened
pub wider-none : (r : Option (ℤ × ℤ)) → wider r None ≡ r
wider-none None = refl
wider-none (Some r) = refl

not-lesser : (a n : ℤ) (b : Bool) → int_lt n a ≡ b → a ≤ℤ n → cond b n a ≡ a
not-lesser a n true e h = absurd (grind (arith, ints))
not-lesser a n false e h = refl

not-greater : (a n : ℤ) (b : Bool) → int_lt n a ≡ b → n ≤ℤ a → cond b a n ≡ a
not-greater a n true e h = refl
not-greater a n false e h = grind (arith, ints)

pub wider-within : (least greatest low high : ℤ) → least ≤ℤ low → high ≤ℤ greatest
    → wider (Some (least, greatest)) (Some (low, high)) ≡ Some (least, greatest)
wider-within least greatest low high l h =
    ap (λ x. Some (x, int_max greatest high)) (not-lesser _ _ _ refl l)
    ∙ ap (λ x. Some (least, x)) (not-greater _ _ _ refl h)

-- words that stay take none of the numbers
pub words-kept : (old new : ℕ × ℕ) (left : List ℤ) → new ≡ old → TakesSome old left new
words-kept old new left e r are =
    (r, rw e are, [], All-nil _, Widens-no r)

-- words that take the first number take some of them
pub words-first : (old new : ℕ × ℕ) (n : ℤ) (left rest : List ℤ) → left ≡ n ∷ rest → TakesNumber old n new
    → TakesSome old left new
words-first old new n left rest e takes r are =
    let t = takes r are in (
      Some t.0,
      t.1,
      n ∷ [],
      All-cons (Contains left) n [] (subst (λ (ns : List ℤ). Contains ns n) (sym e)
          (Contains-append_left (n ∷ []) rest n (Contains-push [] n))) (All-nil (Contains left)),
      t.2,
    )

-- a vertex and what is left, on an axis
pub axis-next : (axis : ℕ) (whole left : List (List (Option ℤ))) (v : List (Option ℤ)) → whole ≡ v ∷ left
    → map (number_on axis) whole ≡ number_on axis v ∷ map (number_on axis) left
axis-next axis whole left v is = ap (map (number_on axis)) is

-- words that may take the number of the next vertex
pub words-tried : (b : Bool) (axis : ℕ) (old new : ℕ × ℕ) (whole : List (List (Option ℤ)))
    → (IsTrue b → (v : List (Option ℤ)) × (vs : List (List (Option ℤ))) × (whole ≡ v ∷ vs)
    × TakesNumber old (number_on axis v) new)
    → IsTrue b ⊎ (new ≡ old) → TakesSome old (map (number_on axis) whole) new
words-tried true axis old new whole taken kept =
    let t = taken refl in
    words-first _ _ _ _ _
    (axis-next _ _ _ _ t.2) t.3
words-tried false axis old new whole taken kept = elim kept [
  | inl e ↦ cc
  | inr same ↦ words-kept _ _ _ same
]

-- ---- words on the way over the numbers of all vertices

-- words are of the numbers before those that are left; at the end of the way, also of some of these
abbrev pub OnWay : Bool → List ℤ → ℕ × ℕ → List ℤ → Type 0
OnWay true all words left = (r : Option (ℤ × ℤ)) × AreWordsOf words r × (front : List ℤ) × (all ≡ front ++ left)
    × IsRange front r
OnWay false all words left = (r : Option (ℤ × ℤ)) × AreWordsOf words r × RangesFront all r left

pub way-next : (all : List ℤ) (old new : ℕ × ℕ) (n : ℤ) (whole left : List ℤ) → whole ≡ n ∷ left
    → TakesNumber old n new → OnWay true all old whole → OnWay true all new left
way-next all old new n whole left e takes h =
    let t = takes h.0 h.1 in
    let front = h.2 in (
      Some t.0,
      t.1,
      front ++ n ∷ [],
      h.3 ∙ ap (λ ns. front ++ ns) e ∙ sym (append_assoc front (n ∷ []) left),
      t.2 front h.4,
    )

pub way-end : (all : List ℤ) (old new : ℕ × ℕ) (whole left : List ℤ) → left ≡ whole → TakesSome old whole new
    → OnWay true all old whole → OnWay false all new left
way-end all old new whole left e takes h =
    let t = takes h.0 h.1 in (
      t.0,
      t.1,
      record {
        front = h.2;
        more = t.2;
        joined = h.3 ∙ ap (λ ns. h.2 ++ ns) (sym e);
        inside = rw e t.3;
        range_is = t.4 h.2 h.4;
      },
    )

pub way-step : (b : Bool) (all : List ℤ) (old new : ℕ × ℕ) (whole left : List ℤ)
    → (IsTrue b → (n : ℤ) × (whole ≡ n ∷ left) × TakesNumber old n new)
    → IsTrue b ⊎ ((left ≡ whole) × TakesSome old whole new) → OnWay true all old whole → OnWay b all new left
way-step true all old new whole left gone stays h =
    let g = gone refl in way-next _ _ _ _ _ _ g.1 g.2 h
way-step false all old new whole left gone stays h = elim stays [
  | inl e ↦ cc
  | inr s ↦ way-end _ _ _ _ _ s.0 s.1 h
]

-- each step passes over a vertex, or is the last one
pub way-shorter : (b going : Bool) (whole left : List (List (Option ℤ))) → going ≡ true
    → (IsTrue b → (v : List (Option ℤ)) × (whole ≡ v ∷ left)) → IsTrue b ⊎ (left ≡ whole)
    → length left + cond b 1 0 < length whole + cond going 1 0
way-shorter b false whole left e gone stays = cc
way-shorter true true whole left e gone stays = omega (arith, ap length (gone refl).1)
way-shorter false true whole left e gone stays = elim stays [
  | inl t ↦ cc
  | inr same ↦ omega (arith, ap length same)
]

-- the range of the front is joined to another
pub way-joined : (all left : List ℤ) (words : ℕ × ℕ) (old new : Option (ℤ × ℤ)) → OnWay false all words left
    → ((r : Option (ℤ × ℤ)) → AreWordsOf words r → new ≡ wider old r) → WidensFront old all new left
way-joined all left words old new h join = (h.0, h.2, join h.0 h.1)

-- ---- the range of the front and of some of the rest

-- a range of numbers of which some come twice
one-more : (xs more ys : List ℤ) (n : ℤ) → Contains (xs ++ ys) n → Contains ((xs ++ more) ++ ys) n
one-more xs more ys n has = elim (Contains-append_cases _ _ n has) [
  | inl first ↦ Contains-append_left _ _ n (Contains-append_left xs more n first)
  | inr later ↦ Contains-append_right (xs ++ more) ys n later
]

one-fewer : (xs more ys : List ℤ) (n : ℤ) → All (Contains ys) more → Contains ((xs ++ more) ++ ys) n
    → Contains (xs ++ ys) n
one-fewer xs more ys n inside has = elim (Contains-append_cases (xs ++ more) ys n has) [
  | inl first ↦ elim (Contains-append_cases xs _ n first) [
    | inl own ↦ Contains-append_left xs ys n own
    | inr twice ↦ Contains-append_right xs ys n (All-contains (Contains ys) _ n inside twice)
  ]
  | inr later ↦ Contains-append_right xs ys n later
]

none-fewer : (xs more ys : List ℤ) → (xs ++ more) ++ ys ≡ [] → xs ++ ys ≡ []
none-fewer [] [] ys e = e
none-fewer [] (n ∷ more) ys e = cc
none-fewer (n ∷ xs) more ys e = cc

range-fewer : (xs more ys : List ℤ) (r : Option (ℤ × ℤ)) → All (Contains ys) more → IsRange ((xs ++ more) ++ ys) r
    → IsRange (xs ++ ys) r
range-fewer xs more ys None inside is = none-fewer xs more ys is
range-fewer xs more ys (Some r) inside is = (
  one-fewer _ _ _ _ inside is.0,
  one-fewer _ _ _ _ inside is.1,
  All-weaker (Contains (xs ++ ys)) (Within r.0 r.1)
      (λ n has. All-contains (Within r.0 r.1) _ n is.2 (one-more xs more ys n has)) _
      (All-contains_itself _),
)

-- the range of the front joins another, and is widened by the rest
pub front-widened : (all rest numbers : List ℤ) (old few joined end : Option (ℤ × ℤ)) → numbers ≡ all
    → RangesFront all few rest → joined ≡ wider old few → Widens joined rest end → Widens old numbers end
front-widened all rest numbers old few joined end same f j w before is =
    let first = before ++ f.front in
    let long = rw (← j) at (IsRange-two before (f.front ++ f.more) old few is f.range_is) in
    let wide = w (first ++ f.more)
    (rw (append_assoc before f.front f.more) long) in
    rw (append_assoc before f.front rest ∙ ap (λ ns. before ++ ns) (sym f.joined ∙ sym same)) at
    (range-fewer _ _ _ _ f.inside wide)
