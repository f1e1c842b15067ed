-- Walks over the parts of a container, by the indices of tokens.
use Rattle.cj_spans.proofs.Common.{◌≡◌, ℕ, zero, suc, ◌+◌, ◌-◌, ◌<◌, ◌≤◌, List, [], ◌∷◌, take, drop, slice_get, true, inl, inr, Some, refl, sym, ap, arith, ◌∙◌, first_so, cases_lt, nat_tests, Token, Kind, Text, Tree, start_of, size, kind_by, held, past, node, forest, byte, span_at, spans_of, AreOf, AreLone, StopBefore, before, is_name, are_members}
use Rattle.cj_spans.proofs.Forests.{held_on, past_on, start-node}
use Rattle.cj_spans.proofs.Views.{before_one, before_zero, below_at, held_none, past_here, past-past}
use Rattle.cj_spans.proofs.Sizes.{are_sized, before_stopped}

-- ---- trees up to a place, of those up to a later one

held-held : (ts : List Tree) (i j : ℕ) → i ≤ j → held i (held j ts) ≡ held i ts
held-held [] i j h = refl
held-held (t ∷ ts) i j h = grind (arith, held_on, held_none, held-held ts i j h)

past-held : (ts : List Tree) (i j : ℕ) → i ≤ j → past i (held j ts) ≡ held j (past i ts)
past-held [] i j h = refl
past-held (t ∷ ts) i j h = grind (arith, held_on, past_on, past_here, held_none, past-held ts i j h)

-- ---- a token more at the front

-- the trees that a token shows before others, which show the trees f
abbrev built : List ℕ → Token → List Tree → List Tree
built b t f = node b (kind_by (byte b t.start)) t.start t.stop (held t.stop f) ∷ past t.stop f

module _ (b : List ℕ) (t : Token) (f : List Tree) (j : ℕ) where
  first_start : start_of (node b (kind_by (byte b t.start)) t.start t.stop (held t.stop f)) ≡ t.start
  first_start = grind (arith, start-node)

  held_built : t.start < j → t.stop ≤ j → held j (built b t f) ≡ built b t (held j f)
  held_built l o = grind (arith, held_on, first_start, held-held, past-held)

  past_built : t.start < j → t.stop ≤ j → past j (built b t f) ≡ past j f
  past_built l o = grind (arith, past_on, first_start, past-past)

  held_none_built : j ≤ t.start → held j (built b t f) ≡ []
  held_none_built g = grind (arith, held_none, first_start)

  past_none_built : j ≤ t.start → past j (built b t f) ≡ built b t f
  past_none_built g = grind (arith, past_here, first_start)

-- ---- tokens at the front and the trees up to a place, where what starts before it stops before it

abbrev Stops : ℕ → List Token → Type 0
Stops j [] = Unit {0}
Stops j (t ∷ ts) = (t.start < j → t.stop ≤ j) × Stops j ts

pub stops_from : (ts : List Token) (k j : ℕ) → StopBefore ts k j → Stops j (drop k ts)
stops_from [] zero j s = tt
stops_from [] (suc k) j s = tt
stops_from (t ∷ ts) (suc k) j s = stops_from ts k j (λ i u h g l. s (suc i) u (omega arith) g l)
stops_from (t ∷ ts) zero j s =
    (s 0 t (omega arith) refl, stops_from ts 0 j (λ i u h g l. s (suc i) u (omega arith) g l))

pub spans_of-drop : (k : ℕ) (ts : List Token) → spans_of (drop k ts) ≡ drop k (spans_of ts)
spans_of-drop zero ts = refl
spans_of-drop (suc k) [] = refl
spans_of-drop (suc k) (t ∷ ts) = spans_of-drop k ts

forest_nil : (b : List ℕ) (n k : ℕ) → forest b (take n (drop k [])) ≡ []
unfolding forest
forest_nil b zero zero = refl
forest_nil b zero (suc k) = refl
forest_nil b (suc n) zero = refl
forest_nil b (suc n) (suc k) = refl

-- those that start before the place show the trees up to it
pub taken : (b : List ℕ) (ts : List Token) (j n : ℕ) → Stops j ts → n ≡ before j ts
    → forest b (take n (spans_of ts)) ≡ held j (forest b (spans_of ts))
unfolding forest
taken b [] j n s e = forest_nil b n 0
taken b (t ∷ ts) j n s e =
    grind (
      arith,
      before_one,
      held_built,
      before_zero,
      held_none_built,
      taken b ts j (before j ts) s.1 refl,
      t.start,
      s.1,
      s.0,
    )

-- more tokens than those do not change the trees up to the place
pub held_more : (b : List ℕ) (ts : List Token) (j n : ℕ) → Stops j ts → before j ts ≤ n
    → held j (forest b (take n (spans_of ts))) ≡ held j (forest b (spans_of ts))
unfolding forest
held_more b [] j n s e = ap (held j) (forest_nil b n 0)
held_more b (t ∷ ts) j zero s e = grind (arith, before_one, held_none_built, t.start)
held_more b (t ∷ ts) j (suc n) s e =
    let f = forest b (spans_of ts) in
    let g = forest b (take n (spans_of ts)) in
    elim (cases_lt t.start j) [
      | inl l ↦ let m = before_one j t ts l in
          held_built b t g j l (s.0 l) ∙ ap (built b t) (held_more b ts j n s.1 (omega arith))
          ∙ sym (held_built b t f j l (s.0 l))
      | inr h ↦ held_none_built b t g j h ∙ sym (held_none_built b t f j h)
    ]

-- and show what comes past it
pub past_more : (b : List ℕ) (ts : List Token) (j n m p : ℕ) → Stops j ts → m ≡ before j ts → n ≡ m + p
    → past j (forest b (take n (spans_of ts))) ≡ forest b (take p (drop m (spans_of ts)))
unfolding forest
past_more b [] j n m p s e l = cc (forest_nil b n 0, forest_nil b p m)
past_more b (t ∷ ts) j n zero p s e l =
    elim (cases_lt t.start j) [
      | inl a ↦ let f = before_one j t ts a in absurd (omega arith)
      | inr g ↦ past_first n g ∙ ap (λ q. forest b (take q (spans_of (t ∷ ts)))) (omega arith)
    ]
  where
    past_first : (n : ℕ) → j ≤ t.start
        → past j (forest b (take n (spans_of (t ∷ ts)))) ≡ forest b (take n (spans_of (t ∷ ts)))
    past_first zero g = refl
    past_first (suc n) g = past_none_built b t (forest b (take n (spans_of ts))) j g
past_more b (t ∷ ts) j zero (suc m) p s e l = absurd (omega arith)
past_more b (t ∷ ts) j (suc n) (suc m) p s e l =
    elim (cases_lt t.start j) [
      | inl a ↦ let f = before_one j t ts a in
          past_built b t (forest b (take n (spans_of ts))) j a (s.0 a)
          ∙ past_more b ts j n m p s.1 (omega arith) (omega arith)
      | inr g ↦ let f = before_zero j t ts g in absurd (omega arith)
    ]

-- ---- a token and what follows it

pub drop_next : (ts : List Token) (k : ℕ) (t : Token) → slice_get ts k ≡ Some t
    → drop k (spans_of ts) ≡ span_at t.start t.stop ∷ drop (k + 1) (spans_of ts)
drop_next [] k t h = cc
drop_next (u ∷ ts) zero t h = let e : u ≡ t = cc in cc
drop_next (u ∷ ts) (suc k) t h = grind (arith, drop_next ts k t h)

pub before_drop : (j i : ℕ) (ts : List Token) → i ≤ before j ts → before j (drop i ts) + i ≡ before j ts
before_drop j zero ts h = omega arith
before_drop j (suc i) [] h = absurd (omega arith)
before_drop j (suc i) (t ∷ ts) h =
    elim (cases_lt t.start j) [
      | inl l ↦ let e = before_one j t ts l in let f = before_drop j i ts (omega arith) in omega arith
      | inr g ↦ let e = before_zero j t ts g in absurd (omega arith)
    ]

pub before-less : (i j : ℕ) (ts : List Token) → i ≤ j → before i ts ≤ before j ts
before-less i j [] h = omega arith
before-less i j (t ∷ ts) h = grind (arith, before_one, before_zero, before-less i j ts h, t.start)

pub starts_before : (ts : List Token) (j k : ℕ) (t : Token) → slice_get ts k ≡ Some t → 0 < before j (drop k ts)
    → t.start < j
starts_before ts j k t h l = grind (arith, before_stopped, t.start)

-- ---- names

pub kind_string : (c : ℕ) → kind_by c ≡ Text → c ≡ 34
kind_string c h = grind (arith, nat_tests)

string_size : (b : List ℕ) (i j : ℕ) (ts : List Tree) → byte b i ≡ 34 → size (node b (kind_by (byte b i)) i j ts) ≡ 1
string_size b i j ts e = cc

-- a string has no parts
pub are_lone : {b : List ℕ} {ts : List Token} → AreOf b ts → AreLone b ts
are_lone {b} {ts} a = λ k t h e.
    let w = below_at b ts k t h in
    let s = ap size w.tree ∙ string_size b t.start t.stop _ e in
    let l = are_sized b ts a k t h in
    omega arith

pub name_node : (b : List ℕ) (k : Kind) (i j : ℕ) (ts : List Tree) → is_name (node b k i j ts) ≡ true → k ≡ Text
name_node b Text i j ts h = refl
name_node b _ i j ts h = cc

pub name_first : (n : Tree) (ts : List Tree) → are_members (n ∷ ts) ≡ true → is_name n ≡ true
name_first n [] h = cc
name_first n (t ∷ ts) h = first_so _ _ h

pub lone_name : (n : Tree) (ts : List Tree) → are_members (n ∷ ts) ≡ true → ts ≡ [] → ⊥
lone_name n [] h e = cc
lone_name n _ h e = cc
