-- The lines of a text, of a text that goes on, and of a text in pieces.
use Rattle.cj_stream.proofs.Common.{Bool, Line, List, [], ap, append-nil, arith, begun, begun_after, begun_with, closed, cond, ended_line, false, first_content, first_of, get_or, last_line, length, length-append, lines, map, of_first, refl, suc, true, ℕ, ◌++◌, ◌<◌, ◌∙◌, ◌∷◌, ◌≡◌, ◌≤◌, append_assoc, flat_map, flat_map-append, inl, inr, nat_tests, onto_first, raw, sym, whole, Bor, FindsChar, Option, Split, YieldsList-at, YieldsList-from_str_split, parted, drop, joined, take, take-append-drop, take_all, zero, ◌+◌}
use Rattle.std.proofs.Common.{eqb, ◌-◌, Some, None, length-take, length-drop, drop-cons, add-one, get_or-take, take-suc, eqb-true}
use Rattle.cj_stream.specs.IsLines.{AreEnded, HaveNoLf, IsLines, IsWhole}
use Rattle.std.proofs.lemmas.Iterator.{YieldsList}
use Rattle.std.specs.Str.Iter.{split_steps, split_text, split_has_more, split_pattern}
use Rattle.memchr.specs.Find.{IsFirstByte, is_byte}
use Rattle.cj_stream.specs.Lines.{NoLf}

-- ---- the lines of a text that goes on

-- a test that is not true is false
pub not_true : (x : Bool) → ¬ (x ≡ true) → x ≡ false
not_true true h = absurd (h refl)
not_true false h = refl

pub closed-none : (c : List ℕ) → NoLf c → closed c ≡ []
closed-none [] h = refl
closed-none (b ∷ c) h = rw (h.0, closed-none c h.1)

pub begun-none : (c : List ℕ) → NoLf c → begun c ≡ c
begun-none [] h = refl
begun-none (b ∷ c) h = rw (h.0, closed-none c h.1, begun-none c h.1)

pub closed-ended : (c t : List ℕ) → NoLf c → closed (c ++ 10 ∷ t) ≡ c ∷ closed t
closed-ended [] t h = refl
closed-ended (b ∷ c) t h = rw (h.0, closed-ended c t h.1)

pub begun-ended : (c t : List ℕ) → NoLf c → begun (c ++ 10 ∷ t) ≡ begun t
begun-ended [] t h = refl
begun-ended (b ∷ c) t h = rw (h.0, closed-ended c t h.1, begun-ended c t h.1)

pub closed-then : (p t : List ℕ) → closed (p ++ t) ≡ closed p ++ closed (begun p ++ t)
closed-then [] t = refl
closed-then (b ∷ s) t = grind (arith, closed-then s t)

-- more bytes end as many lines, or more
pub closed-grows : (p t : List ℕ) → length (closed p) ≤ length (closed (p ++ t))
closed-grows p t = rw (closed-then) (omega (arith, length-append (closed p) (closed (begun p ++ t))))

pub begun-then : (p t : List ℕ) → begun (p ++ t) ≡ begun (begun p ++ t)
begun-then [] t = refl
begun-then (b ∷ s) t = grind (arith, closed-then s t, begun-then s t)

NoLf-begun_with : (cs : List (List ℕ)) (b : ℕ) (s : List ℕ) → eqb b 10 ≡ false → NoLf s → NoLf (begun_with cs b s)
NoLf-begun_with [] b s h k = (h, k)
NoLf-begun_with (c ∷ cs) b s h k = k

NoLf-byte : (b : ℕ) (is : Bool) (s : List ℕ) → eqb b 10 ≡ is → NoLf (begun s)
    → NoLf (cond is (begun s) (begun_with (closed s) b (begun s)))
NoLf-byte b true s h k = k
NoLf-byte b false s h k = NoLf-begun_with _ b _ h k

pub NoLf-begun : (s : List ℕ) → NoLf (begun s)
NoLf-begun [] = tt
NoLf-begun (b ∷ s) = NoLf-byte b _ s refl (NoLf-begun s)

pub NoLf-append : (x y : List ℕ) → NoLf x → NoLf y → NoLf (x ++ y)
NoLf-append [] y p q = q
NoLf-append (b ∷ x) y p q = (p.0, NoLf-append x y p.1 q)

-- the bytes before a first LF, as a search finds it
pub NoLf-from_places : (s : List ℕ) → ((k : ℕ) → k < length s → ¬ (eqb (get_or s k 0) 10 ≡ true)) → NoLf s
NoLf-from_places [] h = tt
NoLf-from_places (b ∷ s) h = (not_true _ (h 0 (omega arith)), NoLf-from_places s (λ k lt. h (suc k) (omega arith)))

-- bytes without LF
pub closed-more : (p t : List ℕ) → NoLf t → closed (p ++ t) ≡ closed p
closed-more p t h = closed-then p t
    ∙ ap (λ z. closed p ++ z) (closed-none _ (NoLf-append _ t (NoLf-begun p) h))
    ∙ append-nil (closed p)

pub begun-more : (p t : List ℕ) → NoLf t → begun (p ++ t) ≡ begun p ++ t
begun-more p t h = begun-then p t ∙ begun-none _ (NoLf-append _ t (NoLf-begun p) h)

-- an LF, and what follows
pub closed-lf : (p t : List ℕ) → closed (p ++ 10 ∷ t) ≡ closed p ++ begun p ∷ closed t
closed-lf p t = closed-then p _ ∙ ap (λ z. closed p ++ z) (closed-ended _ t (NoLf-begun p))

pub begun-lf : (p t : List ℕ) → begun (p ++ 10 ∷ t) ≡ begun t
begun-lf p t = begun-then p _ ∙ begun-ended _ t (NoLf-begun p)

pub first_of-some : (cs : List (List ℕ)) (a b : List ℕ) → 0 < length cs → first_of cs a ≡ first_of cs b
first_of-some [] a b h = absurd (omega arith)
first_of-some (c ∷ cs) a b h = refl

pub first_of-lf : (cs : List (List ℕ)) (b : List ℕ) → first_of (cs ++ b ∷ []) [] ≡ first_of cs b
first_of-lf [] b = refl
first_of-lf (c ∷ cs) b = refl

pub begun_after-some : (cs : List (List ℕ)) (b : List ℕ) → 0 < length cs → begun_after cs b ≡ b
begun_after-some [] b h = absurd (omega arith)
begun_after-some (c ∷ cs) b h = refl

pub begun_after-empty : (cs : List (List ℕ)) → begun_after cs [] ≡ []
begun_after-empty [] = refl
begun_after-empty (c ∷ cs) = refl

-- ---- the lines, by what LF ended and what it did not end

pub lines-cut : (s : List ℕ) → lines s ≡ map ended_line (closed s) ++ last_line (begun s)
lines-cut [] = refl
lines-cut (b ∷ s) = grind (arith, lines-cut s)

pub first-length : (s : List ℕ) → of_first (λ (l : Line). length l.content) (lines s) ≡ length (first_content s)
first-length s = grind (arith, lines-cut)

-- a byte that is no LF begins the first line
first_content-byte : (b : ℕ) (s : List ℕ) → eqb b 10 ≡ false → first_content (b ∷ s) ≡ b ∷ first_content s
first_content-byte b s h = grind arith

pub first_content-long : (c t : List ℕ) → NoLf c → length c ≤ length (first_content (c ++ t))
first_content-long [] t h = omega arith
first_content-long (b ∷ c) t h = rw (first_content-byte b (c ++ t) h.0) (omega (arith, first_content-long c t h.1))

-- the first line does not get shorter
pub first_content-grows : (p t : List ℕ) → length (first_content p) ≤ length (first_content (p ++ t))
first_content-grows p t = first_of-grows (closed p) (begun p) (p ++ t) (closed-then p t) (begun-then p t) (NoLf-begun p)
  where
    first_of-grows : (cs : List (List ℕ)) (b : List ℕ) (q : List ℕ) → closed q ≡ cs ++ closed (b ++ t)
        → begun q ≡ begun (b ++ t) → NoLf b → length (first_of cs b) ≤ length (first_of (closed q) (begun q))
    first_of-grows [] b q e f h = rw (e, f) (first_content-long b t h)
    first_of-grows (c ∷ cs) b q e f h = rw e (omega arith)

-- ---- `lines` are the lines of a text, and no others are

pub lines-ended : (c t : List ℕ) → NoLf c → lines (c ++ 10 ∷ t) ≡ ended_line c ∷ lines t
lines-ended [] t h = refl
lines-ended (b ∷ c) t h = rw (h.0, lines-ended c t h.1)

lines-begun : (c : List ℕ) → NoLf c → lines c ≡ last_line c
lines-begun c h = lines-cut c ∙ rw (closed-none, begun-none)

last_line-some : (c : List ℕ) → (c ≡ [] → ⊥) → last_line c ≡ record { content = c; lf = false } ∷ []
last_line-some [] h = absurd (h refl)
last_line-some (b ∷ c) h = refl

raw-ended : (l : Line) → l.lf ≡ true → raw l ≡ l.content ++ 10 ∷ []
raw-ended l h = rw h

same-line : (l : Line) (b : Bool) → l.lf ≡ b → l ≡ record { content = l.content; lf = b }
same-line l b h = ap (λ x. record { content = l.content; lf = x }) h

lines-of : (ls : List Line) → HaveNoLf ls → AreEnded ls → ls ≡ lines (flat_map raw ls)
lines-of [] h e = refl
lines-of (l ∷ []) h (inl t) =
    rw (raw-ended, append-nil (l.content ++ 10 ∷ []))
    (ap (λ x. x ∷ []) (same-line l _ t) ∙ sym (lines-ended _ _ h.0))
lines-of (l ∷ []) h (inr t) =
    rw (t.0, append-nil l.content) (sym (last_line-some _ t.1) ∙ sym (lines-begun _ h.0))
lines-of (l ∷ m ∷ ls) h e =
    let later : m ∷ ls ≡ lines (flat_map raw (m ∷ ls)) = lines-of (m ∷ ls) h.1 e.1 in
    rw (raw-ended l e.0, append_assoc l.content (10 ∷ []) (flat_map raw (m ∷ ls)))
    (ap (λ x. x ∷ m ∷ ls) (same-line l true e.0)
    ∙ ap (λ x. ended_line l.content ∷ x) later ∙ sym (lines-ended l.content (flat_map raw (m ∷ ls)) h.0))

pub only-lines : (s : List ℕ) (ls : List Line) → IsLines s ls → ls ≡ lines s
only-lines s ls h = lines-of _ h.contents h.ended ∙ ap lines h.joined

-- what LF ended, joined again, and then what it has not ended
pub whole-begun : (s : List ℕ) → whole s ++ begun s ≡ s
whole-begun [] = refl
whole-begun (b ∷ s) = grind (arith, nat_tests, whole-begun s)

HaveNoLf-append : (xs ys : List Line) → HaveNoLf xs → HaveNoLf ys → HaveNoLf (xs ++ ys)
HaveNoLf-append [] ys p q = q
HaveNoLf-append (x ∷ xs) ys p q = (p.0, HaveNoLf-append xs ys p.1 q)

HaveNoLf-byte : (b : ℕ) (is : Bool) (cs : List (List ℕ)) → eqb b 10 ≡ is → HaveNoLf (map ended_line cs)
    → HaveNoLf (map ended_line (cond is ([] ∷ cs) (onto_first b cs)))
HaveNoLf-byte b true cs h k = (tt, k)
HaveNoLf-byte b false [] h k = tt
HaveNoLf-byte b false (c ∷ cs) h k = ((h, k.0), k.1)

pub HaveNoLf-closed : (s : List ℕ) → HaveNoLf (map ended_line (closed s))
HaveNoLf-closed [] = tt
HaveNoLf-closed (b ∷ s) = HaveNoLf-byte b _ _ refl (HaveNoLf-closed s)

HaveNoLf-last : (c : List ℕ) → NoLf c → HaveNoLf (last_line c)
HaveNoLf-last [] h = tt
HaveNoLf-last (b ∷ c) h = (h, tt)

raw-last : (c : List ℕ) → flat_map raw (last_line c) ≡ c
raw-last [] = refl
raw-last (b ∷ c) = append-nil (b ∷ c)

AreEnded-last : (cs : List (List ℕ)) (c : List ℕ) → AreEnded (map ended_line cs ++ last_line c)
AreEnded-last [] [] = tt
AreEnded-last [] (b ∷ c) = inr (refl, clash b c)
  where
    clash : (b : ℕ) (c : List ℕ) → b ∷ c ≡ [] → ⊥
    clash b c e = cc
AreEnded-last (d ∷ []) [] = inl refl
AreEnded-last (d ∷ []) (b ∷ c) = (refl, AreEnded-last [] (b ∷ c))
AreEnded-last (d ∷ e ∷ cs) c = (refl, AreEnded-last (e ∷ cs) c)

pub lines-are_lines : (s : List ℕ) → IsLines s (lines s)
lines-are_lines s = rw (lines-cut s) (record {
  contents = HaveNoLf-append _ _ (HaveNoLf-closed s)
      (HaveNoLf-last _ (NoLf-begun s));
  joined = flat_map-append raw (map ended_line (closed s)) (last_line (begun s))
      ∙ ap (λ z. whole s ++ z) (raw-last _) ∙ whole-begun s;
  ended = AreEnded-last _ _;
})

AreEnded-closed : (cs : List (List ℕ)) → AreEnded (map ended_line cs)
AreEnded-closed [] = tt
AreEnded-closed (d ∷ []) = inl refl
AreEnded-closed (d ∷ e ∷ cs) = (refl, AreEnded-closed (e ∷ cs))

-- the lines of a text up to its last LF are those that LF ended
pub lines-whole : (s : List ℕ) → lines (whole s) ≡ map ended_line (closed s)
lines-whole s =
    sym (only-lines _ _
    (record { contents = HaveNoLf-closed s; joined = refl; ended = AreEnded-closed _ }))

whole-ends : (cs : List (List ℕ)) → (flat_map raw (map ended_line cs) ≡ [] → ⊥) → (front : List ℕ)
    × (flat_map raw (map ended_line cs) ≡ front ++ 10 ∷ [])
whole-ends [] h = absurd (h refl)
whole-ends (c ∷ []) h = (c, append-nil (c ++ 10 ∷ []))
whole-ends (c ∷ d ∷ cs) h =
    let later = whole-ends (d ∷ cs) (some_bytes d cs) in (
      (c ++ 10 ∷ []) ++ later.0,
      ap (λ z. (c ++ 10 ∷ []) ++ z) later.1
          ∙ sym (append_assoc (c ++ 10 ∷ []) later.0 (10 ∷ [])),
    )
  where
    some_bytes : (d : List ℕ) (cs : List (List ℕ)) → flat_map raw (map ended_line (d ∷ cs)) ≡ [] → ⊥
    some_bytes [] cs e = cc
    some_bytes (b ∷ d) cs e = cc

pub whole-is_whole : (s : List ℕ) → IsWhole s (whole s)
whole-is_whole s = record {
  rest = begun s;
  cut = sym (whole-begun s);
  no_lf = NoLf-begun s;
  ended = whole-ends _;
}

-- ---- a text that is split at its separators gives its items

-- calls of the iterator over the items of a text
abbrev pub steps : Split ℕ → Option (Bor (List ℕ)) → Split ℕ → Type 0
steps = split_steps FindsChar (λ a b. b ≡ a)

pub items-split : (separator : ℕ) (text : List ℕ) {s t : Split ℕ} → separator < 128 → split_text s ≡ text
    → split_has_more s ≡ true → split_pattern s ≡ separator → t ≡ s
    → YieldsList steps (λ x. x.now) t (parted separator text)
items-split separator text low is has_more sign same =
    YieldsList-at same (YieldsList-from_str_split _ _ low is has_more sign)

-- ---- pieces, joined

joined-append : (xs ys : List (List ℕ)) → joined (xs ++ ys) ≡ joined xs ++ joined ys
joined-append [] ys = refl
joined-append (x ∷ xs) ys = ap (λ z. x ++ z) (joined-append xs ys) ∙ sym (append_assoc x (joined xs) (joined ys))

pub joined-cut : (n : ℕ) (ps : List (List ℕ)) → joined (take n ps) ++ joined (drop n ps) ≡ joined ps
joined-cut n ps = sym (joined-append (take n ps) (drop n ps)) ∙ ap joined (take-append-drop n _)

pub joined-all : (n : ℕ) (ps : List (List ℕ)) → length ps ≤ n → joined (take n ps) ≡ joined ps
joined-all n ps h = ap joined (take_all n _ h)

-- pieces, and at most one more
pub joined-next : (n : ℕ) (ps : List (List ℕ)) → (more : List ℕ)
    × (joined (take (n + 1) ps) ≡ joined (take n ps) ++ more)
joined-next zero [] = ([], refl)
joined-next zero (x ∷ xs) = (x, append-nil x)
joined-next (suc n) [] = ([], let next : suc n + 1 ≡ suc (n + 1) = omega arith in rw next refl)
joined-next (suc n) (x ∷ xs) =
    let later = joined-next n xs in
    let next : suc n + 1 ≡ suc (n + 1) = omega arith in
    (later.0, rw next (ap (λ z. x ++ z) later.1 ∙ sym (append_assoc x (joined (take n xs)) later.0)))

-- one piece more
pub joined-more : {A : Type 0} (now : A → List ℕ) (xs : List A) (i : ℕ) (d : A) → i < length xs
    → joined (take (i + 1) (map now xs)) ≡ joined (take i (map now xs)) ++ now (get_or xs i d)
joined-more now [] i d h = absurd (omega arith)
joined-more now (x ∷ xs) zero d h = append-nil (now x)
joined-more now (x ∷ xs) (suc i) d h =
    let next : suc i + 1 ≡ suc (i + 1) = omega arith in
    rw next (ap (λ z. now x ++ z) (joined-more now xs i d (omega arith))
    ∙ sym (append_assoc (now x) (joined (take i (map now xs))) (now (get_or xs i d))))

pub joined-short : {A : Type 0} (now : A → List ℕ) (xs : List A) (i : ℕ) (d : A) → i < length xs
    → length (joined (take i (map now xs))) + length (now (get_or xs i d)) ≤ length (joined (map now xs))
joined-short now xs i d h =
    let front = joined (take i (map now xs)) in
    let piece = now (get_or xs i d) in
    omega (
      arith,
      ap length (joined-more now xs i d h),
      length-append front piece,
      ap length (joined-cut (i + 1) (map now xs)),
      length-append (joined (take (i + 1) (map now xs))) (joined (drop (i + 1) (map now xs))),
    )

-- ---- a piece, cut where a search finds an LF

-- a slice at the first LF that a search found
pub lf_found : (s : List ℕ) (k : ℕ) → IsFirstByte (is_byte 10) s (Some k) → s ≡ take k s ++ 10 ∷ drop (k + 1) s
lf_found s k h =
    sym (take-append-drop k s)
    ∙ ap (λ z. take k s ++ z) (drop-cons s k 0 (omega (arith, h.0.high)) ∙ ap (λ z. z ∷ drop (suc k) s)
    (eqb-true (get_or s k 0) 10 h.1) ∙ ap (λ z. 10 ∷ drop z s) (sym (add-one k)))

-- up to and with it
pub lf_front : (s : List ℕ) (k : ℕ) → IsFirstByte (is_byte 10) s (Some k) → take (k + 1) s ≡ take k s ++ 10 ∷ []
lf_front s k h = ap (λ z. take z s) (add-one k)
    ∙ take-suc s k 0 h.0.high ∙ ap (λ z. take k s ++ z ∷ []) (eqb-true _ _ h.1)

pub NoLf-before : (s : List ℕ) (k : ℕ) → IsFirstByte (is_byte 10) s (Some k) → NoLf (take k s)
NoLf-before s k h =
    NoLf-from_places _
    (λ j lt e. h.0.before j (omega arith) (omega (arith, length-take k s))
    (rw (← get_or-take k s j 0 (omega (arith, length-take k s))) e))

pub NoLf-nowhere : (s : List ℕ) → IsFirstByte (is_byte 10) s None → NoLf s
NoLf-nowhere s h = NoLf-from_places s (λ j lt e. h j (omega arith) lt e)

-- what is left of a slice after the first k bytes and the LF
pub left_after : (s : List ℕ) (k : ℕ) → k < length s → take (length s - (k + 1)) (drop (k + 1) s) ≡ drop (k + 1) s
left_after s k h = take_all _ (drop (k + 1) s) (omega (arith, length-drop (k + 1) s))

pub left_length : (s : List ℕ) (k : ℕ) → IsFirstByte (is_byte 10) s (Some k)
    → length (take (length s - (k + 1)) (drop (k + 1) s)) + (k + 1) ≡ length s
left_length s k h = rw (left_after s k h.0.high) (omega (arith, length-drop (k + 1) s, h.0.high))

-- a piece, of which one line more was taken
pub piece_more : (piece done rest : List ℕ) (k : ℕ) → piece ≡ done ++ rest → IsFirstByte (is_byte 10) rest (Some k)
    → piece ≡ (done ++ (take k rest ++ 10 ∷ [])) ++ take (length rest - (k + 1)) (drop (k + 1) rest)
piece_more piece done rest k e h = rw (left_after rest k h.0.high)
    (e ∙ ap (λ z. done ++ z) (lf_found _ k h ∙ sym (append_assoc (take k rest) (10 ∷ []) (drop (k + 1) rest)))
    ∙ sym (append_assoc done (take k rest ++ 10 ∷ []) (drop (k + 1) rest)))

pub NoLf-not_found : (s : List ℕ) (r : Option ℕ) → IsFirstByte (is_byte 10) s r → ((k : ℕ) → r ≡ Some k → ⊥) → NoLf s
NoLf-not_found s None h k = NoLf-nowhere s h
NoLf-not_found s (Some x) h k = absurd (k x refl)
