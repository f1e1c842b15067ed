-- Where lines begin and end, and what a search finds.
use Rattle.cityseq_c.proofs.Common.{IsFirstByte, Line, List, None, Passes, Place, Some, [], ap, arith, drop, drop-drop, drop_all, ended_line, false, is_byte, length, length-append, length-take, lines, raw, refl, sym, take, ℕ, ◌+◌, ◌<◌, ◌∙◌, ◌∷◌, ◌≡◌, IsLastByte, NoLf, add-one, append-nil, begun, closed, flat_map, ltb, ltb-false, ltb-true, map, min, nat_tests, take-append-drop, take_all, true, whole, ◌++◌, ◌≤◌, AreCut, append_assoc, inl, inr, AreBehind, IsAlong, flat_map-append, suc, take-nil, zero, ◌-◌, ◌⊎◌, FeatureRecord, IsRecordOf, Item, Listed, Spot, slice_set}
use Rattle.cj_stream.proofs.LineLemmas.{begun-none, closed-none, lines-cut, lf_found, NoLf-before, NoLf-nowhere, whole-begun, NoLf-from_places, begun-lf, closed-ended, closed-more, lf_front, lines-are_lines}
use Rattle.cj_stream.proofs.PartsLemmas.{lines-headed}
use Rattle.std.proofs.Common.{length-drop, get_or-drop, take-take, eqb-true, take-suc, nat_eq}
use Rattle.cityseq_c.specs.Cutting.{first_end, part_end}
use Rattle.cityseq_c.specs.Features.{AddsRecord, listed_count, listed_loan, listed_room, ListsFeature, Seeks, listed_place}

-- ---- the first line of some bytes, as a search for LF finds it

abbrev pub place : ℕ → ℕ → List Line → Place
place line begin left = record { line = line; begin = begin; left = left }

first-ended : (s : List ℕ) (k : ℕ) → IsFirstByte (is_byte 10) s (Some k)
    → lines s ≡ ended_line (take k s) ∷ lines (drop (k + 1) s)
first-ended s k h = ap (λ z. lines z) (lf_found s k h) ∙ lines-headed (take k s) (drop (k + 1) s) (NoLf-before s k h)

first-begun : (s : List ℕ) → IsFirstByte (is_byte 10) s None → 0 < length s
    → lines s ≡ record { content = s; lf = false } ∷ []
first-begun [] h some = absurd (omega arith)
first-begun (b ∷ s) h some =
    let free = NoLf-nowhere (b ∷ s) h in
    lines-cut (b ∷ s) ∙ rw (closed-none (b ∷ s) free, begun-none (b ∷ s) free) refl

-- a line is passed, where the bytes begin with it
passes : (line at n : ℕ) (s : List ℕ) (l : Line) (rest : List Line) → lines s ≡ l ∷ rest → length (raw l) ≡ n
    → Passes (place line at (lines s)) l.content (place (line + 1) (at + n) rest)
passes line at n s l rest left size = grind arith

module _ (line at : ℕ) (part s : List ℕ) (same : s ≡ drop at part) where
  after : (n : ℕ) → drop n s ≡ drop (at + n) part
  after n = grind (arith, drop-drop)

  pub passes-ended : (k : ℕ) → IsFirstByte (is_byte 10) s (Some k)
      → Passes (place line at (lines (drop at part))) (take k s)
      (place (line + 1) (at + (k + 1)) (lines (drop (at + (k + 1)) part)))
  passes-ended k h =
      grind (arith, length-append, length-take, first-ended, drop-drop, passes)

  pub passes-begun : IsFirstByte (is_byte 10) s None → 0 < length s
      → Passes (place line at (lines (drop at part))) s
      (place (line + 1) (at + length s) (lines (drop (at + length s) part)))
  passes-begun h some =
      let none : drop (at + length s) part ≡ [] = sym (after (length s)) ∙ drop_all (length s) s (omega arith) in
      let left : lines s ≡ record { content = s; lf = false } ∷ lines (drop (at + length s) part) = first-begun s h some
      ∙ ap (λ z. record { content = s; lf = false } ∷ lines z) (sym none) in
      rw (← same) (passes line at (length s) s (record { content = s; lf = false }) (lines (drop (at + length s) part))
      left refl)

-- ---- where whole lines end

-- bytes up to an LF are whole lines
whole-ended : (c : List ℕ) → whole (c ++ 10 ∷ []) ≡ c ++ 10 ∷ []
whole-ended c =
    let none : begun (c ++ 10 ∷ []) ≡ [] = begun-lf c [] in
    let all = whole-begun (c ++ 10 ∷ []) in
    sym (append-nil (whole (c ++ 10 ∷ []))) ∙ (ap (λ z. whole (c ++ 10 ∷ []) ++ z) (sym none) ∙ all)

-- the last LF, as a search finds it
module _ (s : List ℕ) (k : ℕ) (last : IsLastByte (is_byte 10) s (Some k)) where
  last-front : take (k + 1) s ≡ take k s ++ 10 ∷ []
  last-front = grind (arith, add-one, take-suc, eqb-true)

  none-after : NoLf (drop (k + 1) s)
  none-after =
      NoLf-from_places (drop (k + 1) s)
      (λ j lt e. last.0.after (k + 1 + j) (omega arith) (omega (arith, lt, length-drop (k + 1) s, last.0.high))
      (rw (get_or-drop (k + 1) s j 0) at e))

  pub whole-last : whole s ≡ take (k + 1) s
  whole-last =
      let cut : take (k + 1) s ++ drop (k + 1) s ≡ s = take-append-drop (k + 1) s in
      let same : closed s ≡ closed (take (k + 1) s) = search (arith, closed-more, none-after) in
      ap (λ cs. flat_map raw (map ended_line cs)) same
      ∙ (ap whole last-front ∙ (whole-ended (take k s) ∙ sym last-front))

-- the bytes that are wanted, or all where there are no more
pub front-wanted : (s : List ℕ) (wanted m : ℕ) → m ≡ min wanted (length s) → take m s ≡ take wanted s
front-wanted s wanted m is = grind (arith, ltb-true, ltb-false, take_all)

module _ (s : List ℕ) (wanted : ℕ) where
  -- behind the last LF among the bytes that are wanted
  pub end-last : (k : ℕ) (t : List ℕ) → t ≡ take wanted s → IsLastByte (is_byte 10) t (Some k)
      → (k + 1 ≡ part_end s wanted) × (whole (take (k + 1) s) ≡ take (k + 1) s)
  end-last k t same last =
      let size : length (whole (take wanted s)) ≡ k + 1 = ap (λ z. length (whole z)) (sym same)
      ∙ (ap length (whole-last t k last) ∙ omega (arith, length-take (k + 1) t, last.0.high)) in
      let some : ltb 0 (k + 1) ≡ true = grind (arith, nat_tests) in
      let within : k + 1 ≤ wanted = search (arith, length-take) in
      let front : take (k + 1) s ≡ take k t ++ 10 ∷ [] = sym (take-take (k + 1) wanted s within)
      ∙ (ap (λ z. take (k + 1) z) (sym same) ∙ last-front t k last) in (
        rw (size, some) refl,
        search (arith, whole-ended),
      )

  module _ (t : List ℕ) (same : t ≡ take wanted s) (none : IsLastByte (is_byte 10) t None) where
    none-wanted : part_end s wanted ≡ first_end (closed s)
    none-wanted =
        let free : closed (take wanted s) ≡ [] = ap closed (sym same) ∙ closed-none t (NoLf-nowhere t none) in
        rw free refl

    -- else behind the first LF
    pub end-first : (k : ℕ) → IsFirstByte (is_byte 10) s (Some k) → (k + 1 ≡ part_end s wanted)
        × (whole (take (k + 1) s) ≡ take (k + 1) s)
    end-first k first =
        let there : closed s ≡ take k s ∷ closed (drop (k + 1) s) = ap closed (lf_found s k first)
        ∙ closed-ended (take k s) (drop (k + 1) s) (NoLf-before s k first) in
        let front = lf_front s k first in (
          search (arith, none-wanted, length-take),
          search (arith, whole-ended),
        )

    pub end-none : IsFirstByte (is_byte 10) s None → 0 ≡ part_end s wanted
    end-none nowhere = grind (arith, closed-none, NoLf-nowhere)

-- ---- a header and a part, cut behind the first line or not

-- the lines of a header that LF ends, and of the part behind it
pub cut-lines : (header part : List ℕ) → (cut : (h : List ℕ) × NoLf h × (header ≡ h ++ 10 ∷ []))
    → lines (header ++ part) ≡ ended_line cut.0 ∷ lines part
cut-lines header part cut =
    grind (arith, append_assoc, lines-headed)

module _ (header part : List ℕ) where
  -- the first LF is the last byte
  pub cut-last : (k : ℕ) → IsFirstByte (is_byte 10) header (Some k) → k + 1 ≡ length header → AreCut header part
  cut-last k h end =
      let all : take (k + 1) header ≡ header = search (arith, take_all) in
      inl (take k header, NoLf-before header k h, sym all ∙ lf_front header k h)

  -- a header that is a line has its first LF at its end
  pub last-cut : (k : ℕ) → IsFirstByte (is_byte 10) header (Some k) → AreCut header part → k + 1 ≡ length header
  last-cut k h (inl cut) =
      let there : closed header ≡ take k header ∷ closed (drop (k + 1) header) = ap closed (lf_found header k h)
      ∙ closed-ended (take k header) (drop (k + 1) header) (NoLf-before header k h) in
      let here : closed header ≡ cut.0 ∷ [] = search (arith, closed-ended) in
      let same : take k header ≡ cut.0 = cc (sym there ∙ here) in
      let size : length header ≡ length cut.0 + 1 = search (arith, length-append) in
      omega (arith, h.0.high, length-take k header, ap length same, size)
  last-cut k h (inr cut) =
      let there : closed header ≡ take k header ∷ closed (drop (k + 1) header) = ap closed (lf_found header k h)
      ∙ closed-ended (take k header) (drop (k + 1) header) (NoLf-before header k h) in
      let none : closed header ≡ [] = closed-none header cut.0 in
      absurd (cc (sym there ∙ none))

  -- a header without LF is cut only where there is no more
  pub cut-none : IsFirstByte (is_byte 10) header None → AreCut header part → part ≡ []
  cut-none h (inl cut) =
      let here : closed header ≡ cut.0 ∷ [] = search (arith, closed-ended) in
      let none : closed header ≡ [] = closed-none header (NoLf-nowhere header h) in
      absurd (cc (sym here ∙ none))
  cut-none h (inr cut) = cut.1

  pub none-cut : IsFirstByte (is_byte 10) header None → part ≡ [] → AreCut header part
  none-cut h empty = inr (NoLf-nowhere header h, empty)

-- a list without length is empty
pub empty-length : (s : List ℕ) → nat_eq (length s) 0 ≡ true → s ≡ []
empty-length [] is = refl
empty-length (b ∷ s) is = grind (arith, eqb-true)

-- ---- where lines begin, by the lines that were passed

-- at the beginning of a part no line was passed
pub along-new : (part : List ℕ) → IsAlong part (place 2 0 (lines part))
along-new part = grind arith

-- one line more, which is the first of those that are left
take-next : (k : ℕ) (ls : List Line) (l : Line) (rest : List Line) → l ∷ rest ≡ drop k ls
    → (take (suc k) ls ≡ take k ls ++ l ∷ []) × (rest ≡ drop (suc k) ls)
take-next zero [] l rest is = absurd (cc is)
take-next (suc k) [] l rest is = absurd (cc is)
take-next zero (x ∷ ls) l rest is =
    (ap (λ z. z ∷ []) (let same : x ≡ l = cc is in same), let same : rest ≡ ls = cc is in same)
take-next (suc k) (x ∷ ls) l rest is = let later = take-next k ls l rest is in (ap (λ z. x ∷ z) later.0, later.1)

pub along-next : (part : List ℕ) (a : Place) (content : List ℕ) (b : Place) → IsAlong part a → Passes a content b
    → IsAlong part b
along-next part a content b x h =
    grind (arith, place, take-next, flat_map-append, length-append, append-nil)

-- the lines that were passed are the first of the part, as many as are asked for; or all
pub begin-found : (part : List ℕ) (p : Place) (line : ℕ) → IsAlong part p → p.line ≤ line → (p.line ≡ line)
    ⊎ (p.left ≡ []) → length (flat_map raw (take (line - 2) (lines part))) ≡ p.begin
begin-found part p line x few (inl is) = rw (← is) (sym x.begin)
begin-found part p line x few (inr none) =
    let k = p.line - 2 in
    let all : length (lines part) ≤ k = drop-none k (lines part) (sym x.left ∙ none) in
    let is_whole : take (line - 2) (lines part) ≡ lines part =
    take_all (line - 2) (lines part) (omega (arith, all, few)) in
    let passed : take k (lines part) ≡ lines part = take_all k (lines part) all in
    ap (λ z. length (flat_map raw z)) (is_whole ∙ sym passed) ∙ sym x.begin
  where
    drop-none : (k : ℕ) (ls : List Line) → drop k ls ≡ [] → length ls ≤ k
    drop-none k [] is = omega arith
    drop-none zero (l ∷ ls) is = absurd (cc is)
    drop-none (suc k) (l ∷ ls) is = omega (arith, drop-none k ls is)

-- a header and a part, cut behind the first line
pub behind : (header part : List ℕ) → AreCut header part → AreBehind header part
behind header part (inl cut) line later =
    let one : line - 1 ≡ suc (line - 2) = omega (arith, later) in
    let rest = flat_map raw (take (line - 2) (lines part)) in
    let size : length (cut.0 ++ 10 ∷ []) ≡ length header = sym (ap length cut.2) in
    ap (λ z. length (flat_map raw (take (line - 1) z))) (cut-lines header part cut)
    ∙ (ap (λ k. length (flat_map raw (take k (ended_line cut.0 ∷ lines part)))) one
    ∙ (length-append (cut.0 ++ 10 ∷ []) rest ∙ ap (λ n. n + length rest) size))
behind header part (inr cut) line later =
    grind (arith, cut-lines, length-append, lines-cut, closed-none, append-nil, take-nil, take_all, lines-are_lines)

-- ---- what a search makes of the sink of records

module _ (i : Item) (a b : Listed) (content : List ℕ) (same : content ≡ i.line.content) where
  -- it was found there
  pub listed-there : (found : ℕ × ℕ) → Seeks (listed_place a) content (Some found) (listed_place b)
      → AddsRecord (record { line = found.0; begin = found.1; item = i }) a b → ListsFeature a i b
  listed-there found h adds =
      grind arith

-- a record that fits, and one that does not
pub stored-record : (x : Spot) (a b : Listed) (f : FeatureRecord) → listed_loan b ≡ listed_loan a
    → listed_count a < length (listed_room a) → IsRecordOf x f
    → listed_room b ≡ slice_set (listed_room a) (listed_count a) f → listed_count b ≡ listed_count a + 1
    → AddsRecord x a b
stored-record x a b f loan fits shows room count =
    grind (arith, nat_tests)

pub left-record : (x : Spot) (a b : Listed) → listed_loan b ≡ listed_loan a → length (listed_room a) ≤ listed_count a
    → listed_room b ≡ listed_room a → listed_count b ≡ listed_count a → AddsRecord x a b
left-record x a b loan full room count =
    grind (arith, nat_tests)
