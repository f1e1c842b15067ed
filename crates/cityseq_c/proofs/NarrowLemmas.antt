-- What is answered of a text does not hang on a line limit that is above all its lines.
use Rattle.cityseq_c.proofs.Common.{Line, List, [], inl, lines, suc, take, zero, ℕ, ◌∷◌, ◌≡◌, arith, AreCut, Complete, DeclinesCall, End, Err, Faults, IfErr, IfOk, IsAsked, IsFit, Judged, Memory, None, NotJudged, Ok, Outcome, Request, Result, Rules, SinkContract, Some, CReport, ap, append-nil, cases_lt, fault_of, flat_map, good_from, greatest, inr, later_of, length, length-append, lent, list_all, map, max, min, min-eq_left, nat_tests, needed_limits, of_first, raw, refl, slice_get, stream_of, subst, up_to, verdict, ◌++◌, ◌+◌, ◌<◌, ◌∙◌, ◌≤◌, ◌⊎◌}
use Rattle.cj_stream.specs.Bound.{first_lines, exact_peaks, held_length, are_legible, is_readable, tree_nest, tree_size}
use Rattle.cj_stream.specs.IsLines.{AreEnded, HaveNoLf}
use Rattle.cj_stream.proofs.LineLemmas.{lines-are_lines, only-lines}
use Rattle.std.proofs.Common.{unwrap_or}
use Rattle.cj_spans.proofs.Judgements.{judgement}
use Rattle.cj_stream.specs.Verdict.{ending_of, good, verdict_at, first_end, rulings}
use Rattle.cityseq_c.proofs.CursorLemmas.{cut-lines}
use Rattle.cj_stream.proofs.TookLemmas.{over-kept}

-- ---- the first lines of a text are the lines of their bytes

HaveNoLf-take : (n : ℕ) (ls : List Line) → HaveNoLf ls → HaveNoLf (take n ls)
HaveNoLf-take (suc n) (l ∷ ls) h = (h.0, HaveNoLf-take n ls h.1)
HaveNoLf-take n ls h = tt

AreEnded-take : (n : ℕ) (ls : List Line) → AreEnded ls → AreEnded (take n ls)
AreEnded-take zero ls e = tt
AreEnded-take (suc n) [] e = tt
AreEnded-take (suc zero) (l ∷ []) e = e
AreEnded-take (suc (suc n)) (l ∷ []) e = e
AreEnded-take (suc zero) (l ∷ m ∷ ls) e = inl e.0
AreEnded-take (suc (suc n)) (l ∷ m ∷ ls) e = (e.0, AreEnded-take (suc n) (m ∷ ls) e.1)

pub lines-first : (n : ℕ) (s : List ℕ) → lines (first_lines n s) ≡ take n (lines s)
lines-first n s =
    grind (arith, lines-are_lines, only-lines, HaveNoLf-take, AreEnded-take)

-- ---- what is answered of a text does not hang on a line limit that is above all its lines

-- no content is longer than this
abbrev AreShort : ℕ → List Line → Type 0
AreShort m [] = Unit {0}
AreShort m (l ∷ ls) = (length l.content ≤ m) × AreShort m ls

-- ---- lines of a text are no longer than it

raw-longer : (l : Line) → length l.content ≤ length (raw l)
raw-longer l = grind (arith, length-append)

short-raw : (m : ℕ) (ls : List Line) → length (flat_map raw ls) ≤ m → AreShort m ls
short-raw m [] h = tt
short-raw m (l ∷ ls) h =
    let parts : length (flat_map raw (l ∷ ls)) ≡ length (raw l) + length (flat_map raw ls) =
    length-append (raw l) (flat_map raw ls) in
    (omega (arith, raw-longer l, parts, h), short-raw m ls (omega (arith, parts, h)))

short-lines : (m : ℕ) (s : List ℕ) → length s ≤ m → AreShort m (lines s)
short-lines m s h = grind (arith, short-raw, lines-are_lines)

-- of a header and a part, cut behind the first line, none is longer than the longer one
short-cut : (m : ℕ) (header part : List ℕ) → AreCut header part → length header ≤ m → length part ≤ m
    → AreShort m (lines (header ++ part))
short-cut m header part (inl cut) first later =
    let size : length header ≡ length cut.0 + 1 = ap length cut.2 ∙ length-append cut.0 (10 ∷ []) in
    rw (cut-lines header part cut) (omega (arith, size, first), short-lines m part later)
short-cut m header part (inr cut) first later = grind (arith, append-nil, short-lines)

short-take : (m n : ℕ) (ls : List Line) → AreShort m ls → AreShort m (take n ls)
short-take m (suc n) (l ∷ ls) h = (h.0, short-take m n ls h.1)
short-take m n ls h = tt

short-at : (m n : ℕ) (l : Line) (ls : List Line) → AreShort m ls → slice_get ls n ≡ Some l → length l.content ≤ m
short-at m n l [] h at = absurd (cc at)
short-at m zero l (x ∷ ls) h at = grind arith
short-at m (suc n) l (x ∷ ls) h at = short-at m n l ls h.1 at

module _ (rules : Rules) (m : ℕ) (low : m ≤ rules.limits.line) where
  -- the same rules, with this line limit
  abbrev narrow : Rules
  narrow = record rules { limits = record { line = m; depth = rules.limits.depth } }

  -- ---- one line

  -- the same of each content that is not longer
  abbrev AreSame : {A : Type 0} → (List ℕ → A) → (List ℕ → A) → Type 0
  AreSame f g = (c : List ℕ) → length c ≤ m → f c ≡ g c

  verdict-same : (before : List Line) → AreSame (verdict narrow before) (verdict rules before)
  unfolding verdict_at
  verdict-same before c short =
      grind (arith, nat_tests, judgement)

  size-same : AreSame (tree_size narrow.limits) (tree_size rules.limits)
  size-same c short = grind (arith, nat_tests)

  nest-same : AreSame (tree_nest narrow.limits) (tree_nest rules.limits)
  nest-same c short = grind (arith, nat_tests)

  readable-same : AreSame (is_readable narrow.limits) (is_readable rules.limits)
  readable-same c short = grind (arith, nat_tests)

  held-same : AreSame (held_length narrow.limits) (held_length rules.limits)
  held-same c short = omega (arith, short, low)

  -- ---- some lines

  rulings-same : (before ls : List Line) → AreShort m ls → rulings narrow before ls ≡ rulings rules before ls
  rulings-same before [] h = refl
  rulings-same before (l ∷ ls) h = grind (arith, verdict-same, rulings-same (before ++ l ∷ []) ls h.1)

  ending-same : (ls : List Line) → AreShort m ls → ending_of narrow ls ≡ ending_of rules ls
  ending-same [] h = refl
  ending-same ls h = ap (λ rs. unwrap_or (first_end rs) Complete) (rulings-same [] ls h)

  -- a prefix of short lines
  short-good : (before ls : List Line) → AreShort m ls → AreShort m (good_from rules before ls)
  short-good before [] h = tt
  short-good before (l ∷ ls) h = grind (arith, short-good (before ++ l ∷ []) ls h.1)

  -- what is computed of contents, one after another, from what is the same of each
  module _ {A B : Type 0} (f g : List ℕ → A) (same : AreSame f g) (of : (List ℕ → A) → List (List ℕ) → B)
      (none : of f [] ≡ of g [])
      (more : (c : List ℕ) (cs : List (List ℕ)) → f c ≡ g c → of f cs ≡ of g cs → of f (c ∷ cs) ≡ of g (c ∷ cs)) where
    all-same : (ls : List Line) → AreShort m ls
        → of f (map (λ (l : Line). l.content) ls) ≡ of g (map (λ (l : Line). l.content) ls)
    all-same [] h = none
    all-same (l ∷ ls) h = grind (arith, all-same ls h.1)

    later-same : (ls : List Line) → AreShort m ls
        → of f (later_of (map (λ (l : Line). l.content) ls)) ≡ of g (later_of (map (λ (l : Line). l.content) ls))
    later-same [] h = none
    later-same (l ∷ ls) h = all-same ls h.1

  peaks-same : (s : List ℕ) → AreShort m (lines s) → exact_peaks narrow.limits s ≡ exact_peaks rules.limits s
  peaks-same s short = rw (
    later-same _ _ held-same greatest refl (λ c cs one rest. cc) (lines s) short,
    all-same _ _ size-same of_first refl (λ c cs one rest. one) (lines s) short,
    later-same _ _ size-same greatest refl (λ c cs one rest. cc) (lines s) short,
    all-same _ _ nest-same greatest refl (λ c cs one rest. cc) (lines s) short,
  ) refl

  -- ---- a text

  module _ (s : List ℕ) (short : AreShort m (lines s)) where
    good-text : good narrow s ≡ good rules s
    good-text = grind (arith, rulings-same)

    legible-text : are_legible narrow.limits s ≡ are_legible rules.limits s
    legible-text = later-same _ _ readable-same list_all refl (λ c cs one rest. cc) (lines s) short

    module _ {S : Type 0} (law : SinkContract S) where
      faults-text : (n : ℕ) (a b : S) (e : End) → Faults law (up_to narrow s n) a b (Some e)
          → Faults law (up_to rules s n) a b (Some e)
      faults-text n a b e x = grind (arith, verdict-same, short-at)

      judged-text : (o : Outcome) (a b : S) (old new : List CReport)
          → Judged law (stream_of narrow s) o (lent a old) (lent b new)
          → Judged law (stream_of rules s) o (lent a old) (lent b new)
      judged-text o a b old new x =
          grind (
            arith,
            peaks-same,
            legible-text,
            rulings-same,
            short-take,
            ending-same,
            good-text,
            short-good,
            lines-first,
            over-kept,
            faults-text,
          )

-- a header and a part that were judged by the limits that they need are judged as by the limits that were asked for
pub judged-as-asked : {S : Type 0} (law : SinkContract S) (rules : Rules) (header part : List ℕ) (o : Outcome) (a b : S)
    (old new : List CReport) → AreCut header part
    → Judged law (stream_of (record rules { limits = needed_limits rules.limits header part }) (header ++ part)) o
    (lent a old) (lent b new)
    → Judged law (stream_of rules (header ++ part)) o (lent a old) (lent b new)
judged-as-asked law rules header part o a b old new cut x = go (cases_lt longest rules.limits.line)
  where
    longest : ℕ
    longest = max 1 (max (length header) (length part))

    least : ℕ
    least = min rules.limits.line longest

    go : (longest < rules.limits.line) ⊎ (rules.limits.line ≤ longest) → Judged law (stream_of rules (header ++ part)) o
        (lent a old) (lent b new)
    go (inl fewer) =
        let low : least ≤ rules.limits.line = omega arith in
        judged-text rules least low (header ++ part) (short-cut least header part cut (omega (arith, fewer))
        (omega (arith, fewer))) law o a b old new x
    go (inr enough) =
        let same : least ≡ rules.limits.line = min-eq_left enough in
        subst (λ z. Judged law (stream_of (record rules { limits = record { line = z; depth = rules.limits.depth } })
        (header ++ part)) o (lent a old) (lent b new)) same x

module _ {S : Type 0} (law : SinkContract S) (r : Request) (header part : List ℕ) (a b : S) (old new : List CReport)
    (fit : IsFit r header part) where
  -- so a call that judged by these answers by the rules of its request
  pub asked-ok : (rules used : Rules) (went : Result Outcome NotJudged) → IsAsked r rules
      → used ≡ record rules { limits = needed_limits rules.limits header part }
      → IfOk went (λ o. Judged law (stream_of used (header ++ part)) o (lent a old) (lent b new))
      → IfOk went (λ o. (x : Rules) × IsAsked r x × Judged law (stream_of x (header ++ part)) o
      (lent a old) (lent b new))
  asked-ok rules used (Ok o) asked same judged = (
    rules,
    asked,
    judged-as-asked law rules header part o a b old new fit.cut
        (subst (λ z. Judged law (stream_of z (header ++ part)) o (lent a old) (lent b new)) same judged),
  )
  asked-ok rules used (Err why) asked same judged = tt

  -- and it is declined for want of memory alone, where nothing is wrong with its query
  pub declined-memory : fault_of r ≡ None → (went : Result Outcome NotJudged) → IfErr went (λ why. why ≡ Memory)
      → IfErr went (DeclinesCall r header part)
  declined-memory none went is = grind arith
