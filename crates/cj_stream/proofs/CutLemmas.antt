-- A text that comes in pieces: what is read of it, taken of it and counted.
use Rattle.cj_stream.proofs.Common.{Concludes, Copies, Delivers, End, EndsAt, EngineState, IsUnread, Line, List, NoLf, None, Option, PutsPieces, ReadFault, ReadLimit, Reads, Refused, Rules, SinkContract, Some, IsEndAfter, TookWhole, [], ap, append-nil, append_assoc, arith, begun, closed, drop, ended_line, ending, given_after, good, good_from, header_of, in_pieces, inl, inr, joined, judged, last_line, length, lines, lines_of, long_line, map, nat_tests, refl, refusal_from, refusal_in, rules_of, stretch, sym, take, writes_law, ℕ, ◌++◌, ◌+◌, ◌<◌, ◌∙◌, ◌∷◌, ◌≡◌, ◌≤◌, ◌⊎◌, Complete, Counts, Ends, Item, LeavesNext, LineEnd, Memory, Notes, Peaks, Report, Ruling, Took, TookFront, TookOf, WriteFault, kept, kept_of, line_end, prefixes, rulings, rulings_first, rulings_good, subst, take-append-le, whole, CountsAll, IsUnhindered, filter, is_feature, reported_of}
use Rattle.cj_stream.proofs.LineLemmas.{joined-cut, closed-then, begun-then, lines-cut, NoLf-begun, first_content-long, lines-whole, joined-next, closed-grows}
use Rattle.cj_stream.proofs.VerdictLemmas.{verdict-long, good-all, good-append, good-stays, refusal-append, refusal-stays}
use Rattle.cj_stream.proofs.ReadingLemmas.{map_lines-append, length-map_lines}
use Rattle.cj_stream.proofs.GoodLemmas.{ending-refused}
use Rattle.cj_stream.proofs.RunLemmas.{whole-good, Delivers-join}
use Rattle.cj_stream.proofs.OutputLemmas.{Took-appends, front-bytes, next-bytes, no-bytes, kept-next_line, next-left}
use Rattle.cj_stream.specs.declared.line_pieces.LinesOutcome.{LinesOutcome}
use Rattle.cj_stream.specs.declared.ending.LineEnd.TheVariants.{Complete as LineComplete, Refused as LineRefused, WriteFault as LineWriteFault}
use Rattle.cj_stream.specs.LinePieces.{kept_after, PutsLines, NotesLines, CopiesLines, later_pieces}
use Rattle.cj_stream.proofs.TookLemmas.{first-either, first-same, first-split, first-whole, Distributes, More-over, after-first, front-took, over-kept, over-reported, took-after, two-took, first-good}

-- ---- a text that comes in pieces

-- a text that goes on: the lines that LF ended, and those of what had begun
pub lines-more : (q more : List ℕ) → lines (q ++ more) ≡ map ended_line (closed q) ++ lines (begun q ++ more)
lines-more q more =
    let now : map ended_line (closed (q ++ more)) ++ last_line (begun (q ++ more))
    ≡ map ended_line (closed q) ++ (map ended_line (closed (begun q ++ more)) ++ last_line (begun (begun q ++ more))) =
    rw (closed-then q more, begun-then q more, map_lines-append (closed q) (closed (begun q ++ more)))
    (append_assoc (map ended_line (closed q)) (map ended_line (closed (begun q ++ more)))
    (last_line (begun (begun q ++ more)))) in
    lines-cut (q ++ more)
    ∙ now ∙ ap (λ z. map ended_line (closed q) ++ z) (sym (lines-cut (begun q ++ more)))

-- the first line of some begun bytes is as long as they are
first-line : (c t : List ℕ) → NoLf c → 0 < length c → (l : Line) × (rest : List Line) × (lines (c ++ t) ≡ l ∷ rest)
    × (length c ≤ length l.content)
first-line c t free some =
    grind (arith, nat_tests, first_content-long c t free, lines-cut (c ++ t))

-- a begun line that is too long, and the end, is so with all that follows
long-stays : (rules : Rules) (before : List Line) (c more : List ℕ) (e : End) → NoLf c
    → refusal_from rules before (long_line rules.limits c) ≡ Some e
    → (refusal_from rules before (lines (c ++ more)) ≡ Some e) × (good_from rules before (lines (c ++ more)) ≡ [])
long-stays rules before [] more e free h = absurd (grind (arith, nat_tests))
long-stays rules before (b ∷ c) more e free h =
    let first = first-line (b ∷ c) more free (omega arith) in
    let long : rules.limits.line < length (b ∷ c) = grind (arith, nat_tests) in
    let n = length before + 1 in
    let v = verdict-long rules n (header_of rules before) (b ∷ c) long in
    let w = verdict-long rules n (header_of rules before) first.0.content (omega (arith, first.3, long)) in
    rw first.2 (grind (arith, nat_tests, v, w), grind (arith, nat_tests, v, w))

-- the refusal of what can be judged of a text is that of each text that begins so
judged-stays : (rules : Rules) (q more : List ℕ) (e : End) → refusal_in rules (judged rules.limits q) ≡ Some e
    → (refusal_in rules (lines (q ++ more)) ≡ Some e)
    × (good_from rules [] (lines (q ++ more)) ≡ good_from rules [] (map ended_line (closed q)))
judged-stays rules q more e k = rw (lines-more) (go (refusal_in rules (map ended_line (closed q))) refl)
  where
    go : (o : Option End) → refusal_in rules (map ended_line (closed q)) ≡ o
        → (refusal_in rules (map ended_line (closed q) ++ lines (begun q ++ more)) ≡ Some e)
        × (good_from rules [] (map ended_line (closed q) ++ lines (begun q ++ more))
        ≡ good_from rules [] (map ended_line (closed q)))
    go None h =
        let cs = map ended_line (closed q) in
        let later = sym (refusal-append _ _ _ _ h) ∙ k in
        let stays = long-stays _ _ _ _ e (NoLf-begun q) later in (
          refusal-append _ _ _ _ h ∙ stays.0,
          good-append _ _ _ _ h
              ∙ rw (stays.1, append-nil cs) (sym (good-all _ _ _ h)),
        )
    go (Some x) h =
        let cs = map ended_line (closed q) in (
          refusal-stays _ _ _ _ x h
              ∙ sym (refusal-stays _ _ _ _ x h) ∙ k,
          good-stays _ _ _ _ x h,
        )

-- the ending of a text, and its handled lines, where what came first of it was the end
pub refused-more : (rules : Rules) (q more : List ℕ) (e : End) → refusal_in rules (judged rules.limits q) ≡ Some e
    → (ending rules (q ++ more) ≡ e) × (good rules (q ++ more) ≡ good rules q)
refused-more rules q more e k =
    let all = judged-stays _ q _ e k in
    let same = let z = (judged-stays rules q [] e k).1 in
    rw (append-nil q) at z in
    (ending-refused _ _ e all.0, all.1 ∙ sym same)

-- the same of pieces, where those that were given are all of them or were the end
pub given-said : (rules : Rules) (p : List ℕ) (pieces : List (List ℕ)) (k : ℕ) (e : End)
    → (joined (take (k + 1) pieces) ≡ joined pieces)
    ⊎ (refusal_in rules (judged rules.limits (p ++ joined (take (k + 1) pieces))) ≡ Some e)
    → ending rules (p ++ joined (take (k + 1) pieces)) ≡ e
    → (ending rules (p ++ joined pieces) ≡ e)
    × (good rules (p ++ joined pieces) ≡ good rules (p ++ joined (take (k + 1) pieces)))
given-said rules p pieces k e (inl same) ends = rw (← same) (ends, refl)
given-said rules p pieces k e (inr h) ends =
    let given = joined (take (k + 1) pieces) in
    let more = refused-more rules (p ++ given) (joined (drop (k + 1) pieces)) e h in
    let text : (p ++ given) ++ joined (drop (k + 1) pieces) ≡ p ++ joined pieces =
    append_assoc p given (joined (drop (k + 1) pieces)) ∙ ap (λ z. p ++ z) (joined-cut (k + 1) pieces) in
    let z = rw text at more in
    z

-- a writer that was put the items of pieces
pub Copies-puts : {S : Type 0} (contents : S → Option (List ℕ)) (failures : S → ℕ) (rules : Rules)
    (pieces : List (List ℕ)) (n : ℕ) (s t : S) (e : End)
    → PutsPieces (writes_law contents failures) (in_pieces rules pieces n) e s t → Copies (in_pieces rules pieces n) e
    (contents s) (contents t)
Copies-puts contents failures rules pieces n s t x h = grind (
  arith,
  nat_tests,
  front-bytes,
  next-bytes,
  no-bytes,
  Took-appends,
)

-- where a piece, or the end, ended it
pub EndsAt-said : (rules : Rules) (before : List ℕ) (pieces : List (List ℕ)) (k n : ℕ) (e : End)
    → IsEndAfter rules (before ++ joined (take (k + 1) pieces)) n e → EndsAt rules before pieces k e
EndsAt-said rules before pieces k n (Refused number place reason) c = inr c.0
EndsAt-said rules before pieces k n other c = search

pub EndsAt-concludes : (rules : Rules) (before : List ℕ) (pieces : List (List ℕ)) (k : ℕ) (p : List ℕ) (n : ℕ) (e : End)
    → k ≡ length pieces → Concludes rules p n e → EndsAt rules before pieces k e
EndsAt-concludes rules before pieces k p n x all c = grind (arith, nat_tests)

-- such an end is none that a reader makes
pub unread-at : (rules : Rules) (before : List ℕ) (pieces : List (List ℕ)) (k : ℕ) (e : End)
    → EndsAt rules before pieces k e → IsUnread e
unread-at rules before pieces k ReadFault c = c
unread-at rules before pieces k ReadLimit c = c
unread-at rules before pieces k other c = tt

pub unread-said : (rules : Rules) (q : List ℕ) (n : ℕ) (e : End) → IsEndAfter rules q n e → IsUnread e
unread-said rules q n ReadFault h = h
unread-said rules q n ReadLimit h = h
unread-said rules q n other h = tt

pub unread-concludes : (rules : Rules) (q : List ℕ) (n : ℕ) (e : End) → Concludes rules q n e → IsUnread e
unread-concludes rules q n ReadFault h = h
unread-concludes rules q n ReadLimit h = h
unread-concludes rules q n other h = tt

-- what an engine that had read some pieces did with the next, or at the end
pub TookWhole-left : {S : Type 0} (law : SinkContract S) (e : EngineState) (rules : Rules) (before : List ℕ) (first : ℕ)
    (pieces : List (List ℕ)) (n count : ℕ) (s m t : S) (end : End)
    → rules_of e ≡ rules → Reads e.reading (before ++ joined (take n pieces))
    → Delivers law (stretch rules (before ++ joined (take n pieces)) first (lines_of e)) s m None
    → Delivers law (stretch rules (before ++ joined (take (n + 1) pieces)) (lines_of e) count) m t (Some end)
    → TookWhole law (given_after before first (in_pieces rules pieces n) count) s t end
TookWhole-left law e rules before first pieces n count s m t end same reads head tail = record {
  middle = m;
  good = let x = (whole-good e _ reads).0 in rw same at x;
  taken = rw (← reads.lines) head;
  after = rw (← reads.lines) tail;
}

-- ---- pieces for a reader of lines, added up: what a sink took of them, and a sink of reports

module _ (rules : Rules) (p : List ℕ) (n : ℕ) (first : n ≡ length (closed p)) where
  -- the first lines are as much of its whole lines
  whole-taken : (x : List ℕ) → rulings_first rules n (whole (p ++ x)) ≡ rulings_first rules n (p ++ x)
  whole-taken x =
      let cs = map ended_line (closed (p ++ x)) in
      let few : n ≤ length cs = omega (arith, closed-grows, length-map_lines) in
      ap (rulings rules []) (ap (λ z. take n z) (lines-whole (p ++ x))
      ∙ sym (take-append-le n cs (last_line (begun (p ++ x))) few) ∙ ap (λ z. take n z) (sym (lines-cut (p ++ x))))

  -- the lines of the pieces that were wholly taken, when the next one is given
  pieces-same : (pieces : List (List ℕ)) (k : ℕ)
      → rulings_first rules (length (closed (p ++ joined (take k pieces)))) (p ++ joined (take (k + 1) pieces))
      ≡ rulings_first rules (length (closed (p ++ joined (take k pieces)))) (p ++ joined (take k pieces))
  pieces-same pieces k =
      let next = joined-next k _ in
      let count = length (closed (p ++ joined (take k pieces))) in
      ap (rulings_first rules count) (ap (λ z. p ++ z) next.1
      ∙ sym (append_assoc p (joined (take k pieces)) next.0)) ∙ first-same rules _ (p ++ joined (take k pieces)) next.0
      refl

  -- what a sink took after the first lines
  module _ {S X : Type 0} (step : S → X → S → Type 0) {f : List Ruling → List X} (over : Distributes f) where
    -- all of it, of a stream with the same handled lines as these bytes
    all-taken : (x y : List ℕ) (m : ℕ) (s t : S) → m ≡ length (good rules (p ++ x))
        → good rules (p ++ y) ≡ good rules (p ++ x) → TookOf step f (stretch rules (p ++ x) n m) s t
        → Took step s (drop (length (f (rulings_first rules n (p ++ y)))) (f (rulings_good rules (p ++ y)))) t
    all-taken x y m s t all same took =
        rw (first-either rules n p y x first, same) (took-after _ over rules (p ++ x) n m s t all took)

    -- of the whole lines
    whole-after : (x : List ℕ) (ds : List Ruling) → refusal_in rules (lines (whole (p ++ x))) ≡ None
        → rulings_first rules (length (closed (p ++ x))) (p ++ x) ≡ rulings_first rules n (p ++ x) ++ ds
        → drop (length (f (rulings_first rules n (whole (p ++ x))))) (f (rulings_good rules (whole (p ++ x)))) ≡ f ds
    whole-after x ds good h =
        let all : length (closed (p ++ x)) ≡ length (lines (whole (p ++ x))) =
        sym (ap length (lines-whole (p ++ x)) ∙ length-map_lines (closed (p ++ x))) in
        after-first step over rules (whole (p ++ x)) n ds
        (sym (first-whole rules _ (p ++ x) good all)
        ∙ h ∙ ap (λ z. z ++ ds) (sym (whole-taken x)))

  -- what was noted of pieces, by the end
  pub lines-noted : {N : Type 0} (notes : N → Report → N → Type 0) (a b : N) (pieces : List (List ℕ)) (k m : ℕ)
      → refusal_in rules (take m (lines (p ++ joined (take (k + 1) pieces)))) ≡ None
      → Notes notes (stretch rules (p ++ joined (take (k + 1) pieces)) n m) a b → (e : LineEnd) (peaks : Peaks)
      → Ends rules (p ++ joined (take (k + 1) pieces)) m (joined (take (k + 1) pieces) ≡ joined pieces) (line_end e)
      → NotesLines notes (later_pieces rules p pieces n) (record { taken = k; peaks = peaks; ended = e }) a b
  lines-noted notes a b pieces k m none h LineComplete peaks ends = record {
    noted = λ _. all-taken _ over-reported _ _ m a b ends.1
        (given-said _ p _ k _ (inl ends.2) ends.0).1 h;
    fault = λ z. cc;
  }
  lines-noted notes a b pieces k m none h (LineRefused line place reason) peaks ends = record {
    noted = λ _. all-taken _ over-reported _ _ m a b ends.1
        (given-said _ p _ k _ ends.2 ends.0).1 h;
    fault = λ z. cc;
  }
  lines-noted notes a b pieces k m none h LineWriteFault peaks ends =
      let text = p ++ joined (take (k + 1) pieces) in
      record {
        noted = λ z. absurd (z refl);
        fault = λ _. front-took _ over-reported rules text n _ m _
            (first-split rules m text none) b b refl a h;
      }

  module _ {S : Type 0} (law : SinkContract S) (s t : S) where
    -- what a sink took of pieces, and at the end, by the lines
    pub Delivers-whole : (pieces : List (List ℕ)) (k m : ℕ) (e : End)
        → TookWhole law (given_after p n (in_pieces rules pieces k) m) s t e
        → Delivers law (stretch rules (p ++ joined (take (k + 1) pieces)) n m) s t (Some e)
    Delivers-whole pieces k m e w =
        Delivers-join (first-either _ n p _ _ first)
        (pieces-same _ k) w.taken w.after

    module _ (pieces : List (List ℕ)) (k m : ℕ) where
      abbrev given : List ℕ
      given = joined (take (k + 1) pieces)

      -- these pieces are all, or a line of them is the end: then all that is kept of the whole stream was taken
      pub all-put : (e : End)
          → (given ≡ joined pieces) ⊎ (refusal_in rules (judged rules.limits (p ++ given)) ≡ Some e)
          → ending rules (p ++ given) ≡ e → m ≡ length (good rules (p ++ given))
          → (d : Delivers law (stretch rules (p ++ given) n m) s t (Some e)) → t ≡ d.middle
          → (ending rules (p ++ joined pieces) ≡ e) × Took law.takes s (kept_after rules n (p ++ joined pieces)) t
      all-put e said ends all d still =
          let same = given-said _ p _ k e said ends in
          (same.0, rw still (all-taken _ over-kept _ _ m s _ all same.1 d.took))

      -- after a fault, a prefix of what is kept of the pieces that were given was taken, with all of the whole lines of
      -- those that were wholly taken
      pub front-put : (then : List Item → S → S → Type 0) (rest : List Ruling) (e : End)
          (w : TookWhole law (given_after p n (in_pieces rules pieces k) m) s t e)
          → rulings_good rules (p ++ given) ≡ rulings_first rules m (p ++ given) ++ rest
          → then (kept_of rest) w.after.middle t
          → TookFront law.takes then (prefixes (kept_after rules n (p ++ given))
          (kept_after rules n (whole (p ++ joined (take k pieces))))) s t
      front-put then rest e w next left =
          let before = joined (take k pieces) in
          let i = length (closed (p ++ before)) in
          let same = first-either _ n p _ _ first in
          let x : TookOf law.takes kept_of (stretch rules (p ++ given) n i) s w.middle =
          rw w.taken.fault (More-over _ over-kept same (pieces-same _ k) w.taken.took) in
          let whole-kept = whole-after law.takes over-kept _ _ w.good
          (sym (pieces-same _ k) ∙ x.grown ∙ ap (λ z. z ++ x.done) same) in
          subst (λ z. TookFront law.takes then (prefixes (kept_after rules n (p ++ given)) z) s t) (sym whole-kept)
          (two-took _ over-kept rules (p ++ given) n _ m rest next _ t left i s _ x
          w.after.took)

      module _ {features refusals : ℕ} (counts : Counts rules (p ++ given) m features refusals) where
        -- a write fault leaves what the step of the next line may
        pub fault-put : TookWhole law (given_after p n (in_pieces rules pieces k) m) s t WriteFault
            → TookFront law.takes (LeavesNext law.leaves) (prefixes (kept_after rules n (p ++ given))
            (kept_after rules n (whole (p ++ joined (take k pieces))))) s t
        fault-put w =
            let fault = w.after.fault in
            let next = kept-next_line _ m (p ++ given) _ counts.counted.good fault.1 fault.2 in
            front-put _ _ _ w next.1
            (next-left law _ _ fault.0 next.0 w.after.middle t fault.2 fault.3)

        -- what a sink took of pieces, by the end
        pub lines-put : (e : LineEnd) (peaks : Peaks) → Ends rules (p ++ given) m (given ≡ joined pieces) (line_end e)
            → TookWhole law (given_after p n (in_pieces rules pieces k) m) s t (line_end e)
            → PutsLines law (later_pieces rules p pieces n) (record { taken = k; peaks = peaks; ended = e }) s t
        lines-put LineComplete peaks ends w =
            let d = Delivers-whole _ k m _ w in
            let x = all-put _ (inl ends.2) ends.0 ends.1 d d.fault in
            record { ends = λ _. sym x.0; took = λ _. x.1; fault = λ h. cc }
        lines-put (LineRefused line place reason) peaks ends w =
            let d = Delivers-whole _ k m _ w in
            let x = all-put _ ends.2 ends.0 ends.1 d d.fault in
            record { ends = λ _. sym x.0; took = λ _. x.1; fault = λ h. cc }
        lines-put LineWriteFault peaks ends w =
            record { ends = λ h. absurd (h refl); took = λ h. absurd (h refl); fault = λ _. fault-put w }

-- the same of a whole stream in pieces
module _ {S : Type 0} (law : SinkContract S) (rules : Rules) (pieces : List (List ℕ)) (n : ℕ) (s t : S)
    (count features refusals : ℕ) (counts : Counts rules (joined (take (n + 1) pieces)) count features refusals) where
  all-pieces : (e : End) → (joined (take (n + 1) pieces) ≡ joined pieces)
      ⊎ (refusal_in rules (judged rules.limits (joined (take (n + 1) pieces))) ≡ Some e)
      → ending rules (joined (take (n + 1) pieces)) ≡ e → count ≡ length (good rules (joined (take (n + 1) pieces)))
      → (d : Delivers law (stretch rules (joined (take (n + 1) pieces)) 0 count) s t (Some e)) → t ≡ d.middle
      → (ending rules (joined pieces) ≡ e) × Took law.takes s (kept rules (joined pieces)) t
  all-pieces e said ends all d still = all-put _ [] 0 refl _ s t _ n _ e said ends all d still

  pub PutsPieces-ends : (e : End)
      → Ends rules (joined (take (n + 1) pieces)) count (joined (take (n + 1) pieces) ≡ joined pieces) e
      → Delivers law (stretch rules (joined (take (n + 1) pieces)) 0 count) s t (Some e)
      → TookWhole law (given_after [] 0 (in_pieces rules pieces n) count) s t e
      → IsUnread e → PutsPieces law (in_pieces rules pieces n) e s t
  PutsPieces-ends Complete ends d w u = all-pieces _ (inl ends.2) ends.0 ends.1 d d.fault
  PutsPieces-ends (Refused number place reason) ends d w u =
      all-pieces _ ends.2 ends.0 ends.1 d d.fault
  PutsPieces-ends WriteFault ends d w u = fault-put _ _ 0 refl _ s t _ n _ counts w
  PutsPieces-ends Memory ends d w u =
      front-put _ _ 0 refl _ s t _ n _ _ _ _ w
      (first-split rules count (joined (take (n + 1) pieces)) counts.counted.good) w.after.fault
  PutsPieces-ends other ends d w u = absurd u

-- a writer that was put the items of pieces
pub CopiesLines-puts : {S : Type 0} (contents : S → Option (List ℕ)) (failures : S → ℕ) (rules : Rules) (p : List ℕ)
    (pieces : List (List ℕ)) (n : ℕ) (outcome : LinesOutcome) (s t : S)
    → PutsLines (writes_law contents failures) (later_pieces rules p pieces n) outcome s t
    → CopiesLines (later_pieces rules p pieces n) outcome (contents s) (contents t)
CopiesLines-puts contents failures rules p pieces n outcome s t h =
    let given = kept_after rules n (p ++ joined (take (outcome.taken + 1) pieces)) in
    let taken = kept_after rules n (whole (p ++ joined (take outcome.taken pieces))) in
    record {
      writes = λ ok. Took-appends _ s t _ (h.took ok);
      part = λ fault. (front-bytes _ _ (next-bytes _) _ _ s t
          (h.fault fault)).0;
      more = λ fault. (front-bytes _ _ (next-bytes _) _ _ s t
          (h.fault fault)).1;
    }

-- ---- the counts of a run over pieces are of the whole stream

module _ (rules : Rules) (count features refusals : ℕ) (peaks : Peaks) where
  -- after as many lines as are good, what was counted is counted of all
  all-counted : (r : List ℕ) (e : End) → Counts rules r count features refusals → count ≡ length (good rules r)
      → CountsAll rules r (record { lines = count; kept = features; refused = refusals; peaks = peaks; ended = e })
  all-counted r e h all = record {
    lines = all;
    kept = h.counted.kept ∙ ap (λ rs. length (filter is_feature (kept_of rs))) (first-good _ _ r all);
    refused = h.counted.refused ∙ ap (λ rs. length (reported_of rs)) (first-good _ _ r all);
  }

  -- the same of a stream with the same good lines
  same-counted : (r s : List ℕ) (e : End) → good rules s ≡ good rules r
      → CountsAll rules r (record { lines = count; kept = features; refused = refusals; peaks = peaks; ended = e })
      → CountsAll rules s (record { lines = count; kept = features; refused = refusals; peaks = peaks; ended = e })
  same-counted r s e lines h = record {
    lines = rw lines h.lines;
    kept = rw lines h.kept;
    refused = rw lines h.refused;
  }

  -- the pieces that were given are all, or were the end
  given-counted : (pieces : List (List ℕ)) (k : ℕ) (e : End)
      → Counts rules (joined (take (k + 1) pieces)) count features refusals
      → (joined (take (k + 1) pieces) ≡ joined pieces)
      ⊎ (refusal_in rules (judged rules.limits (joined (take (k + 1) pieces))) ≡ Some e)
      → ending rules (joined (take (k + 1) pieces)) ≡ e → count ≡ length (good rules (joined (take (k + 1) pieces)))
      → CountsAll rules (joined pieces)
      (record { lines = count; kept = features; refused = refusals; peaks = peaks; ended = e })
  given-counted pieces k e h said ends all =
      same-counted _ _ e (given-said rules [] pieces k e said ends).1
      (all-counted _ e h all)

  -- what was counted of the pieces that were given, by the end
  pub CountsAll-ends : (pieces : List (List ℕ)) (k : ℕ) (e : End)
      → Counts rules (joined (take (k + 1) pieces)) count features refusals
      → Ends rules (joined (take (k + 1) pieces)) count (joined (take (k + 1) pieces) ≡ joined pieces) e → IsUnread e
      → IsUnhindered e
      → CountsAll rules (joined pieces)
      (record { lines = count; kept = features; refused = refusals; peaks = peaks; ended = e })
  CountsAll-ends pieces k Complete h ends u free =
      given-counted _ k _ h (inl ends.2) ends.0 ends.1
  CountsAll-ends pieces k (Refused number place reason) h ends u free =
      given-counted _ k _ h ends.2 ends.0 ends.1
  CountsAll-ends pieces k other h ends u free = search
