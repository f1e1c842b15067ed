-- What comes of the next line and of the first lines, and what a sink took of them.
use Rattle.cj_stream.proofs.Common.{Blank, Bool, HandlesLine, End, Err, Invalid, IsLeft, JudgedAs, Kept, LeftOut, Line, List, Memory, None, Ok, EndsLine, Reading, Reads, Reason, Refused, Refuses, Result, Handles, SinkContract, Took, Verdict, WriteFault, [], closed, cond, ended_line, false, goes_on, inl, inr, is_lenient, item_after, judged_next, kept_of, length, map, next_item, next_verdict, refl, ruling_after, sym, true, verdict, with_sink, ℕ, ◌+◌, ◌∙◌, ◌∷◌, ◌≡◌, Rules, ap, append-nil, append_assoc, arith, begun, drop, good, good_from, last_line, lines, nat_tests, refusal_in, rulings, rulings_closed, rulings_first, rulings_good, take, take-append-drop, whole, ◌++◌, Ruling, TookFront, TookMore, TookOf, drop-append_seam, flat_map-append, prefixes, reported_of, stretch, Complete, CountsReport, Notes, NotesPieces, NotesRun, ReadFault, ReadLimit, Report, in_pieces, min, reported_first, stream_of, ◌-◌, ◌^◌, ◌≤◌, Item, LeavesNext, Option, Puts, PutsPieces, Some, Tree, filter, is_feature, is_header, is_some, never_fails, not}
use Rattle.cj_stream.proofs.ReadingLemmas.{length-map_lines, next-verdict, next-item, map_lines-append}
use Rattle.cj_stream.proofs.LineLemmas.{lines-whole, closed-then, lines-cut}
use Rattle.cj_stream.proofs.VerdictLemmas.{good-all, good-append, good-take, rulings-append, kept_of-append, rulings-next}
use Rattle.cj_stream.specs.declared.report_sink.CountReports.{CountReports}
use Rattle.cj_stream.specs.CountReports.{count_of, no_reports, CountsFirst, CountsReportsOfRun, CountsReportsOfPieces}
use Rattle.cj_stream.specs.declared.sink.CountSink.{CountSink}
use Rattle.cj_stream.specs.CountSink.{CountsItem, CountsBy, no_counts, counts_of, CountsRun, CountsPieces}

-- ---- what comes of the line that comes next, with or without LF

-- A line came after these, and this was answered. It ended. Or it is invalid, and the end. Or the sink failed. Or
-- no memory was granted for later lines, behind a valid first line that LF ended.
pub data Came {S : Type 0} (law : SinkContract S) (f g : Reading) (s t : S) (xs : List Line) (l : Line) :
    Result (Unit {0}) End → Type 0 where
  ended : (put refuses : Bool) → EndsLine put refuses f g → (ruling_after f.rules xs l).end ≡ None
      → put ≡ (ruling_after f.rules xs l).kept → length (ruling_after f.rules xs l).reports ≡ cond refuses 1 0
      → Took law.takes s (kept_of (ruling_after f.rules xs l ∷ [])) t → Came law f g s t xs l (Ok tt)
  refused : (place : ℕ) (reason : Reason) → verdict f.rules xs l.content ≡ Invalid place reason
      → is_lenient f ≡ false → g ≡ f → t ≡ s → Came law f g s t xs l (Err (Refused (f.lines + 1) place reason))
  failed : verdict f.rules xs l.content ≡ Kept → IsLeft f g → law.leaves s (item_after f.rules xs l) t
      → Came law f g s t xs l (Err WriteFault)
  lacked : verdict f.rules xs l.content ≡ Kept → f.lines ≡ 0 → l.lf ≡ true → IsLeft f g → t ≡ s
      → Came law f g s t xs l (Err Memory)

module _ {S : Type 0} (law : SinkContract S) (f g : Reading) (s t : S) (p : List ℕ) (reads : Reads f p) (l : Line) where
  -- reading goes on after it, or not
  lenient : (on : Bool) → is_lenient f ≡ on → goes_on f.rules (length (map ended_line (closed p)) + 1) ≡ on
  lenient on is = rw (length-map_lines (closed p) ∙ sym reads.lines) is

  came-refused : (place : ℕ) (reason : Reason) (on : Bool) (r : Result (Unit {0}) End)
      → verdict f.rules (map ended_line (closed p)) l.content ≡ Invalid place reason → is_lenient f ≡ on
      → Refuses on (Refused (f.lines + 1) place reason) f r g → t ≡ s
      → Came law f g s t (map ended_line (closed p)) l r
  came-refused place reason true r e is d still =
      rw d.0 (ended false true d.1 (rw (e, lenient true is)) (rw e refl) (rw e refl) (rw e still))
  came-refused place reason false r e is d still = rw d.0 (refused place reason e is d.1 still)

  came-handled : (v : Verdict) (r : Result (Unit {0}) End)
      → verdict f.rules (map ended_line (closed p)) l.content ≡ v
      → HandlesLine law (JudgedAs (f.lines + 1) (is_lenient f) v (next_item f l)) (with_sink f s) r (with_sink g t)
      → Came law f g s t (map ended_line (closed p)) l r
  came-handled (Invalid place reason) r e d = came-refused _ _ _ r e refl d.0 d.1
  came-handled Blank r e d = rw d.0 (ended false false d.1 (rw e) (rw e) (rw e) (rw e d.2))
  came-handled LeftOut r e d = rw d.0 (ended false false d.1 (rw e) (rw e) (rw e) (rw e d.2))
  came-handled Kept (Ok x) e d =
      ended true false d.0 (rw e) (rw e) (rw e) (rw e (t, rw (← next-item f p reads l) d.1, refl))
  came-handled Kept (Err x) e d = rw d.0 (failed e d.1 (rw (← next-item f p reads l) d.2))

  pub came : (r : Result (Unit {0}) End)
      → Handles law (judged_next f (is_lenient f) (next_verdict f l.content) l) (with_sink f s) r (with_sink g t)
      → Came law f g s t (map ended_line (closed p)) l r
  came r (inl d) = came-handled _ r (sym (next-verdict f p reads _)) d
  came r (inr m) = rw m.0 (lacked (sym (next-verdict f p reads _) ∙ m.4) m.3 m.5 m.1 m.2)

-- ---- the results of the first lines of a text

pub take-front : (xs ys : List Line) (n : ℕ) → n ≡ length xs → take n (xs ++ ys) ≡ xs
take-front xs ys n e = rw e (go xs ys)
  where
    go : (xs ys : List Line) → take (length xs) (xs ++ ys) ≡ xs
    go [] ys = refl
    go (x ∷ xs) ys = ap (λ z. x ∷ z) (go xs ys)

-- the lines that LF ended in a prefix, counted
pub lines-front : (n : ℕ) (p more : List ℕ) → n ≡ length (closed p)
    → take n (lines (p ++ more)) ≡ map ended_line (closed p)
lines-front n p more e =
    let cs = map ended_line (closed p) in
    let ds = map ended_line (closed (begun p ++ more)) ++ last_line (begun (p ++ more)) in
    rw (
      lines-cut,
      closed-then,
      map_lines-append,
      append_assoc cs (map ended_line (closed (begun p ++ more))) (last_line (begun (p ++ more))),
      take-front cs ds n (e ∙ sym (length-map_lines (closed p))),
    )

module _ (rules : Rules) where
  -- the results of as many lines as LF ended in a prefix, whatever follows
  pub first-front : (n : ℕ) (p more : List ℕ) → n ≡ length (closed p)
      → rulings_first rules n (p ++ more) ≡ rulings_closed rules p
  first-front n p more e = ap (rulings rules []) (lines-front n p _ e)

  pub first-either : (n : ℕ) (p x y : List ℕ) → n ≡ length (closed p)
      → rulings_first rules n (p ++ x) ≡ rulings_first rules n (p ++ y)
  first-either n p x y e = first-front n p x e ∙ sym (first-front n p y e)

  pub first-closed_lines : (n : ℕ) (p : List ℕ) → n ≡ length (closed p)
      → rulings_first rules n p ≡ rulings_closed rules p
  first-closed_lines n p e = rw (append-nil p) at (first-front n p [] e)

  pub first-same : (n : ℕ) (p more : List ℕ) → n ≡ length (closed p)
      → rulings_first rules n (p ++ more) ≡ rulings_first rules n p
  first-same n p more e = first-front n p _ e ∙ sym (first-closed_lines n p e)

  module _ (n : ℕ) (r : List ℕ) where
    -- of as many lines as are handled
    pub first-good : n ≡ length (good rules r) → rulings_first rules n r ≡ rulings_good rules r
    first-good e = rw e (ap (rulings rules []) (good-take _ _ _))

    -- of the whole lines, of which none is the end
    pub first-whole : refusal_in rules (lines (whole r)) ≡ None → n ≡ length (lines (whole r))
        → rulings_first rules n r ≡ rulings_good rules (whole r)
    first-whole none e =
        grind (
          arith,
          nat_tests,
          first-closed_lines n r (e ∙ ap length (lines-whole r) ∙ length-map_lines (closed r)),
          lines-whole,
          good-all,
        )

    -- of the first lines, of which none is the end, and then of the others
    pub first-split : refusal_in rules (take n (lines r)) ≡ None
        → rulings_good rules r ≡ rulings_first rules n r
        ++ rulings rules (take n (lines r)) (good_from rules (take n (lines r)) (drop n (lines r)))
    first-split none =
        let xs = take n (lines r) in
        let ys = drop n (lines r) in
        ap (λ z. rulings rules [] (good_from rules [] z)) (sym (take-append-drop n _))
        ∙ ap (rulings rules []) (good-append _ _ _ _ none)
        ∙ rulings-append _ _ _ _

-- ---- what a sink has taken of lines, by a function from their results to what it gets: of no line, of some and then
-- others, of one line more, and of all at an end. What is kept and what is reported are two such functions.

module _ {S X : Type 0} (step : S → X → S → Type 0) where
  -- steps, and then others
  pub Took-append : (a b c : S) (xs ys : List X) → Took step a xs b → Took step b ys c → Took step a (xs ++ ys) c
  Took-append a b c [] ys h k = rw h at k
  Took-append a b c (x ∷ xs) ys h k = (h.0, h.1, Took-append h.0 b c xs ys h.2 k)

  -- and taken apart
  pub Took-split : (s t : S) (xs ys : List X) → Took step s (xs ++ ys) t → (m : S) × Took step s xs m × Took step m ys t
  Took-split s t [] ys h = (s, refl, h)
  Took-split s t (x ∷ xs) ys h = let later = Took-split h.0 t xs ys h.2 in
      (later.0, (h.0, h.1, later.1), later.2)

-- what it says of some results and then others is what it says of these, and then of those
pub record Distributes {X : Type 0} (f : List Ruling → List X) : Type 0 where
  pub none : f [] ≡ []
  pub both : (xs ys : List Ruling) → f (xs ++ ys) ≡ f xs ++ f ys

pub over-kept : Distributes kept_of
over-kept = record { none = refl; both = kept_of-append }

pub over-reported : Distributes reported_of
over-reported = record { none = refl; both = flat_map-append _ }

module _ {S X : Type 0} (step : S → X → S → Type 0) {f : List Ruling → List X} (over : Distributes f) where
  pub More-none : (before after : List Ruling) (s t : S) → after ≡ before → t ≡ s → TookMore step f before after s t
  More-none before after s t e same =
      rw (e, same) (record { done = []; grown = sym (append-nil before); took = rw over.none })

  pub More-then : {a b c : List Ruling} {s t u : S} → TookMore step f a b s t → TookMore step f b c t u
      → TookMore step f a c s u
  More-then {a} {b} {c} {s} {t} {u} x y = record {
    done = x.done ++ y.done;
    grown = y.grown ∙ ap (λ z. z ++ y.done) x.grown ∙ append_assoc a x.done y.done;
    took = rw (over.both x.done y.done)
        (Took-append _ s t u _ _ x.took y.took);
  }

  -- of lines with the same results
  pub More-over : {a b c d : List Ruling} {s t : S} → c ≡ a → d ≡ b → TookMore step f a b s t → TookMore step f c d s t
  More-over e g x = record { done = x.done; grown = g ∙ x.grown ∙ ap (λ z. z ++ x.done) (sym e); took = x.took }

  -- of all lines from the start
  pub More-all : {all : List Ruling} {s t : S} → TookMore step f [] all s t → Took step s (f all) t
  More-all {all} {s} {t} x = rw x.grown x.took

  -- one line more, of a text whose first lines are these and then this one
  pub More-line : (rules : Rules) (q : List ℕ) (i j : ℕ) (xs : List Line) (l : Line) (s t : S) → take i (lines q) ≡ xs
      → take j (lines q) ≡ xs ++ l ∷ [] → Took step s (f (ruling_after rules xs l ∷ [])) t
      → TookOf step f (stretch rules q i j) s t
  More-line rules q i j xs l s t front all took = record {
    done = ruling_after rules xs l ∷ [];
    grown = rw (all, front) (rulings-next _ _ l);
    took = took;
  }

  -- ---- at an end

  module _ (rules : Rules) (q : List ℕ) where
    -- as many lines as are handled, and the whole lines
    pub took-good : (m : ℕ) (s t : S) → m ≡ length (good rules q) → TookOf step f (stretch rules q 0 m) s t
        → Took step s (f (rulings_good rules q)) t
    took-good m s t e x = rw (first-good rules m q e) at (More-all x)

    pub took-whole : (m : ℕ) (s t : S) → refusal_in rules (lines (whole q)) ≡ None → m ≡ length (lines (whole q))
        → TookOf step f (stretch rules q 0 m) s t → Took step s (f (rulings_good rules (whole q))) t
    took-whole m s t none e x = rw (first-whole rules m q none e) at (More-all x)

    module _ (n : ℕ) where
      -- what comes after the first n lines
      pub after-first : (ds : List Ruling) → rulings_good rules q ≡ rulings_first rules n q ++ ds
          → drop (length (f (rulings_first rules n q))) (f (rulings_good rules q)) ≡ f ds
      after-first ds h =
          let first = f (rulings_first rules n q) in
          ap (drop (length first)) (ap f h ∙ over.both (rulings_first rules n q) ds) ∙ drop-append_seam first _

      pub took-after : (m : ℕ) (s t : S) → m ≡ length (good rules q) → TookOf step f (stretch rules q n m) s t
          → Took step s (drop (length (f (rulings_first rules n q))) (f (rulings_good rules q))) t
      took-after m s t e x =
          rw (after-first x.done (sym (first-good rules m q e) ∙ x.grown)) x.took

      module _ (then : List X → S → S → Type 0) (m : ℕ) (rest : List Ruling)
          (next : rulings_good rules q ≡ rulings_first rules m q ++ rest) (u t : S) (left : then (f rest) u t) where
        -- a prefix of that by two stretches, and then this came of the others
        pub two-took : (i : ℕ) (s v : S) (x : TookOf step f (stretch rules q n i) s v)
            → TookOf step f (stretch rules q i m) v u
            → TookFront step then
            (prefixes (drop (length (f (rulings_first rules n q))) (f (rulings_good rules q))) (f x.done)) s t
        unfolding More-then
        two-took i s v x y =
            let ds = x.done ++ y.done in
            record {
              more = f y.done;
              others = f rest;
              middle = u;
              front = after-first _ (next ∙ ap (λ z. z ++ rest) (More-then x y).grown
                  ∙ append_assoc (rulings_first rules n q) (x.done ++ y.done) rest)
                  ∙ over.both ds rest ∙ ap (λ z. z ++ f rest) (over.both x.done y.done);
              took = Took-append _ s v u _ _ x.took y.took;
              left = left;
            }

        -- by one
        pub front-took : (s : S) → TookOf step f (stretch rules q n m) s u
            → TookFront step then
            (prefixes (drop (length (f (rulings_first rules n q))) (f (rulings_good rules q))) []) s t
        front-took s y =
            rw over.none at
            (two-took n s s (record {
              done = [];
              grown = sym (append-nil (rulings_first rules n q));
              took = rw
                  over.none refl;
            }) y)

-- ---- counts of what a sink of reports noted

-- a sink that counted some reports goes up by them
reports-more : (a b : CountReports) (rs : List Report) → a.reports ≤ 2 ^ 64 - 1 → Took CountsReport a rs b
    → b.reports ≡ min (a.reports + length rs) (2 ^ 64 - 1)
reports-more a b [] h took = omega (arith, ap (λ c. c.reports) took)
reports-more a b (r ∷ rs) h took =
    omega (arith, reports-more took.0 b rs (omega (arith, took.1)) took.2)

-- a new sink that counted some reports has their count
reports-all : (c : CountReports) (rs : List Report) → Took CountsReport (no_reports) rs c → c ≡ count_of rs
reports-all c rs took =
    let same : c.reports ≡ min (length rs) (2 ^ 64 - 1) = omega (
      arith,
      reports-more (no_reports) c rs (omega arith)
          took,
    ) in
    ap (λ n. record { reports = n }) same

-- of the first ones, where no more were noted
reports-first : (rs : List Report) (c : CountReports) → TookFront CountsReport (λ others a b. b ≡ a) (prefixes rs [])
    (no_reports) c → CountsFirst rs c
reports-first rs c h =
    record { front = h.more; others = h.others; all = h.front; counts = reports-all c _ (rw h.left h.took) }

-- of lines, one after another
pub counts-lines : (rules : Rules) (q : List ℕ) (n : ℕ) (c : CountReports) → Notes CountsReport (stretch rules q 0 n)
    (no_reports) c → c ≡ count_of (reported_first rules n q)
counts-lines rules q n c h =
    reports-all c _ (More-all _ over-reported h)

-- what a run has counted, by its end
pub counts-run : (rules : Rules) (r : List ℕ) (c : CountReports) (e : End) → NotesRun CountsReport (stream_of rules r) e
    (no_reports) c → CountsReportsOfRun (stream_of rules r) e c
counts-run rules r c ReadFault h = reports-all c _ h
counts-run rules r c ReadLimit h = reports-all c _ h
counts-run rules r c WriteFault h = reports-first _ c h
counts-run rules r c Memory h = h
counts-run rules r c other h = reports-all c _ h

-- what was counted of pieces
pub counts-pieces : (rules : Rules) (pieces : List (List ℕ)) (n : ℕ) (c : CountReports) (e : End)
    → NotesPieces CountsReport (in_pieces rules pieces n) e (no_reports) c
    → CountsReportsOfPieces (in_pieces rules pieces n) e c
counts-pieces rules pieces n c Complete h = reports-all c _ h
counts-pieces rules pieces n c (Refused number place reason) h = reports-all c _ h
counts-pieces rules pieces n c WriteFault h = reports-first _ c h
counts-pieces rules pieces n c other h = h

-- ---- counts of what a sink took

-- both counts are those of another sink
both : (a b : CountSink) → a.headers ≡ b.headers → a.features ≡ b.features → a ≡ b
both a b h k =
    ap (λ z. record { headers = z; features = a.features }) h ∙ ap (λ z. record { headers = b.headers; features = z }) k

-- a sink that counted some items goes up by them
counts-more : (a b : CountSink) (is : List Item) → a.headers ≤ 2 ^ 64 - 1 → a.features ≤ 2 ^ 64 - 1
    → Took CountsItem a is b → (b.headers ≡ min (a.headers + length (filter is_header is)) (2 ^ 64 - 1))
    × (b.features ≡ min (a.features + length (filter is_feature is)) (2 ^ 64 - 1))
counts-more a b [] h k took = (omega (arith, ap (λ s. s.headers) took), omega (arith, ap (λ s. s.features) took))
counts-more a b (i ∷ is) h k took = step i.header (λ p q. counts-more took.0 b is p q took.2) took.1
  where
    step : (o : Option Tree)
        → (took.0.headers ≤ 2 ^ 64 - 1 → took.0.features ≤ 2 ^ 64 - 1
        → (b.headers ≡ min (took.0.headers + length (filter is_header is)) (2 ^ 64 - 1))
        × (b.features ≡ min (took.0.features + length (filter is_feature is)) (2 ^ 64 - 1)))
        → CountsBy a o took.0
        → (b.headers ≡ min (a.headers + length (cond (not (is_some o)) (i ∷ filter is_header is) (filter is_header is)))
        (2 ^ 64 - 1))
        × (b.features ≡ min (a.features + length (cond (is_some o) (i ∷ filter is_feature is) (filter is_feature is)))
        (2 ^ 64 - 1))
    step None more c =
        let later = more (omega arith) (omega arith) in
        (omega arith, omega arith)
    step (Some x) more c =
        let later = more (omega arith) (omega arith) in
        (omega arith, omega arith)

-- a new sink that counted some items has their counts
counts-all : (b : CountSink) (is : List Item) → Took CountsItem (no_counts) is b → b ≡ counts_of is
counts-all b is took =
    let all = counts-more _ b _ (omega arith) (omega arith) took in
    both b _ (omega arith) (omega arith)

never : (others : List Item) (m c : CountSink) → LeavesNext (λ a i b. ⊥) others m c → ⊥
never [] m c k = k
never (i ∷ is) m c k = k

-- what a run has counted, by its end
pub CountsRun-puts : (rules : Rules) (r : List ℕ) (c : CountSink) (e : End) → Puts (never_fails CountsItem)
    (stream_of rules r) e (no_counts) c → CountsRun (stream_of rules r) e c
CountsRun-puts rules r c x h = grind (arith, nat_tests, counts-all, never)

-- what was counted of pieces
pub CountsPieces-puts : (rules : Rules) (pieces : List (List ℕ)) (n : ℕ) (c : CountSink) (e : End)
    → PutsPieces (never_fails CountsItem) (in_pieces rules pieces n) e (no_counts) c
    → CountsPieces (in_pieces rules pieces n) e c
CountsPieces-puts rules pieces n c x h = grind (arith, nat_tests, never, counts-all)
