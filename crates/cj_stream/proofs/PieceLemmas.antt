-- How a splitter advances over a piece, where it stops, and what it carries on.
use Rattle.cj_stream.proofs.Common.{Bool, End, Err, Invalid, IsLeft, Item, JudgedAs, LimitPair, LineTooLong, List, Memory, NoLf, Ok, Reading, Reads, Reason, Refused, Result, Rules, Handles, SinkContract, Stops, Stores, TookMore, Unstored, Verdict, WriteFault, [], ap, append-nil, append_assoc, arith, begun, begun_of, closed, ended_line, false, further, is_kept, is_lenient, judged_next, kept_of, length, length-append, long_line, map, nat_tests, next_verdict, refl, ruling_after, rulings, rulings_closed, subst, sym, begun_verdict, true, with_sink, ℕ, ◌++◌, ◌+◌, ◌<◌, ◌∙◌, ◌∷◌, ◌≡◌, SplitterState, HeldUntil, Scanned, Scanning, TakesAll, TakesSome, HoldsFewNext, ScansNext, judged_begun, newline}
use Rattle.std.proofs.Common.{ltb}
use Rattle.cj_stream.specs.Reading.{IsBegun, Advances, IsNext, HasCause, stop_at}
use Rattle.cj_stream.proofs.LineLemmas.{closed-more, begun-more, closed-lf, begun-lf}
use Rattle.cj_stream.proofs.VerdictLemmas.{verdict-long}
use Rattle.cj_stream.proofs.ReadingLemmas.{left-same, strict-first, Reads-left, Reads-stored, Reads-ended, held-whole, dropped-long, said-verdict, closed-next, map_lines-append}
use Rattle.cj_stream.proofs.TookLemmas.{More-none, More-then, over-kept, Came, ended, refused, failed, lacked, came}
use Rattle.cj_stream.proofs.EngineLemmas.{next-line}
use Rattle.std.proofs.lemmas.List.{nil_from_length}
use Rattle.cj_stream.proofs.ScanningLemmas.{few-line, few-scanned, first-closed, scanned-begun, scanned-line}

-- ---- how a splitter advances over a piece, and where it stops

module _ {S : Type 0} (law : SinkContract S) where
  -- nothing was put where no line was ended
  pub Puts-none : (rules : Rules) (p q : List ℕ) (s : S) → closed q ≡ closed p
      → TookMore law.takes kept_of (rulings_closed rules p) (rulings_closed rules q) s s
  Puts-none rules p q s e =
      More-none _ over-kept _ _ s s
      (ap (λ cs. rulings rules [] (map ended_line cs)) e) refl

  pub Advances-none : {f : Reading} {s : S} {p : List ℕ} → Reads f p
      → Advances law (further p []) (with_sink f s) (with_sink f s)
  Advances-none {f} {s} {p} h = record {
    rules = refl;
    reads = rw (append-nil p) h;
    puts = Puts-none _ p (p ++ []) s (ap closed (append-nil p));
  }

  pub Advances-then : {f g h : Reading} {s t u : S} {p a b : List ℕ}
      → Advances law (further p a) (with_sink f s) (with_sink g t)
      → Advances law (further (p ++ a) b) (with_sink g t) (with_sink h u)
      → Advances law (further p (a ++ b)) (with_sink f s) (with_sink h u)
  Advances-then {f} {g} {h} {s} {t} {u} {p} {a} {b} x y = record {
    rules = y.rules ∙ x.rules;
    reads = rw (← append_assoc p a b) y.reads;
    puts =
        rw (← append_assoc p a b) (More-then _ over-kept x.puts (rw x.rules at y.puts));
  }

  pub Advances-stored : {f g : Reading} {s : S} {p part : List ℕ} → Reads f p → NoLf part → Stores f part g
      → Advances law (further p part) (with_sink f s) (with_sink g s)
  Advances-stored {f} {g} {s} {p} {part} h n st = record {
    rules = st.rules;
    reads = Reads-stored f g p _ h st n;
    puts = Puts-none _ p (p ++ part) s (closed-more p _ n);
  }

  -- the begun line, of which this came, ended
  advanced : (g h : Reading) (s t : S) (p : List ℕ) (r : Result (Unit {0}) End) → Reads g p
      → Came law g h s t (map ended_line (closed p)) (ended_line (begun p)) r → r ≡ Ok tt
      → Advances law (further p (10 ∷ [])) (with_sink g s) (with_sink h t)
  advanced g h s t p r reads (ended put refuses x fine k bad took) ok = record {
    rules = x.rules;
    reads = Reads-ended g h p _ _ reads x fine k bad;
    puts = record {
      done = ruling_after g.rules (map ended_line (closed p)) (ended_line (begun p)) ∷ [];
      grown = closed-next _ p;
      took = took;
    };
  }
  advanced g h s t p r reads other ok = cc

  -- what came of the begun line, told by its content, of which nothing is known where it is dropped
  pub Handles-begun : (on : Bool) (g h : Reading) (s t : S) (c : List ℕ) (lf : Bool) (r : Result (Unit {0}) End)
      → IsBegun g c
      → Handles law (judged_next g on (begun_verdict g) (record { content = begun_of g; lf = lf })) (with_sink g s) r
      (with_sink h t)
      → Handles law (judged_next g on (next_verdict g c) (record { content = c; lf = lf })) (with_sink g s) r
      (with_sink h t)
  Handles-begun on g h s t c lf r is d = go g.dropped refl
      (rw (said-verdict g c is) at d)
    where
      no-item : (x : Item) (place : ℕ) (reason : Reason) (v : Verdict) → v ≡ Invalid place reason
          → Handles law (JudgedAs (g.lines + 1) on v x) (with_sink g s) r (with_sink h t)
          → Handles law (judged_next g on v (record { content = c; lf = lf })) (with_sink g s) r (with_sink h t)
      no-item x place reason v e k =
          grind (arith, nat_tests)

      go : (b : Bool) → g.dropped ≡ b → Handles law (judged_next g on (next_verdict g c)
          (record { content = begun_of g; lf = lf })) (with_sink g s) r (with_sink h t)
          → Handles law (judged_next g on (next_verdict g c) (record { content = c; lf = lf })) (with_sink g s) r
          (with_sink h t)
      go true dropped k =
          no-item _ g.rules.limits.line LineTooLong (next_verdict g c)
          (verdict-long _ _ _ c (dropped-long g c is dropped)) k
      go false held k = rw (held-whole g c is held).0 at k

  -- what came of the first line, which nothing goes on after if it is refused
  pub Handles-first : (g h : Reading) (s t : S) (v : Verdict) (i : Item) (r : Result (Unit {0}) End) → g.lines ≡ 0
      → Handles law (JudgedAs (g.lines + 1) false v i) (with_sink g s) r (with_sink h t)
      → Handles law (JudgedAs (g.lines + 1) (is_lenient g) v i) (with_sink g s) r (with_sink h t)
  Handles-first g h s t v i r first d = subst (λ on. Handles law (JudgedAs (g.lines + 1) on v i) (with_sink g s) r
      (with_sink h t)) (sym (strict-first g first)) d

  -- a part and an LF
  pub Advances-line : {f g h : Reading} {s t : S} {p part : List ℕ} {r : Result (Unit {0}) End} → Reads f p → NoLf part
      → Stores f part g
      → Handles law (judged_next g (is_lenient g) (begun_verdict g) (ended_line (begun_of g))) (with_sink g s) r
      (with_sink h t) → r ≡ Ok tt
      → Advances law (further p (part ++ 10 ∷ [])) (with_sink f s) (with_sink h t)
  Advances-line {f} {g} {h} {s} {t} {p} {part} {r} reads n st d ok =
      let a = Advances-stored {s = s} reads n st in
      let now = came _ g h s t (p ++ part) a.reads _ r (Handles-begun (is_lenient g) g h s t (begun (p ++ part)) true r
      a.reads.begun d) in
      Advances-then a (advanced g h s t _ r a.reads now ok)

  pub Stops-later : {f g h : Reading} {s t u : S} {p a b : List ℕ} {e : End}
      → Advances law (further p a) (with_sink f s) (with_sink g t)
      → Stops law (further (p ++ a) b) (with_sink g t) e (with_sink h u)
      → Stops law (further p (a ++ b)) (with_sink f s) e (with_sink h u)
  Stops-later {f} {g} {h} {s} {t} {u} {p} {a} {b} x y = record {
    done = a ++ y.done;
    left = y.left;
    middle = y.middle;
    cut = ap (λ z. a ++ z) y.cut ∙ sym (append_assoc a y.done y.left);
    rules = y.rules ∙ x.rules;
    reads = rw (← append_assoc p a y.done) y.reads;
    puts =
        rw (← append_assoc p a y.done) (More-then _ over-kept x.puts (rw x.rules at y.puts));
    cause = rw (← append_assoc p a y.done, ← append_assoc p a b) (rw x.rules at y.cause);
  }

  IsNext-ended : (limits : LimitPair) (p part more : List ℕ)
      → IsNext limits (p ++ part) (p ++ (part ++ 10 ∷ more)) (ended_line (begun (p ++ part)))
  IsNext-ended limits p part more = (
    map ended_line (closed more) ++ long_line limits (begun more),
    rw (
      ← append_assoc p part (10 ∷ more),
      closed-lf,
      begun-lf,
      map_lines-append,
    )
        (append_assoc (map ended_line (closed (p ++ part)))
        (ended_line (begun (p ++ part)) ∷ map ended_line (closed more)) (long_line limits (begun more))),
  )

  long_line-long : (limits : LimitPair) (c : List ℕ) → limits.line < length c
      → long_line limits c ≡ record { content = c; lf = false } ∷ []
  long_line-long limits [] h = absurd (omega arith)
  long_line-long limits (b ∷ c) h = let e : ltb limits.line (length (b ∷ c)) ≡ true = grind (arith, nat_tests) in
      rw e

  IsNext-long : (limits : LimitPair) (p part : List ℕ) → NoLf part → limits.line < length (begun p ++ part)
      → IsNext limits p (p ++ part) (record { content = begun p ++ part; lf = false })
  IsNext-long limits p part n long = (
    [],
    rw (closed-more, begun-more, long_line-long),
  )

  Unstored-cause : (f : Reading) (s : S) (p part q : List ℕ) (lf : Bool) (e : End) → Reads f p → Unstored f part e
      → (f.rules.limits.line < length (begun p ++ part)
      → IsNext f.rules.limits p q (record { content = begun p ++ part; lf = lf }))
      → HasCause law (stop_at f.rules p q f.lines) s s e
  Unstored-cause f s p part q lf e reads d next =
      let whole = held-whole f (begun p) reads.begun d.3 in
      let long : f.rules.limits.line < length (begun p ++ part) =
      omega (arith, length-append (begun p) part, ap length whole.0, d.1) in
      rw d.0 (
        record { content = begun p ++ part; lf = lf },
        next long,
        refl,
        verdict-long f.rules _ _ (begun p ++ part) long,
        refl,
        d.2,
      )

  stopped : (f : Reading) (s : S) (p more : List ℕ) (e : End) → Reads f p
      → HasCause law (stop_at f.rules p (p ++ more) f.lines) s s e → Stops law (further p more) (with_sink f s) e
      (with_sink f s)
  stopped f s p more e reads cause = record {
    done = [];
    left = more;
    middle = s;
    cut = refl;
    rules = refl;
    reads = rw (append-nil p) reads;
    puts = Puts-none _ p (p ++ []) s (ap closed (append-nil p));
    cause = rw (append-nil p) cause;
  }

  -- a part that is not stored, and an LF comes after it
  pub Stops-unstored : {f : Reading} {s : S} {p : List ℕ} (part more : List ℕ) {e : End} → Reads f p → NoLf part
      → Unstored f part e → Stops law (further p (part ++ 10 ∷ more)) (with_sink f s) e (with_sink f s)
  Stops-unstored {f} {s} {p} part more {e} reads n u = stopped f s p _ e reads
      (Unstored-cause f s p _ (p ++ (part ++ 10 ∷ more)) _ e reads u (λ _. next))
    where
      next : IsNext f.rules.limits p (p ++ (part ++ 10 ∷ more)) (ended_line (begun p ++ part))
      next = let k = IsNext-ended f.rules.limits p part more in rw (closed-more p part n, begun-more p part n) at k

  -- the last part is not stored
  pub Stops-unstored_last : {f : Reading} {s : S} {p part : List ℕ} {e : End} → Reads f p → NoLf part
      → Unstored f part e → Stops law (further p part) (with_sink f s) e (with_sink f s)
  Stops-unstored_last {f} {s} {p} {part} {e} reads n u = stopped f s p _ e reads
      (Unstored-cause f s p _ (p ++ part) _ e reads u (IsNext-long f.rules.limits p part n))

  -- the begun line, of which this came, is the end
  caused : (g h : Reading) (s t : S) (p q : List ℕ) (r : Result (Unit {0}) End) (e : End) → Reads g p
      → IsNext g.rules.limits p q (ended_line (begun p))
      → Came law g h s t (map ended_line (closed p)) (ended_line (begun p)) r → r ≡ Err e
      → IsLeft g h × HasCause law (stop_at g.rules p q g.lines) s t e
  caused g h s t p q r e reads next (ended put refuses x fine k bad took) err = cc
  caused g h s t p q r e reads next (refused place reason v on same still) err =
      let is : e ≡ Refused (g.lines + 1) place reason = cc in
      (left-same g h same, rw is (ended_line (begun p), next, refl, v, still, on))
  caused g h s t p q r e reads next (failed v left leaves) err =
      let is : e ≡ WriteFault = cc in (left, rw is (ended_line (begun p), next, ap is_kept v, leaves))
  caused g h s t p q r e reads next (lacked v none lf left still) err =
      let is : e ≡ Memory = cc in
      let first = next-line g.rules.limits _ p q _ next reads.lines in (
        left,
        rw is (
          still,
          record {
            none = none;
            header = begun p;
            first = rw none at first;
            valid = rw (nil_from_length (closed p) (sym reads.lines ∙ none)) at v;
          },
        ),
      )

  -- a part that is stored, and a line that is not handled
  pub Stops-unhandled : {f g h : Reading} {s t : S} {p part : List ℕ} (more : List ℕ) {r : Result (Unit {0}) End}
      {e : End}
      → Reads f p → NoLf part → Stores f part g
      → Handles law (judged_next g (is_lenient g) (begun_verdict g) (ended_line (begun_of g))) (with_sink g s) r
      (with_sink h t) → r ≡ Err e
      → Stops law (further p (part ++ 10 ∷ more)) (with_sink f s) e (with_sink h t)
  Stops-unhandled {f} {g} {h} {s} {t} {p} {part} more {r} {e} reads n st d err =
      let a = Advances-stored {s = s} reads n st in
      let said = Handles-begun (is_lenient g) g h s t (begun (p ++ part)) true r a.reads.begun d in
      let now = came law g h s t (p ++ part) a.reads (ended_line (begun (p ++ part))) r said in
      let u = caused g h s t (p ++ part) (p ++ (part ++ 10 ∷ more)) r e a.reads
      (IsNext-ended g.rules.limits p part more) now err in
      record {
        done = part;
        left = 10 ∷ more;
        middle = s;
        cut = refl;
        rules = ap (λ x. x.rules) u.0.same ∙ st.rules;
        reads = Reads-left g h (p ++ part) u.0 a.reads;
        puts = a.puts;
        cause = let k = rw st.rules at u.1 in rw u.0.same k;
      }

-- ---- what a splitter carries on where some bytes come after others that were all taken

module _ {S : Type 0} (law : SinkContract S) {f g : SplitterState} {s t : S} {bytes : List ℕ}
    (all : TakesAll law bytes (with_sink f s) (with_sink g t)) where
  limits : (p : List ℕ) → Reads f.reading p → g.reading.rules.limits ≡ f.reading.rules.limits
  limits p reads = ap (λ r. r.limits) (all.advances p reads).rules

  scanned : (p : List ℕ) → Reads f.reading p → Scanned f.reading.rules.limits (closed p) f.scanning
      → Scanned g.reading.rules.limits (closed (p ++ bytes)) g.scanning
  scanned p reads k = rw (limits p reads) (all.scanned p reads k)

  pub TakesAll-then : {more : List ℕ} {h : SplitterState} {u : S} → TakesAll law more (with_sink g t) (with_sink h u)
      → TakesAll law (bytes ++ more) (with_sink f s) (with_sink h u)
  TakesAll-then {more} rest = record {
    advances = λ p reads.
        let a = all.advances p reads in
        Advances-then _ a (rest.advances (p ++ bytes) a.reads);
    scanned = λ p reads k.
        let z = rest.scanned (p ++ bytes) (all.advances p reads).reads (scanned p reads k) in
        rw (limits p reads, append_assoc p bytes more) at z;
  }

  pub TakesSome-then : {more : List ℕ} {h : SplitterState} {u : S} {e : End}
      → TakesSome law more (with_sink g t) e (with_sink h u)
      → TakesSome law (bytes ++ more) (with_sink f s) e (with_sink h u)
  TakesSome-then {more} rest = record {
    stops = λ p reads.
        let a = all.advances p reads in
        Stops-later _ a (rest.stops (p ++ bytes) a.reads);
    held = λ p reads k.
        let z = rest.held (p ++ bytes) (all.advances p reads).reads (scanned p reads k) in
        rw (limits p reads, append_assoc p bytes more) at z;
  }

  -- how much of trees was held by n lines
  pub HeldUntil-then : (more : List ℕ) (n : ℕ) (now : Scanning)
      → ((q : List ℕ) → Reads g.reading q → Scanned g.reading.rules.limits (closed q) g.scanning
      → HeldUntil g.reading.rules.limits q more n now)
      → (p : List ℕ) → Reads f.reading p → Scanned f.reading.rules.limits (closed p) f.scanning
      → HeldUntil f.reading.rules.limits p (bytes ++ more) n now
  HeldUntil-then more n now rest p reads k =
      let x = rw (limits p reads) at (rest (p ++ bytes) (all.advances p reads).reads (scanned p reads k)) in
      record {
        done = bytes ++ x.done;
        left = x.left;
        cut = ap (λ z. bytes ++ z) x.cut ∙ sym (append_assoc bytes x.done x.left);
        lines = rw (← append_assoc p bytes x.done) x.lines;
        held = rw (← append_assoc p bytes x.done) x.held;
      }

-- ---- what a splitter has taken with a part of a line, or with its last part and LF

module _ {S : Type 0} (law : SinkContract S) where
  module _ (f : SplitterState) (s : S) (part : List ℕ) (free : NoLf part) where
    -- a part that is stored
    pub TakesAll-stored : (g : SplitterState) → Stores f.reading part g.reading → g.scanning ≡ f.scanning
        → TakesAll law part (with_sink f s) (with_sink g s)
    TakesAll-stored g stored same = record {
      advances = λ q reads. Advances-stored _ reads free stored;
      scanned = λ q reads scanned. scanned-begun _ q _ _ _ free same scanned;
    }

    -- and one that is not, where LF comes after it or not
    pub TakesSome-unstored : (more : List ℕ) (e : End) → Unstored f.reading part e
        → TakesSome law (part ++ newline ∷ more) (with_sink f s) e (with_sink f s)
    TakesSome-unstored more e unstored = record {
      stops = λ q reads. Stops-unstored _ _ _ reads free unstored;
      held = λ q reads scanned. few-scanned _ _ _ _ scanned
          (first-closed q _);
    }

    pub TakesSome-last : (e : End) → Unstored f.reading part e → TakesSome law part (with_sink f s) e (with_sink f s)
    TakesSome-last e unstored = record {
      stops = λ q reads. Stops-unstored_last _ reads free unstored;
      held = λ q reads scanned. few-scanned _ _ _ _ scanned
          (first-closed q _);
    }

    module _ (g h : SplitterState) (t : S) (stored : Stores f.reading part g.reading) (same : g.scanning ≡ f.scanning)
        (r : Result (Unit {0}) End)
        (handles : Handles law (judged_begun g.reading (is_lenient g.reading) (begun_verdict g.reading) true)
        (with_sink g.reading s) r (with_sink h.reading t)) where
      -- LF comes after it, and the line is handled
      pub TakesAll-line : r ≡ Ok tt → ScansNext g.reading g.scanning h.scanning
          → TakesAll law (part ++ newline ∷ []) (with_sink f s) (with_sink h t)
      TakesAll-line ok scans = record {
        advances = λ q reads. Advances-line _ reads free stored handles ok;
        scanned = λ q reads scanned. scanned-line f.reading _ q _ f.scanning _ _ reads free
            stored same scanned scans;
      }

      -- or it is the end
      pub TakesSome-line : (more : List ℕ) (e : End) → r ≡ Err e → HoldsFewNext g.reading g.scanning h.scanning
          → TakesSome law (part ++ newline ∷ more) (with_sink f s) e (with_sink h t)
      TakesSome-line more e err few = record {
        stops = λ q reads. Stops-unhandled _ _ reads free stored handles err;
        held = λ q reads scanned. few-line f.reading _ q _ f.scanning _ h.scanning reads free stored
            same scanned _ few;
      }
