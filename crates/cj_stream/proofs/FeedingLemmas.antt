-- What the states of a stream promise, and what was held at most.
use Rattle.cj_stream.proofs.Common.{End, EngineState, Err, Finishes, HeldAll, HeldUntil, IsBelow, LimitPair, List, Ok, OnOk, Reading, Reads, Result, Rises, Scanned, Scanning, SinkContract, Stays, [], ap, append-nil, append_assoc, arith, begun, begun_after, closed, contents, ended_line, exact_peaks, first_content, first_lines, first_of, flat_map, greatest, held_length, last_line, later_of, length, limits_of, lines, lines_of, map, max, nat_tests, peaks_of, raw, refl, sym, take_all, whole, with_sink, ℕ, ◌++◌, ◌+◌, ◌∙◌, ◌∷◌, ◌≡◌, ◌≤◌, Carries, Complete, Feeds, FinishesAll, SplitterState, IsFinished, LineEnd, Memory, None, Option, Some, StandsFor, Stops, TakesAll, TakesSome, WriteFault, answer_of, cond, end_of, further, given, header_end, length-append, line_end, state, subst}
use Rattle.cj_stream.proofs.TookLemmas.{lines-front}
use Rattle.cj_stream.proofs.FinishLemmas.{Finishes-concludes, contents-closed, contents-last, peaks-finished, Finishes-delivers, StandsFor-finished, finished-ok, finishes-onward}
use Rattle.cj_stream.proofs.GoodLemmas.{good-complete}
use Rattle.cj_stream.proofs.LineLemmas.{lines-cut, lines-are_lines, lines-whole, closed-grows}
use Rattle.cj_stream.proofs.ReadingLemmas.{greatest-later, held-nothing}
use Rattle.cj_stream.proofs.ScanningLemmas.{first-closed}
use Rattle.std.proofs.Common.{◌≢◌, is_none, IsErrOf}
use Rattle.cj_stream.specs.declared.ending.HeaderEnd.{HeaderEnd}
use Rattle.cj_stream.specs.declared.ending.HeaderEnd.TheVariants.{Complete as HeaderComplete, Refused as HeaderRefused, WriteFault as HeaderWriteFault, Memory as HeaderMemory}
use Rattle.cj_stream.specs.declared.ending.LineEnd.TheVariants.{Complete as LineComplete, Refused as LineRefused, WriteFault as LineWriteFault}
use Rattle.cj_stream.proofs.EngineLemmas.{IsEndAfter-stops, Delivers-advances, Delivers-stops, LacksMemory-stops, StandsFor-reads, StandsFor-stops, Going-reads}

-- ---- what was held at most is no less than the lines that were handled need

pub held-scanned : (limits : LimitPair) (cs : List (List ℕ)) (s : Scanning) → Scanned limits cs s → HeldAll limits cs s
held-scanned limits cs s k =
    record { header = omega arith; line = k.line_peak.least; opened = k.opened_peak.least }

pub held-rises : (limits : LimitPair) (cs : List (List ℕ)) (s t : Scanning) → Rises s t → HeldAll limits cs s
    → HeldAll limits cs t
held-rises limits cs s t r k = record {
  header = omega arith;
  line = omega arith;
  opened = omega arith;
}

-- nothing more was handled
pub held-until : (limits : LimitPair) (p done left : List ℕ) (n : ℕ) (s t : Scanning) → n ≡ length (closed (p ++ done))
    → Scanned limits (closed (p ++ done)) s → Rises s t
    → HeldUntil limits p (done ++ left) n t
held-until limits p done left n s t count k r = record {
  done = done;
  left = left;
  cut = refl;
  lines = count;
  held = held-rises _ _ s t r (held-scanned _ _ s k);
}

pub held-now : (limits : LimitPair) (p more : List ℕ) (n : ℕ) (s t : Scanning) → n ≡ length (closed p)
    → Scanned limits (closed p) s → Rises s t → HeldUntil limits p more n t
held-now limits p more n s t count k r =
    held-until _ p [] more n s t (rw (append-nil p) count) (rw (append-nil p) k) r

-- ---- the lines that were handled, seen as a stream

contents-ended : (cs : List (List ℕ)) → map (λ l. l.content) (map ended_line cs) ≡ cs
contents-ended [] = refl
contents-ended (c ∷ cs) = ap (λ z. c ∷ z) (contents-ended cs)

contents-whole : (q : List ℕ) → contents (whole q) ≡ closed q
contents-whole q = rw (lines-whole) (contents-ended _)

-- the first line is the first of the contents
first-contents : (s : List ℕ) → length (first_content s) ≡ length (first_of (contents s) [])
first-contents s =
    grind (arith, nat_tests, lines-cut)

-- as many lines as LF ended in a prefix are that prefix, but for what has begun in it
first-front : (n : ℕ) (q more : List ℕ) → n ≡ length (closed q) → first_lines n (q ++ more) ≡ whole q
first-front n q more e = ap (flat_map raw) (lines-front n q _ e)

-- two prefixes in which LF ended as many lines
same-closed : (n : ℕ) (a x b y : List ℕ) → a ++ x ≡ b ++ y → n ≡ length (closed a) → n ≡ length (closed b)
    → closed a ≡ closed b
same-closed n a x b y same e f =
    grind (
      arith,
      nat_tests,
      lines-front n a x e,
      lines-front,
      contents-ended (closed a),
      contents-ended (closed b),
    )

least-peaks : (limits : LimitPair) (q : List ℕ) (s : Scanning) (bytes : ℕ)
    → length (first_of (closed q) []) + greatest (held_length limits) (later_of (closed q)) ≤ bytes
    → HeldAll limits (closed q) s
    → IsBelow (exact_peaks limits (whole q))
    (record { bytes = bytes; tokens = s.header.peak + s.line.peak; depth = s.opened.peak })
least-peaks limits q s bytes some k = record {
  bytes = rw (first-contents, contents-whole) some;
  tokens = rw (contents-whole) (omega arith);
  depth = rw (contents-whole) k.opened;
}

bytes-read : (f : Reading) (q : List ℕ) → Reads f q
    → length (first_of (closed q) []) + greatest (held_length f.rules.limits) (later_of (closed q)) ≤ f.header.peak
    + f.line.peak
bytes-read f q h =
    let first = rw (append-nil q) at (first-closed q []) in
    omega (arith, ap length h.header)

-- so it is of all whole lines of what was read
pub least-read : (e : EngineState) (q more : List ℕ) → Reads e.reading q → HeldAll (limits_of e) (closed q) e.scanning
    → IsBelow (exact_peaks (limits_of e) (first_lines (lines_of e) (q ++ more))) (peaks_of e)
least-read e q more reads k =
    rw (first-front (lines_of e) q more reads.lines)
    (least-peaks _ q e.scanning (e.reading.header.peak + e.reading.line.peak)
    (bytes-read e.reading q reads) k)

-- and where reading stopped within these bytes
pub least-until : (e : EngineState) (limits : LimitPair) (p bytes done left : List ℕ) → limits_of e ≡ limits
    → bytes ≡ done ++ left → Reads e.reading (p ++ done) → HeldUntil limits p bytes (lines_of e) e.scanning
    → IsBelow (exact_peaks limits (first_lines (lines_of e) (p ++ bytes))) (peaks_of e)
least-until e limits p bytes done left under cut reads h =
    let here = append_assoc p done left ∙ ap (λ z. p ++ z) (sym cut) in
    let same = same-closed _ _ h.left (p ++ done) left ((append_assoc p h.done h.left ∙ ap (λ z. p ++ z) (sym h.cut))
    ∙ sym here) h.lines reads.lines in
    let held : HeldAll limits (closed (p ++ done)) e.scanning = rw (← same) h.held in
    rw (← here, ← under) (least-read e (p ++ done) left reads (rw under held))

-- the bytes of the begun line were held too
pub begun-held : (f : Reading) (q : List ℕ) → Reads f q
    → (exact_peaks f.rules.limits q).bytes ≤ f.header.peak + f.line.peak
begun-held f q h =
    omega (
      arith,
      ap length h.header,
      ap (λ ls. greatest (held_length f.rules.limits) (later_of (map (λ l. l.content) ls))) (lines-cut q),
      later (begun q),
    )
  where
    later : (b : List ℕ) → greatest (held_length f.rules.limits)
        (later_of (map (λ l. l.content) (map ended_line (closed q) ++ last_line b)))
        ≤ max (greatest (held_length f.rules.limits) (later_of (closed q)))
        (held_length f.rules.limits (begun_after (closed q) b))
    later [] = rw (contents-closed (closed q)) (omega arith)
    later (x ∷ b) =
        rw (contents-last (closed q) (x ∷ b))
        (omega (
          arith,
          greatest-later (held_length f.rules.limits) (held-nothing f.rules.limits) (closed q) (x ∷ b),
          held-nothing f.rules.limits,
        ))

-- ---- the end of a stream

-- all lines of a stream are all of it
first-all : (n : ℕ) (p : List ℕ) → n ≡ length (lines p) → first_lines n p ≡ p
first-all n p e = ap (flat_map raw) (take_all n _ (omega arith)) ∙ (lines-are_lines p).joined

module _ {S : Type 0} (law : SinkContract S) where
  -- an error leaves the count of lines
  finished-err : (f g : Reading) (s t : S) (p : List ℕ) (e : End) → Finishes law p (with_sink f s) (Err e)
      (with_sink g t) → g.lines ≡ f.lines
  finished-err f g s t p e d =
      grind (arith, nat_tests)

  pub least-finished : (old new : EngineState) (s t : S) (p : List ℕ) (r : Result (Unit {0}) End) → Reads old.reading p
      → Finishes law p (with_sink old.reading s) r (with_sink new.reading t)
      → Stays old.reading new.reading → Rises old.scanning new.scanning
      → Scanned (limits_of old) (closed p) old.scanning → OnOk r (Scanned (limits_of old) (contents p) new.scanning)
      → IsBelow (exact_peaks (limits_of old) (first_lines (lines_of new) p)) (peaks_of new)
  least-finished old new s t p (Ok x) reads d stays rises k now =
      let said = Finishes-concludes law _ _ s t p reads _ d in
      rw (first-all (lines_of new) p (said.1 ∙ ap length (good-complete old.reading.rules p said.0)))
      (peaks-finished law _ _ s t p reads _ _ d
      refl now).least
  least-finished old new s t p (Err e) reads d stays rises k now =
      let front = let x = first-front (lines_of new) p [] (finished-err old.reading new.reading s t p e d
      ∙ reads.lines) in
      rw (append-nil p) at x in
      rw front (least-peaks (limits_of old) p new.scanning (new.reading.header.peak + new.reading.line.peak)
      (omega (arith, bytes-read old.reading p reads, stays.header_rises, stays.line_rises))
      (held-rises (limits_of old) (closed p) old.scanning new.scanning rises
      (held-scanned (limits_of old) (closed p) old.scanning k)))

-- ---- what the states of a stream promise of a piece and of the end, from what their splitter did

-- an end is none that has not come
pub not-going : (o : Option End) (e : End) → o ≡ Some e → o ≡ None → ⊥
not-going o e is none = cc

below-same : (e : EngineState) → IsBelow (peaks_of e) (peaks_of e)
below-same e = record { bytes = omega arith; tokens = omega arith; depth = omega arith }

-- no end of a reader of lines is want of memory
never-memory : (e : LineEnd) → line_end e ≢ Memory
never-memory LineComplete h = cc
never-memory (LineRefused line place reason) h = cc
never-memory LineWriteFault h = cc

-- and such an end of a reader of a header is one of a stream
pub header-lacks : {T : Type 0} (r : Result T HeaderEnd) → IsErrOf (answer_of header_end r) Memory
    → IsErrOf r HeaderMemory
header-lacks (Ok x) h = cc
header-lacks (Err HeaderComplete) h = cc
header-lacks (Err (HeaderRefused line place reason)) h = cc
header-lacks (Err HeaderWriteFault) h = cc
header-lacks (Err HeaderMemory) h = refl

pub never-lacks : {T : Type 0} (r : Result T LineEnd) → IsErrOf (answer_of line_end r) Memory → ⊥
never-lacks (Ok x) h = cc
never-lacks (Err e) h = never-memory e cc

module _ {S : Type 0} (law : SinkContract S) (old : EngineState) (s : S) where
  -- after an end, the same again
  pub Feeds-again : (bytes : List ℕ) (e : End) (new : EngineState) (t : S) → old.ended ≡ Some e → new ≡ old → t ≡ s
      → Feeds law bytes (with_sink old s) (Err e) (with_sink new t)
  Feeds-again bytes e new t is same kept = rw (same, kept) (record {
    unended = tt;
    ended = is;
    counts = omega arith;
    cause = λ going. cc;
    rules = refl;
    stands = λ p st. subst (λ z. StandsFor old z) (sym (after-end p bytes)) st;
    onward = λ p st. omega arith;
    rises = below-same old;
    least = λ p st going. cc;
    going = tt;
    said = λ p st going. cc;
    memory = λ p st going. cc;
    growth = λ going. cc;
    sink = λ p st going. cc;
  })
    where
      after-end : (p bytes : List ℕ) → given old p bytes ≡ p
      after-end p bytes = ap (λ o. cond (is_none o) (p ++ bytes) p) is

  pub IsFinished-again : (e : End) (new : EngineState) (t : S) → old.ended ≡ Some e → new ≡ old → t ≡ s
      → IsFinished law (with_sink old s) e (with_sink new t)
  IsFinished-again e new t is same kept = rw (same, kept) (record {
    ended = is;
    counts = omega arith;
    cause = λ going. cc;
    rules = refl;
    stands = λ p st. st;
    onward = λ p st. omega arith;
    rises = below-same old;
    least = λ p st going. cc;
    concludes = λ p st going. cc;
    exact = λ p st going. cc;
    memory = λ going. cc;
    sink = λ p st going. cc;
  })

module _ {S : Type 0} (law : SinkContract S) (old new : SplitterState) (s t : S) (n : ℕ) {T : Type 0}
    (answer : Result T End)
    (carries : Carries law (with_sink old s) answer (with_sink new t)) where
  limits : new.reading.rules.limits ≡ old.reading.rules.limits
  limits = ap (λ x. x.limits) carries.stays.rules

  below-rises : IsBelow (peaks_of (state old n None)) (peaks_of (state new n None))
  below-rises = record {
    bytes = omega arith;
    tokens = omega arith;
    depth = carries.rises.opened;
  }

  -- these bytes were read
  pub Feeds-advances : (bytes : List ℕ) (m : ℕ) → m ≡ n + length bytes
      → TakesAll law bytes (with_sink old s) (with_sink new t)
      → Feeds law bytes (with_sink (state old n None) s) (Ok tt) (with_sink (state new m None) t)
  Feeds-advances bytes m taken all = record {
    unended = refl;
    ended = tt;
    counts = carries.counts;
    cause = λ _ fault. cc;
    rules = carries.stays.rules;
    stands = λ p st.
        StandsFor-reads (state new m None) (p ++ bytes) (omega (arith, (st.going refl).2, taken, length-append p bytes))
        carries.limited.sound carries.limited.room (reads p st) (scanned p st);
    onward = λ p st. omega (arith, (st.going refl).0.lines, (reads p st).lines, closed-grows p bytes);
    rises = below-rises;
    least = λ p st _.
        let k = least-read (state new m None) (p ++ bytes) [] (reads p st)
        (held-scanned new.reading.rules.limits (closed (p ++ bytes)) new.scanning (scanned p st)) in
        rw (append-nil (p ++ bytes), limits) at k;
    going = λ p st. Going-reads (state new m None) (p ++ bytes) (reads p st) (scanned p st);
    said = tt;
    memory = λ p st _ none. cc;
    growth = λ _ none. cc;
    sink = λ p st _. Delivers-advances law old.reading new.reading s t p bytes (st.going refl).0
        (all.advances p (st.going refl).0);
  }
    where
      reads : (p : List ℕ) → StandsFor (state old n None) p → Reads new.reading (p ++ bytes)
      reads p st = (all.advances p (st.going refl).0).reads

      scanned : (p : List ℕ) → StandsFor (state old n None) p
          → Scanned new.reading.rules.limits (closed (p ++ bytes)) new.scanning
      scanned p st = rw limits (all.scanned p (st.going refl).0 (st.going refl).1)

  -- reading stopped within these bytes
  pub Feeds-stops : (bytes : List ℕ) (e : End) → answer ≡ Err e
      → TakesSome law bytes (with_sink old s) e (with_sink new t)
      → ((p : List ℕ) → Reads old.reading p → Scanned old.reading.rules.limits (closed p) old.scanning
      → HeldUntil old.reading.rules.limits p bytes new.reading.lines new.scanning)
      → Feeds law bytes (with_sink (state old n None) s) (Err e) (with_sink (state new n (Some e)) t)
  Feeds-stops bytes e is some least = record {
    unended = tt;
    ended = refl;
    counts = carries.counts;
    cause = λ _ fault. carries.cause (is ∙ ap Err (err-is fault));
    rules = carries.stays.rules;
    stands = λ p st. StandsFor-stops _ (state old n None) _ s t p _ e refl
        carries.limited.sound carries.limited.room
        (rw limits (some.held p (st.going refl).0 (st.going refl).1)) (stop p st);
    onward = λ p st.
        omega (arith, (st.going refl).0.lines, (stop p st).reads.lines, closed-grows);
    rises = below-rises;
    least = λ p st _. least-until (state new n (Some e)) _ p _ _
        _ limits (stop p st).cut (stop p st).reads (least p (st.going refl).0 (st.going refl).1);
    going = tt;
    said = λ p st _. IsEndAfter-stops _ _ _ s t p _ e (stop p st);
    memory = λ p st _ none. LacksMemory-stops _ _ _ s t p _ e (stop p st) (err-is none);
    growth = λ _ none. carries.memory (is ∙ ap Err (err-is none));
    sink = λ p st _. Delivers-stops _ _ _ s t p _ e (st.going refl).0 (stop p st);
  }
    where
      stop : (p : List ℕ) → StandsFor (state old n None) p
          → Stops law (further p bytes) (with_sink old.reading s) e (with_sink new.reading t)
      stop p st = some.stops p (st.going refl).0

      err-is : {x : End} → ◌≡◌ {A = Result (Unit {0}) End} (Err e) (Err x) → e ≡ x
      err-is h = cc

-- the end was come to, by what came of a last line
module _ {S : Type 0} (law : SinkContract S) (old new : SplitterState) (s t : S) (n : ℕ) where
  pub IsFinished-finishes : (r : Result (Unit {0}) End) (e : End) → e ≡ end_of r
      → Carries law (with_sink old s) r (with_sink new t) → (r ≡ Err Memory → ⊥)
      → FinishesAll law (with_sink old s) r (with_sink new t)
      → IsFinished law (with_sink (state old n None) s) e (with_sink (state new n (Some e)) t)
  IsFinished-finishes r e is carries memory all = record {
    ended = refl;
    counts = carries.counts;
    cause = λ _ fault. carries.cause (faulty r WriteFault (λ h. cc) (sym is ∙ fault));
    rules = carries.stays.rules;
    stands = λ p st.
        StandsFor-finished law _ _ s t p (st.going refl).0 r _ n e st.bounded.bytes
        (rw limits at carries.limited.room) (all.held p (st.going refl).0 (st.going refl).1) (done p st);
    onward = λ p st. finishes-onward law _ _ s t p (st.going refl).0 r (done p st);
    rises = below-rises law old new s t n r carries;
    least = λ p st _.
        least-finished law (state old n None) (state new n (Some e)) s t p r (st.going refl).0 (done p st) carries.stays
        carries.rises (st.going refl).1 (scanned-ok r p (st.going refl).0 (st.going refl).1 all.scanned);
    concludes = λ p st _.
        rw is (Finishes-concludes law _ _ s t p (st.going refl).0 r (done p st));
    exact = λ p st _ is_whole.
        let complete = sym is ∙ is_whole in
        let k = rw (finished-ok law old.reading new.reading s t p (st.going refl).0 r (done p st) complete) at
        all.scanned in
        peaks-finished law _ _ s t p (st.going refl).0 r _ (done p st) complete
        (k p (st.going refl).0 (st.going refl).1);
    memory = λ _ none. memory (faulty r Memory (λ h. cc) (sym is ∙ none));
    sink = λ p st _. rw is (Finishes-delivers _ _ _ s t p (st.going refl).0 r (done p st));
  }
    where
      limits : new.reading.rules.limits ≡ old.reading.rules.limits
      limits = ap (λ x. x.limits) carries.stays.rules

      done : (p : List ℕ) → StandsFor (state old n None) p
          → Finishes law p (with_sink old.reading s) r (with_sink new.reading t)
      done p st = all.answers p (st.going refl).0

      scanned-ok : (r : Result (Unit {0}) End) (p : List ℕ) → Reads old.reading p
          → Scanned old.reading.rules.limits (closed p) old.scanning
          → OnOk r ((p : List ℕ) → Reads old.reading p → Scanned old.reading.rules.limits (closed p) old.scanning
          → Scanned old.reading.rules.limits (contents p) new.scanning)
          → OnOk r (Scanned old.reading.rules.limits (contents p) new.scanning)
      scanned-ok (Ok x) p reads k h = h p reads k
      scanned-ok (Err x) p reads k h = tt

      faulty : (r : Result (Unit {0}) End) (x : End) → (Complete ≡ x → ⊥) → end_of r ≡ x → r ≡ Err x
      faulty (Ok y) x apart h = absurd (apart h)
      faulty (Err y) x apart h = ap Err h
