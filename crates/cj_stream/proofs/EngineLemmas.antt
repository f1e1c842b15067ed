-- What an engine holds, says and delivers, from what its splitter did.
use Rattle.cj_stream.proofs.Common.{Bool, End, Err, Item, JudgedAs, Reading, Handles, SinkContract, Stays, Verdict, arith, refl, with_sink, ◌+◌, ◌∙◌, ◌≡◌, nat_tests, Counts, Delivers, EngineState, Faults, Going, HasRoom, HoldsFew, Invalid, IsBelow, IsBounded, IsWithin, LacksMemory, LimitPair, Line, List, Memory, None, Option, Peaks, Reads, Refused, Rules, Ruling, Scanned, Scanning, Some, StandsFor, Stops, IsEndAfter, WriteFault, [], ap, append-nil, append_assoc, begun, bytes_bound, closed, cond, ended_line, false, first_content, further, goes_on, held_by, is_lenient, judged, last_line, length, length-append, limits_of, lines, map, nat_lt, peaks_of, refusal_from, refusal_in, rulings_closed, rulings_first, slice_get, stretch, sym, take, true, up_to, verdict, ℕ, ◌++◌, ◌<◌, ◌∷◌, ◌≤◌}
use Rattle.cj_stream.specs.Reading.{IsSound, Advances, IsNext, HasCause, stop_at}
use Rattle.cj_stream.proofs.TookLemmas.{take-front, lines-front, first-front, first-closed_lines, More-over, over-kept}
use Rattle.cj_stream.proofs.LineLemmas.{closed-grows, first_content-grows, first-length, lines-cut, lines-whole}
use Rattle.cj_stream.proofs.ScanningLemmas.{few-scanned, first-closed}
use Rattle.cj_stream.proofs.ReadingLemmas.{length-map_lines, dropped-long}
use Rattle.cj_stream.proofs.VerdictLemmas.{refusal-append}
use Rattle.std.proofs.lemmas.List.{nil_from_length}

-- ---- what stays of a reading, whatever comes of some bytes

pub Stays-same : (f g : Reading) → g ≡ f → Stays f g
Stays-same f g e = rw e (record { rules = refl; header_rises = omega arith; line_rises = omega arith })

pub Stays-then : (f g h : Reading) → Stays f g → Stays g h → Stays f h
Stays-then f g h a b = record {
  rules = b.rules ∙ a.rules;
  header_rises = omega arith;
  line_rises = omega arith;
}

-- an error leaves the count of lines
pub handled-err : {S : Type 0} (law : SinkContract S) (on : Bool) (v : Verdict) (i : Item) (f g : Reading) (s t : S)
    (e : End) → Handles law (JudgedAs (f.lines + 1) on v i) (with_sink f s) (Err e) (with_sink g t) → g.lines ≡ f.lines
handled-err law on v i f g s t e x = grind (arith, nat_tests)

-- ---- what an engine holds, says and delivers, from what its splitter did

-- what is held is within the peaks
pub held-below : (e : EngineState) → IsWithin e.reading.header → IsWithin e.reading.line
    → HasRoom (limits_of e) e.scanning → IsBelow (held_by e) (peaks_of e)
held-below e header line room = record {
  bytes = omega arith;
  tokens = omega arith;
  depth = room.opened_within.below_peak;
}

-- the peaks of lists that hold few tokens are within the bound
pub peaks-bounded : (limits : LimitPair) (s : List ℕ) (bytes : ℕ) (f : Scanning) → bytes ≤ bytes_bound limits s
    → HasRoom limits f → HoldsFew limits (length (first_content s)) f
    → IsBounded limits s (record { bytes = bytes; tokens = f.header.peak + f.line.peak; depth = f.opened.peak })
peaks-bounded limits s bytes f h room few = record {
  bytes = h;
  tokens = omega (arith, first-length);
  depth = omega arith;
}

pub same-peaks : (a b c x y z : ℕ) → a ≡ x → b ≡ y → c ≡ z
    → ◌≡◌ {A = Peaks} (record { bytes = a; tokens = b; depth = c }) (record { bytes = x; tokens = y; depth = z })
same-peaks a b c x y z e f g = rw (e, f, g)

pub peak-le : (f : Reading) (p more : List ℕ) → IsSound f → Reads f p
    → f.header.peak + f.line.peak ≤ bytes_bound f.rules.limits (p ++ more)
peak-le f p more s h =
    omega (
      arith,
      ap length h.header,
      first_content-grows,
      first-length,
    )

pub get-next : (xs ys : List Line) (l : Line) (n : ℕ) → n ≡ length xs → slice_get (xs ++ l ∷ ys) n ≡ Some l
get-next xs ys l n e = rw e (go xs)
  where
    go : (xs : List Line) → slice_get (xs ++ l ∷ ys) (length xs) ≡ Some l
    go [] = refl
    go (x ∷ xs) = go xs

few-front : (n : ℕ) (p more : List ℕ) → n ≡ length (closed p) → n ≤ length (lines (p ++ more))
few-front n p more e =
    let cs = map ended_line (closed (p ++ more)) in
    omega (
      arith,
      closed-grows,
      length-map_lines (closed (p ++ more)),
      ap length (lines-cut (p ++ more)),
      length-append cs (last_line (begun (p ++ more))),
    )

-- the counts of what has been read, whatever bytes follow
pub Counts-front : (f : Reading) (p more : List ℕ) → Reads f p → Counts f.rules (p ++ more) f.lines f.kept f.refused
Counts-front f p more h = record {
  few = few-front _ p more h.lines;
  counted = rw (lines-front f.lines p more h.lines) h.counted;
}

-- what can be judged is a prefix of the lines
pub judged-front : (limits : LimitPair) (q : List ℕ) → (extra : List Line) × (lines q ≡ judged limits q ++ extra)
judged-front limits q = let x = go (nat_lt limits.line (length (begun q))) in (x.0, lines-cut q ∙ x.1)
  where
    go : (b : Bool) → (extra : List Line)
        × (map ended_line (closed q) ++ last_line (begun q)
        ≡ (map ended_line (closed q) ++ cond b (last_line (begun q)) []) ++ extra)
    go true = ([], sym (append-nil _))
    go false = (last_line (begun q), ap (λ z. z ++ last_line (begun q)) (sym (append-nil (map ended_line (closed q)))))

pub next-line : (limits : LimitPair) (n : ℕ) (p q : List ℕ) (l : Line) → IsNext limits p q l → n ≡ length (closed p)
    → slice_get (lines q) n ≡ Some l
next-line limits n p q l h e =
    let x = judged-front limits q in
    let cs = map ended_line (closed p) in
    rw (x.1, h.1, append_assoc cs (l ∷ h.0) x.0) (get-next _ (h.0 ++ x.0) l n (e ∙ sym (length-map_lines (closed p))))

-- as many lines as LF ended in a prefix, of a text that goes on with a line that can be judged
front-next : (limits : LimitPair) (p q : List ℕ) (l : Line) (n : ℕ) → IsNext limits p q l → n ≡ length (closed p)
    → take n (lines q) ≡ map ended_line (closed p)
front-next limits p q l n h e =
    let x = judged-front limits q in
    let cs = map ended_line (closed p) in
    rw (x.1, h.1, append_assoc cs (l ∷ h.0) x.0)
    (take-front _ (l ∷ h.0 ++ x.0) n (e ∙ sym (length-map_lines (closed p))))

pub next-refusal : (rules : Rules) (n place : ℕ) (reason : _) (p q : List ℕ) (l : Line) → IsNext rules.limits p q l
    → n ≡ length (closed p) + 1
    → refusal_in rules (map ended_line (closed p)) ≡ None → verdict rules (map ended_line (closed p)) l.content
    ≡ Invalid place reason → goes_on rules n ≡ false
    → refusal_in rules (judged rules.limits q) ≡ Some (Refused n place reason)
next-refusal rules n place reason p q l h e good v on =
    grind (
      arith,
      nat_tests,
      length-map_lines,
      refusal-append,
    )

pub IsEndAfter-cause : {S : Type 0} (law : SinkContract S) (rules : Rules) (p q : List ℕ) (n : ℕ) (s t : S) (e : End)
    → n ≡ length (closed p)
    → refusal_in rules (map ended_line (closed p)) ≡ None → HasCause law (stop_at rules p q n) s t e
    → IsEndAfter rules q n e
IsEndAfter-cause law rules p q n s t x len good c = grind (arith, nat_tests, next-refusal)

pub Faults-cause : {S : Type 0} (law : SinkContract S) (rules : Rules) (p q : List ℕ) (n : ℕ) (s t : S) (e : End)
    → n ≡ length (closed p)
    → HasCause law (stop_at rules p q n) s t e → Faults law (up_to rules q n) s t (Some e)
Faults-cause law rules p q n s t WriteFault len c =
    let before = front-next rules.limits p q _ n c.1 len in
    (c.0, next-line rules.limits n p q _ c.1 len, rw before c.2, rw before c.3)
Faults-cause law rules p q n s t other len c = search

-- what has begun, and is no end: it is within the limit, or reading goes on after it
pub begun-good : (f : Reading) (q : List ℕ) → Reads f q → refusal_in f.rules (judged f.rules.limits q) ≡ None
begun-good f q h = go f.dropped refl
  where
    after : (c : List ℕ) → f.rules.limits.line < length c → is_lenient f ≡ true
        → refusal_from f.rules (map ended_line (closed q)) (last_line c) ≡ None
    after [] long on = absurd (omega arith)
    after (b ∷ c) long on =
        grind (arith, nat_tests, length-map_lines)

    go : (d : Bool) → f.dropped ≡ d → refusal_in f.rules (judged f.rules.limits q) ≡ None
    go false held =
        rw ((sym h.begun.dropped ∙ held), append-nil (map ended_line (closed q))) h.counted.good
    go true dropped =
        grind (
          arith,
          nat_tests,
          refusal-append,
          dropped-long,
        )

pub Going-reads : (e : EngineState) (q : List ℕ) → Reads e.reading q → Scanned (limits_of e) (closed q) e.scanning
    → Going e q
Going-reads e q h sc = record {
  good = begun-good _ q h;
  lines = rw (lines-whole) (h.lines ∙ sym (length-map_lines _));
  held = same-peaks _ _ _ _ _ _ (rw (h.header, h.line)) (omega (arith, ap length sc.line))
      (ap length sc.opened);
}

pub StandsFor-reads : (e : EngineState) (p : List ℕ) → e.taken ≡ length p → IsSound e.reading
    → HasRoom (limits_of e) e.scanning → Reads e.reading p → Scanned (limits_of e) (closed p) e.scanning
    → StandsFor e p
StandsFor-reads e p taken s room h sc = record {
  held = held-below e h.header_within h.line_within room;
  bounded =
      let bytes = rw (append-nil p) at (peak-le e.reading p [] s h) in
      let first = rw (append-nil p) at (first-closed p []) in
      peaks-bounded _ p _ _ bytes room
      (few-scanned _ _ _ _ sc first);
  counts = rw (append-nil p) at (Counts-front e.reading p [] h);
  going = λ _. (h, sc, taken);
}

module _ {S : Type 0} (law : SinkContract S) where
  pub IsEndAfter-stops : (f g : Reading) (s t : S) (p more : List ℕ) (e : End)
      → Stops law (further p more) (with_sink f s) e
      (with_sink g t) → IsEndAfter f.rules (p ++ more) g.lines e
  IsEndAfter-stops f g s t p more e h =
      IsEndAfter-cause law f.rules (p ++ h.done) (p ++ more) _ h.middle t e h.reads.lines
      (rw h.rules at h.reads.counted.good) h.cause

  pub Delivers-advances : (f g : Reading) (s t : S) (p more : List ℕ) → Reads f p → Advances law (further p more)
      (with_sink f s) (with_sink g t)
      → Delivers law (stretch f.rules (p ++ more) f.lines g.lines) s t None
  Delivers-advances f g s t p more r h =
      record {
        middle = t;
        took = More-over _ over-kept (first-front _ _ p _ r.lines)
            (first-closed_lines f.rules _ (p ++ more) h.reads.lines) h.puts;
        fault = refl;
      }

  pub Delivers-stops : (f g : Reading) (s t : S) (p more : List ℕ) (e : End) → Reads f p → Stops law (further p more)
      (with_sink f s) e (with_sink g t)
      → Delivers law (stretch f.rules (p ++ more) f.lines g.lines) s t (Some e)
  Delivers-stops f g s t p more e r h =
      let rules = f.rules in
      record {
        middle = h.middle;
        took = More-over _ over-kept (first-front _ _ p _ r.lines)
            (ap (rulings_first rules g.lines) (ap (λ z. p ++ z) h.cut ∙ sym (append_assoc p h.done h.left))
            ∙ first-front rules _ (p ++ h.done) h.left h.reads.lines)
            h.puts;
        fault = Faults-cause law rules (p ++ h.done) (p ++ more) _ _ t e h.reads.lines h.cause;
      }

  pub StandsFor-stops : (old new : EngineState) (s t : S) (p more : List ℕ) (e : End) → new.ended ≡ Some e
      → IsSound new.reading → HasRoom (limits_of new) new.scanning
      → HoldsFew (limits_of new) (length (first_content (p ++ more))) new.scanning → Stops law (further p more)
      (with_sink old.reading s) e (with_sink new.reading t) → StandsFor new (p ++ more)
  StandsFor-stops old new s t p more e ended sound room few h =
      let whole = ap (λ z. p ++ z) h.cut ∙ sym (append_assoc p h.done h.left) in
      record {
        held = held-below new h.reads.header_within h.reads.line_within room;
        bounded = peaks-bounded _ _ _
            _ (rw whole (peak-le _ _ _ sound h.reads)) room few;
        counts = rw whole (Counts-front _ _ _ h.reads);
        going = λ none. cc;
      }

none-added : (xs ys : List Ruling) → ◌≡◌ {A = List Ruling} [] (xs ++ ys) → ys ≡ []
none-added [] ys e = sym e
none-added (x ∷ xs) ys e = cc

-- what an end for want of memory says: no line was handled, so the sink is as it was
pub LacksMemory-stops : {S : Type 0} (law : SinkContract S) (f g : Reading) (s t : S) (p more : List ℕ) (e : End)
    → Stops law (further p more) (with_sink f s) e (with_sink g t) → e ≡ Memory
    → LacksMemory f.rules (p ++ more) g.lines × (t ≡ s)
LacksMemory-stops law f g s t p more e h m =
    let cause = rw m at h.cause in
    let grown = rw (nil_from_length (closed (p ++ h.done)) (sym h.reads.lines ∙ cause.1.none)) at h.puts.grown in
    let took = rw (none-added (rulings_closed f.rules p) h.puts.done grown) at h.puts.took in
    (cause.1, cause.0 ∙ took)

pub none_from_not_some : {T : Type 0} (o : Option T) → ((x : T) → o ≡ Some x → ⊥) → o ≡ None
none_from_not_some None h = refl
none_from_not_some (Some x) h = absurd (h x refl)
