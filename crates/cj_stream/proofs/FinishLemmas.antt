-- What the end of a text makes of an engine, and what devices say of an end.
use Rattle.cj_stream.proofs.Common.{Bool, End, Err, IsTrue, IsUnread, Ok, ReadFault, ReadLimit, Result, false, suc, true, zero, ℕ, ◌↔◌, ◌≡◌, Complete, Concludes, Counts, Delivers, Faults, Finishes, FinishesWith, HasRoom, HoldsFew, IsExact, IsLeft, IsWithin, LimitPair, Line, List, Memory, NoHeader, None, OnErr, OnOk, Reading, Reads, Refused, Rules, Scanned, Scanning, ScansNext, Handles, SinkContract, Some, StandsFor, WriteFault, [], answer_of, ap, append-nil, arith, begun, begun_after, bytes_bound, closed, contents, end_of, ended_line, ending, ending_of, exact_peaks, first_content, goes_on, greatest, held_length, inl, inr, is_lenient, judged_next, last_line, later_of, length, length-append, lines, map, max, nat_tests, next_verdict, refl, refusal_from, refusal_in, rulings_first, stretch, sym, take, take_all, unwrap_or, up_to, with_sink, ◌++◌, ◌+◌, ◌<◌, ◌∙◌, ◌∷◌, ◌≤◌, ◌⊎◌}
use Rattle.cj_stream.specs.Device.{taken_by}
use Rattle.std.proofs.Common.{eqb}
use Rattle.cj_stream.proofs.LineLemmas.{lines-cut, begun_after-empty}
use Rattle.cj_stream.proofs.TookLemmas.{Came, ended, refused, failed, lacked, came, lines-front, More-line, More-none, over-kept}
use Rattle.cj_stream.proofs.ReadingLemmas.{length-map_lines, left-same, zero_or, Counted-next, greatest-later, held-nothing}
use Rattle.cj_stream.proofs.GoodLemmas.{good-complete, good-refused}
use Rattle.cj_stream.proofs.EngineLemmas.{held-below, peaks-bounded, same-peaks, get-next, Counts-front}
use Rattle.cj_stream.proofs.VerdictLemmas.{refusal-append}
use Rattle.std.proofs.lemmas.List.{nil_from_length}

-- ---- what the answers of devices say of an end

-- where no read has failed, an end that no reader makes is no read fault
pub unfailed-end : (failed : Bool) (e : End) → failed ≡ false → IsUnread e → IsTrue failed ↔ (e ≡ ReadFault)
unfailed-end true e f u = cc
unfailed-end false e f u = (λ t. cc, λ is. absurd (rw is at u))

-- and so the end by the number of reads
pub unfailed-limit : (failed : Bool) → failed ≡ false → IsTrue failed ↔ (ReadLimit ≡ ReadFault)
unfailed-limit true f = cc
unfailed-limit false f = (λ t. cc, λ is. cc)

-- such an end is none by the number of reads
pub unread-limit : {P : Type 0} (e : End) → IsUnread e → e ≡ ReadLimit → P
unread-limit e u is = absurd (rw is at u)

-- a write took as many bytes as it answered
pub taken-is : {E : Type 0} (r : Result ℕ E) (n : ℕ) → taken_by r ≡ Ok n → r ≡ Ok n
taken-is (Ok zero) n e = cc
taken-is (Ok (suc m)) n e = cc
taken-is (Err x) n e = cc

-- ---- what the end of a text makes of an engine

-- the end of a text, by the number of its lines
abbrev pub Concluded : Rules → List ℕ → ℕ → End → Type 0
Concluded rules p n Complete = (ending rules p ≡ Complete) × (n ≡ length (lines p))
Concluded rules p n (Refused number place reason) = (ending rules p ≡ Refused number place reason) × (number ≡ n + 1)
Concluded rules p n WriteFault = Unit {0}
Concluded rules p n Memory = Unit {0}
Concluded rules p n other = ⊥

pub Concludes-concluded : (rules : Rules) (p : List ℕ) (n : ℕ) (e : End) → Concluded rules p n e → Concludes rules p n e
Concludes-concluded rules p n Complete h = (h.0, h.1 ∙ ap length (sym (good-complete _ p h.0)))
Concludes-concluded rules p n (Refused number place reason) h =
    (h.0, omega (arith, good-refused))
Concludes-concluded rules p n other h = h

ending-some : (rules : Rules) (xs ys : List Line) → 0 < length xs
    → ending_of rules (xs ++ ys) ≡ unwrap_or (refusal_in rules (xs ++ ys)) Complete
ending-some rules [] ys h = absurd (omega arith)
ending-some rules (x ∷ xs) ys h = refl

ending-last : (rules : Rules) (xs : List Line) (l : Line)
    → ending_of rules (xs ++ l ∷ []) ≡ unwrap_or (refusal_in rules (xs ++ l ∷ [])) Complete
ending-last rules [] l = refl
ending-last rules (x ∷ xs) l = refl

-- the contents of lines
pub contents-closed : (cs : List (List ℕ)) → map (λ l. l.content) (map ended_line cs ++ []) ≡ cs
contents-closed [] = refl
contents-closed (c ∷ cs) = ap (λ z. c ∷ z) (contents-closed cs)

pub contents-last : (cs : List (List ℕ)) (c : List ℕ)
    → map (λ l. l.content) (map ended_line cs ++ record { content = c; lf = false } ∷ []) ≡ cs ++ c ∷ []
contents-last [] c = refl
contents-last (d ∷ cs) c = ap (λ z. d ∷ z) (contents-last cs c)

-- what follows of an answer Ok
pub ok-then : {T E : Type 0} (P Q : Type 0) (r : Result T E) → (P → Q) → OnOk r P → OnOk r Q
ok-then P Q (Ok x) f h = f h
ok-then P Q (Err x) f h = h

-- the same of an answer whose end is seen as one of the stream
pub ok-answer : {T E : Type 0} (ending : E → End) (P : Type 0) (r : Result T E) → OnOk r P → OnOk (answer_of ending r) P
ok-answer ending P (Ok x) h = h
ok-answer ending P (Err x) h = h

pub err-answer : {T E : Type 0} (ending : E → End) (P : Type 0) (r : Result T E) → OnErr r P
    → OnErr (answer_of ending r) P
err-answer ending P (Ok x) h = h
err-answer ending P (Err x) h = h

-- a last line that is not empty was handled
pub finishes-with : {S : Type 0} (law : SinkContract S) (c : List ℕ) (f g : Reading) (s t : S)
    (r : Result (Unit {0}) End)
    → 0 < length c
    → Handles law (judged_next f (is_lenient f) (next_verdict f c) (record { content = c; lf = false })) (with_sink f s)
    r (with_sink g t) → FinishesWith law c (with_sink f s) r (with_sink g t)
finishes-with law [] f g s t r some d = absurd (omega arith)
finishes-with law (b ∷ c) f g s t r some d = d

-- the lists after a last line was handled, and of a text without one
pub scanned-last : (f : Reading) (p : List ℕ) (a b : Scanning) → Reads f p → 0 < length (begun p)
    → Scanned f.rules.limits (closed p) a → ScansNext f a b → Scanned f.rules.limits (contents p) b
scanned-last f p a b reads some s scan =
    rw (lines-cut) (go (begun p) some (scan (closed p) (begun p) (sym reads.lines) reads.begun s))
  where
    go : (c : List ℕ) → 0 < length c → Scanned f.rules.limits (closed p ++ c ∷ []) b
        → Scanned f.rules.limits (map (λ l. l.content) (map ended_line (closed p) ++ last_line c)) b
    go [] some k = absurd (omega arith)
    go (x ∷ c) some k = rw (contents-last) k

pub scanned-closed : (limits : LimitPair) (p : List ℕ) (a : Scanning) → begun p ≡ [] → Scanned limits (closed p) a
    → Scanned limits (contents p) a
scanned-closed limits p a e s = rw (lines-cut, e, contents-closed) s

-- a last line of these bytes
abbrev pub unended : List ℕ → Line
unended c = record { content = c; lf = false }

-- The end of p came, and this was answered: of no bytes, of lines that LF ended, and of a last line without LF.
data CameLast {S : Type 0} (law : SinkContract S) (f g : Reading) (s t : S) (p : List ℕ) :
    Result (Unit {0}) End → Type 0 where
  nothing : lines p ≡ [] → f.lines ≡ 0 → begun p ≡ [] → g ≡ f → t ≡ s
      → CameLast law f g s t p (Err (Refused 1 0 NoHeader))
  whole : 0 < f.lines → begun p ≡ [] → g ≡ f → t ≡ s → CameLast law f g s t p (Ok tt)
  last : (r : Result (Unit {0}) End) → 0 < length (begun p)
      → Came law f g s t (map ended_line (closed p)) (unended (begun p)) r → CameLast law f g s t p r

last-some : (c : List ℕ) → 0 < length c → last_line c ≡ unended c ∷ []
last-some [] some = absurd (omega arith)
last-some (b ∷ c) some = refl

pub lines-last : (p : List ℕ) → 0 < length (begun p)
    → lines p ≡ map ended_line (closed p) ++ unended (begun p) ∷ []
lines-last p some = lines-cut p ∙ ap (λ z. map ended_line (closed p) ++ z) (last-some _ some)

-- all lines, counted
pub take-last : (p : List ℕ) (n : ℕ) → n ≡ length (closed p) + 1 → 0 < length (begun p)
    → take n (lines p) ≡ map ended_line (closed p) ++ unended (begun p) ∷ []
take-last p n e some =
    let cs = map ended_line (closed p) in
    rw (lines-last)
    (take_all n _
    (omega (arith, e, length-map_lines (closed p), length-append cs (unended (begun p) ∷ []))))

-- the lines but the last, counted
pub take-closed : (p : List ℕ) (n : ℕ) → n ≡ length (closed p) → take n (lines p) ≡ map ended_line (closed p)
take-closed p n e = rw (append-nil p) at (lines-front n p [] e)

module _ {S : Type 0} (law : SinkContract S) (f g : Reading) (s t : S) (p : List ℕ) (reads : Reads f p) where
  came-none : (r : Result (Unit {0}) End) → begun p ≡ [] → FinishesWith law [] (with_sink f s) r (with_sink g t)
      → CameLast law f g s t p r
  came-none r e d = go (zero_or _)
    where
      go : (f.lines ≡ 0) ⊎ (0 < f.lines) → CameLast law f g s t p r
      go (inl z) =
          let first : eqb f.lines 0 ≡ true = grind (arith, nat_tests) in
          rw (d.0, first) (nothing (lines-cut p ∙ rw ((nil_from_length (closed p) (sym reads.lines ∙ z)), e)) z e d.1
          d.2)
      go (inr z) = let some : eqb f.lines 0 ≡ false = grind (arith, nat_tests) in rw (d.0, some) (whole z e d.1 d.2)

  came-last : (r : Result (Unit {0}) End) → Finishes law p (with_sink f s) r (with_sink g t) → CameLast law f g s t p r
  came-last r d = go (begun p) refl d
    where
      go : (x : List ℕ) → begun p ≡ x → FinishesWith law x (with_sink f s) r (with_sink g t) → CameLast law f g s t p r
      go [] e d = came-none r e d
      go (b ∷ c) e d =
          last r (rw e (omega arith)) (rw e (came _ f g s t p reads _ r d))

  length-cs : length (map ended_line (closed p)) ≡ f.lines
  length-cs = length-map_lines _ ∙ sym reads.lines

  -- with one line more all are counted
  module _ (some : 0 < length (begun p)) (one : g.lines ≡ f.lines + 1) where
    all-taken : take g.lines (lines p) ≡ map ended_line (closed p) ++ unended (begun p) ∷ []
    all-taken = take-last p _ (omega arith) some

    count-last : g.lines ≡ length (lines p)
    count-last =
        let cs = map ended_line (closed p) in
        omega (arith, length-cs, ap length (lines-last p some), length-append cs (unended (begun p) ∷ []))

  -- the end, where there is a last line
  ending-verdict : 0 < length (begun p)
      → ending f.rules p
      ≡ unwrap_or (refusal_from f.rules (map ended_line (closed p)) (unended (begun p) ∷ [])) Complete
  ending-verdict some =
      rw (
        lines-last,
        ending-last,
        refusal-append f.rules [] (map ended_line (closed p)) (unended (begun p) ∷ []) reads.counted.good,
      ) refl

  concluded : (r : Result (Unit {0}) End) → CameLast law f g s t p r → Concluded f.rules p g.lines (end_of r)
  concluded r (nothing none z e same still) = rw (none, same, z) (refl, refl)
  concluded r (whole z e same still) =
      let all : lines p ≡ map ended_line (closed p) ++ [] = lines-cut p ∙ rw e refl in
      let good : refusal_in f.rules (map ended_line (closed p) ++ []) ≡ None =
      rw (append-nil (map ended_line (closed p))) reads.counted.good in
      rw (same, all) (
        ending-some f.rules (map ended_line (closed p)) [] (omega (arith, length-cs)) ∙ rw good refl,
        rw (append-nil (map ended_line (closed p))) (sym length-cs),
      )
  concluded r (last x some (ended put refuses d fine k bad took)) =
      (ending-verdict some ∙ rw fine refl, count-last some d.lines)
  concluded r (last x some (refused place reason v on same still)) =
      let ends : goes_on f.rules (length (map ended_line (closed p)) + 1) ≡ false = rw length-cs on in
      (ending-verdict some ∙ rw (v, ends, length-cs) refl, ap (λ x. x.lines + 1) (sym same))
  concluded r other = tt

  pub Finishes-concludes : (r : Result (Unit {0}) End) → Finishes law p (with_sink f s) r (with_sink g t)
      → Concludes f.rules p g.lines (end_of r)
  Finishes-concludes r d = Concludes-concluded _ p _ _ (concluded r (came-last r d))

  -- the counts are those of f where nothing was handled
  counts-left : IsLeft f g → Counts f.rules p g.lines g.kept g.refused
  counts-left left = rw left.same (rw (append-nil p) at (Counts-front f p [] reads))

  counted : (r : Result (Unit {0}) End) → CameLast law f g s t p r → Counts f.rules p g.lines g.kept g.refused
  counted r (nothing none z e same still) = counts-left (left-same f g same)
  counted r (whole z e same still) = counts-left (left-same f g same)
  counted r (last x some (ended put refuses d fine k bad took)) = record {
    few = omega (arith, count-last some d.lines);
    counted = rw (all-taken some d.lines)
        (Counted-next f g (map ended_line (closed p)) (unended (begun p)) put refuses (sym length-cs) reads.counted d
        fine k bad);
  }
  counted r (last x some (refused place reason v on same still)) = counts-left (left-same f g same)
  counted r (last x some (failed v left leaves)) = counts-left left
  counted r (last x some (lacked v none lf left still)) = counts-left left

  pub Counts-finished : (r : Result (Unit {0}) End) → Finishes law p (with_sink f s) r (with_sink g t)
      → Counts f.rules p g.lines g.kept g.refused
  Counts-finished r d = counted r (came-last r d)

  -- the lists are within their peaks, and those have not changed; and no line is taken back
  record Handled : Type 0 where
    pub rules : g.rules ≡ f.rules
    pub header : IsWithin g.header
    pub line : IsWithin g.line
    pub peaks : g.header.peak + g.line.peak ≡ f.header.peak + f.line.peak
    pub onward : f.lines ≤ g.lines

  handled-left : IsLeft f g → Handled
  handled-left left = rw left.same (record {
    rules = refl;
    header = reads.header_within;
    line = record { below_peak = reads.line_within.below_peak; below_limit = reads.line_within.below_limit };
    peaks = refl;
    onward = omega arith;
  })

  handled : (r : Result (Unit {0}) End) → CameLast law f g s t p r → Handled
  handled r (nothing none z e same still) = handled-left (left-same f g same)
  handled r (whole z e same still) = handled-left (left-same f g same)
  handled r (last x some (ended put refuses d fine k bad took)) = record {
    rules = d.rules;
    header = rw d.header reads.header_within;
    line = d.line.within;
    peaks = rw d.header (omega arith);
    onward = omega arith;
  }
  handled r (last x some (refused place reason v on same still)) = handled-left (left-same f g same)
  handled r (last x some (failed v left leaves)) = handled-left left
  handled r (last x some (lacked v none lf left still)) = handled-left left

  pub finishes-onward : (r : Result (Unit {0}) End) → Finishes law p (with_sink f s) r (with_sink g t)
      → f.lines ≤ g.lines
  finishes-onward r d = (handled r (came-last r d)).onward

  pub StandsFor-finished : (r : Result (Unit {0}) End) (sc : Scanning) (n : ℕ) (e : End)
      → f.header.peak + f.line.peak ≤ bytes_bound f.rules.limits p → HasRoom f.rules.limits sc
      → HoldsFew f.rules.limits (length (first_content p)) sc → Finishes law p (with_sink f s) r (with_sink g t)
      → StandsFor (record { reading = g; scanning = sc; taken = n; ended = Some e }) p
  StandsFor-finished r sc n e bounded room few d =
      let k = handled r (came-last r d) in
      let counts = Counts-finished r d in
      record {
        held = held-below (record { reading = g; scanning = sc; taken = n; ended = Some e }) k.header k.line
            (rw k.rules room);
        bounded = rw k.rules (peaks-bounded _ p _ sc
            (omega (arith, k.peaks, bounded)) room few);
        counts = rw k.rules counts;
        going = λ none. cc;
      }

  -- what was held at most, of all lines
  peak : (r : Result (Unit {0}) End) → CameLast law f g s t p r → end_of r ≡ Complete
      → g.header.peak + g.line.peak ≡ (exact_peaks f.rules.limits p).bytes
  peak r (whole z e same still) done =
      let later : greatest (held_length f.rules.limits) (later_of (contents p)) ≡ greatest (held_length f.rules.limits)
      (later_of (closed p)) = rw (lines-cut p, e, contents-closed (closed p)) refl in
      let first : f.header.peak ≡ length (first_content p) = reads.peak ∙ ap length reads.header in
      let line = rw (e, begun_after-empty (closed p)) at reads.line_peak in
      rw same (omega (arith, later, first, line, held-nothing f.rules.limits))
  peak r (last x some (ended put refuses d fine k bad took)) done =
      let none = held-nothing f.rules.limits in
      let more = greatest-later (held_length f.rules.limits) none (closed p) (begun p) in
      let later : greatest (held_length f.rules.limits) (later_of (contents p))
      ≡ max (greatest (held_length f.rules.limits) (later_of (closed p)))
      (held_length f.rules.limits (begun_after (closed p) (begun p))) =
      rw (lines-last p some, contents-last (closed p) (begun p)) (omega (arith, more, none)) in
      let first : g.header.peak ≡ length (first_content p) = ap (λ x. x.peak) d.header
      ∙ reads.peak ∙ ap length reads.header in
      omega (arith, later, first, d.line.peak, reads.line_peak)
  peak r other done = cc

  -- only an answer Ok makes a text complete
  pub finished-ok : (r : Result (Unit {0}) End) → Finishes law p (with_sink f s) r (with_sink g t) → end_of r ≡ Complete
      → r ≡ Ok tt
  finished-ok r d done =
      grind (arith, nat_tests, came-last)

  -- and of all three counts
  pub peaks-finished : (r : Result (Unit {0}) End) (sc : Scanning) → Finishes law p (with_sink f s) r (with_sink g t)
      → end_of r ≡ Complete → Scanned f.rules.limits (contents p) sc
      → IsExact f.rules.limits p
      (record {
        bytes = g.header.peak + g.line.peak;
        tokens = sc.header.peak + sc.line.peak;
        depth = sc.opened.peak;
      })
  peaks-finished r sc d done k =
      let bytes = peak r (came-last r d) done in
      record {
        bytes = bytes;
        least = record {
          bytes = omega arith;
          tokens = omega arith;
          depth = k.opened_peak.least;
        };
        legible = λ all. same-peaks _ _ _ _ _ _ bytes (omega (arith, k.line_peak.exact all))
            (k.opened_peak.exact all);
      }

  quiet : (x : End) → g.lines ≡ f.lines → Faults law (up_to f.rules p g.lines) s t (Some x)
      → Delivers law (stretch f.rules p f.lines g.lines) s t (Some x)
  quiet x same fault = record {
    middle = s;
    took = More-none _ over-kept _ _ s s (ap (λ n. rulings_first f.rules n p) same) refl;
    fault = fault;
  }

  delivered : (r : Result (Unit {0}) End) → CameLast law f g s t p r
      → Delivers law (stretch f.rules p f.lines g.lines) s t (Some (end_of r))
  delivered r (nothing none z e same still) = quiet _ (ap (λ x. x.lines) same) still
  delivered r (whole z e same still) = quiet _ (ap (λ x. x.lines) same) still
  delivered r (last x some (ended put refuses d fine k bad took)) = record {
    middle = t;
    took = More-line _ over-kept _ p _ _ _ _ s t
        (take-closed p _ reads.lines) (all-taken some d.lines) took;
    fault = refl;
  }
  delivered r (last x some (refused place reason v on same still)) =
      quiet (Refused (f.lines + 1) place reason) (ap (λ x. x.lines) same) still
  delivered r (last x some (failed v left leaves)) = quiet WriteFault (ap (λ x. x.lines) left.same) (
    unended (begun p),
    rw (left.same, lines-last p some)
        (get-next (map ended_line (closed p)) [] (unended (begun p)) f.lines (sym length-cs)),
    rw (left.same, take-closed p f.lines reads.lines, v) refl,
    rw (left.same, take-closed p f.lines reads.lines) leaves,
  )
  delivered r (last x some (lacked v none lf left still)) = quiet Memory (ap (λ x. x.lines) left.same) still

  pub Finishes-delivers : (r : Result (Unit {0}) End) → Finishes law p (with_sink f s) r (with_sink g t)
      → Delivers law (stretch f.rules p f.lines g.lines) s t (Some (end_of r))
  Finishes-delivers r d = delivered r (came-last r d)
