-- How the calls of a run add up.
use Rattle.cj_stream.proofs.Common.{Complete, Concludes, Consumes, Counts, Delivers, End, Ends, EngineState, Faults, HasRisen, IfSome, IsBelow, IsUnread, List, Memory, None, Option, ReadFault, ReadLimit, Reading, Reads, Refused, Rules, Run, Scanned, SinkContract, Some, IsEndAfter, TookOf, WriteFault, [], ap, append-nil, arith, closed, ending, exact_peaks, first_lines, inl, inr, judged, kept_of, length, length-append, limits_of, lines, lines_of, nat_tests, peaks_of, refl, refusal_in, rules_of, rulings_first, stretch, subst, suc, sym, up_to, whole, zero, ℕ, ◌++◌, ◌<◌, ◌∙◌, ◌∷◌, ◌≡◌, ◌≤◌}
use Rattle.std.proofs.Common.{◌≢◌}
use Rattle.cj_stream.specs.Engine.{EngineFailsToGrow, HasFailedToGrow}
use Rattle.cj_stream.specs.Run.{Gave, HeldBegun, IsLastRead, IsReadWithin, LacksRoom, Runs, StopsInTime}
use Rattle.cj_stream.proofs.EngineLemmas.{begun-good, judged-front}
use Rattle.cj_stream.proofs.ReadingLemmas.{length-map_lines}
use Rattle.cj_stream.proofs.LineLemmas.{lines-whole}
use Rattle.cj_stream.proofs.GoodLemmas.{good-refused, ending-refused}
use Rattle.cj_stream.proofs.FeedingLemmas.{held-scanned, least-read}
use Rattle.cj_stream.proofs.VerdictLemmas.{refusal-stays}
use Rattle.cj_stream.proofs.TookLemmas.{More-over, More-then, over-kept}
pub use Rattle.cj_stream.proofs.OutputLemmas.{memory-sink}

-- what a sink takes of two steps, one after the other
pub Delivers-join : {S : Type 0} {law : SinkContract S} {rules : Rules} {r q : List ℕ} {from n m : ℕ} {s t u : S}
    {e : Option End} → rulings_first rules from q ≡ rulings_first rules from r
    → rulings_first rules n q ≡ rulings_first rules n r
    → Delivers law (stretch rules r from n) s t None → Delivers law (stretch rules q n m) t u e
    → Delivers law (stretch rules q from m) s u e
Delivers-join {S} {law} {rules} {r} {q} {from} {n} {m} {s} {t} {u} first same h k = record {
  middle = k.middle;
  took =
      More-then _ over-kept (More-over _ over-kept first same
      (subst (λ z. TookOf law.takes kept_of (stretch rules r from n) s z) (sym h.fault) h.took)) k.took;
  fault = k.fault;
}

pub Delivers-then : {S : Type 0} {law : SinkContract S} {rules : Rules} {r q : List ℕ} {n m : ℕ} {s t u : S}
    {e : Option End} → rulings_first rules n q ≡ rulings_first rules n r → Delivers law (stretch rules r 0 n) s t None
    → Delivers law (stretch rules q n m) t u e → Delivers law (stretch rules q 0 m) s u e
Delivers-then same h k = Delivers-join refl same h k

pub Ends-finished : (rules : Rules) (r : List ℕ) (n : ℕ) (at_end : Type 0) (e : End) → at_end → Concludes rules r n e
    → Ends rules r n at_end e
Ends-finished rules r n at_end x h c = grind (arith, nat_tests)

pub ending-said : (rules : Rules) (q : List ℕ) (e : End) → refusal_in rules (judged rules.limits q) ≡ Some e
    → ending rules q ≡ e
ending-said rules q e h =
    let x = judged-front rules.limits q in
    ending-refused _ _ e (rw x.1 (refusal-stays _ _ _ _ e h))

pub Ends-fed : (rules : Rules) (r : List ℕ) (n : ℕ) (at_end : Type 0) (e : End) → IsEndAfter rules r n e
    → Ends rules r n at_end e
Ends-fed rules r n at_end (Refused number place reason) c =
    let said = ending-said _ r _ c.0 in
    (said, omega (arith, good-refused), inr c.0)
Ends-fed rules r n at_end other c = search

-- no more bytes came: no whole line was refused
pub whole-good : (e : EngineState) (r : List ℕ) → Reads e.reading r → (refusal_in (rules_of e) (lines (whole r)) ≡ None)
    × (lines_of e ≡ length (lines (whole r)))
whole-good e r h = (rw (lines-whole) h.counted.good, rw (lines-whole) (h.lines ∙ sym (length-map_lines _)))

-- a step that keeps the sink as it is, with an end
pub Delivers-ended : {S : Type 0} (law : SinkContract S) (rules : Rules) (r : List ℕ) (n : ℕ) (s t : S) (e : End)
    → ((m u : S) → u ≡ m → Faults law (up_to rules r n) m u (Some e)) → Delivers law (stretch rules r 0 n) s t None
    → Delivers law (stretch rules r 0 n) s t (Some e)
Delivers-ended law rules r n s t e still h = record {
  middle = h.middle;
  took = h.took;
  fault = still h.middle t h.fault;
}

-- a count that rose in the last of some calls rose in all of them
pub HasRisen-after : (a b c : ℕ) → a ≤ b → HasRisen b c → HasRisen a c
HasRisen-after a b c le (inl lt) = inl (omega arith)
HasRisen-after a b c le (inr h) =
    grind (arith, nat_tests)

-- a count that rose is not 0
rose : (a b : ℕ) → HasRisen a b → 0 < b
rose a b (inl lt) = omega arith
rose a b (inr h) = omega arith

pub fails-grown : (e f : EngineState) → EngineFailsToGrow e f → HasFailedToGrow f
fails-grown e f (inl h) = inl (rose _ _ h)
fails-grown e f (inr h) = inr (rose _ _ h)

pub Runs-memory : {S : Type 0} (law : SinkContract S) (rules : Rules) (at_end : Type 0) (s : S)
    → Runs law (record {
      rules = rules;
      read = [];
      outcome = record {
        lines = 0;
        kept = 0;
        refused = 0;
        peaks =
            record { bytes = 0; tokens = 0; depth = 0 };
        ended = Memory;
      };
    }) at_end s s
Runs-memory law rules at_end s = record {
  account = record {
    bounded = record { bytes = omega arith; tokens = omega arith; depth = omega arith };
    exact = λ e. cc;
    counts = record { few = omega arith; counted = record { good = refl; kept = refl; refused = refl } };
    ends = tt;
  };
  sink = record { middle = s; took = record { done = []; grown = refl; took = refl }; fault = refl };
  puts = record { more = []; others = []; middle = s; front = refl; took = refl; left = refl };
}

-- ---- where a run stops

-- no bytes gave the end
pub last-none : (e : End) → IsLastRead e []
last-none (Refused number place reason) = omega arith
last-none WriteFault = omega arith
last-none Memory = omega arith
last-none other = refl

-- a piece gave it
pub last-piece : (rules : Rules) (q : List ℕ) (n : ℕ) (e : End) (piece : List ℕ) → IsEndAfter rules q n e
    → length piece ≤ 8192 → IsLastRead e piece
last-piece rules q n (Refused number place reason) piece said few = few
last-piece rules q n WriteFault piece said few = few
last-piece rules q n Memory piece said few = few
last-piece rules q n other piece said few = absurd said

-- before these last bytes no line was the end
pub stops-after : {at_start : Type 0} (f : Reading) (run : Run) (front last : List ℕ) → Reads f front
    → f.rules ≡ run.rules → run.read ≡ front ++ last → IsLastRead run.outcome.ended last
    → f.lines ≤ run.outcome.lines → (run.outcome.ended ≡ Memory → LacksRoom run at_start)
    → IsBelow (exact_peaks run.rules.limits (first_lines run.outcome.lines run.read)) run.outcome.peaks
    → HeldBegun run run.outcome.ended → StopsInTime run at_start
stops-after f run front last reads same cut short onward memory least begun = record {
  front = front;
  last = last;
  cut = cut;
  short = short;
  good = rw (← same) (begun-good f _ reads);
  done = rw (lines-whole) (omega (arith, length-map_lines));
  memory = memory;
  least = least;
  begun = begun;
}

-- where the engine ended, no more is told of the begun line
pub begun-judged : (run : Run) (e : End) → IsUnread e → HeldBegun run e
begun-judged run ReadFault u = absurd u
begun-judged run ReadLimit u = absurd u
begun-judged run other u = tt

-- an engine that has not ended has held what all that it has read needs
pub least-going : (e : EngineState) (r : List ℕ) → Reads e.reading r → Scanned (limits_of e) (closed r) e.scanning
    → IsBelow (exact_peaks (limits_of e) (first_lines (lines_of e) r)) (peaks_of e)
least-going e r reads scanned =
    rw (append-nil r) at (least-read e r [] reads (held-scanned (limits_of e) (closed r) e.scanning scanned))

-- a run that was refused memory after a read alone
pub Stops-read : (run : Run) (at_start : Type 0) → StopsInTime run ⊥ → StopsInTime run at_start
Stops-read run at_start stops = record {
  front = stops.front;
  last = stops.last;
  cut = stops.cut;
  short = stops.short;
  good = stops.good;
  done = stops.done;
  memory = λ h. elim (stops.memory h) [ inl unread ↦ absurd unread.0 | inr lacks ↦ inr lacks ];
  least = stops.least;
  begun = stops.begun;
}

-- memory was refused before the first read
pub Stops-memory : (rules : Rules) (at_start : Type 0) → at_start
    → StopsInTime (record {
      rules = rules;
      read = [];
      outcome = record {
        lines = 0;
        kept = 0;
        refused = 0;
        peaks = record { bytes = 0; tokens = 0; depth = 0 };
        ended = Memory;
      };
    }) at_start
Stops-memory rules at_start start =
    grind (arith, nat_tests)

-- an end by a piece, a fault or the read limit is no completion
pub said-not_complete : (rules : Rules) (q : List ℕ) (n : ℕ) (e : End) → IsEndAfter rules q n e → e ≡ Complete → ⊥
said-not_complete rules q n (Refused number place reason) c h = cc
said-not_complete rules q n WriteFault c h = cc
said-not_complete rules q n Memory c h = cc
said-not_complete rules q n other c h = c

-- the end of an engine that was finished, where a read was left to find the end of the input
pub Gave-finished : (reads n : ℕ) (e : End) → n < reads → IsUnread e → Gave reads n e
Gave-finished reads n Complete lt u = lt
Gave-finished reads n ReadFault lt u = absurd u
Gave-finished reads n ReadLimit lt u = absurd u
Gave-finished reads n other lt u = omega arith

-- the end by a piece, which the last of the reads may have given
pub Gave-fed : (rules : Rules) (q : List ℕ) (m reads n : ℕ) (e : End) → n ≤ reads → IsEndAfter rules q m e
    → Gave reads n e
Gave-fed rules q m reads n (Refused number place reason) le h = le
Gave-fed rules q m reads n WriteFault le h = le
Gave-fed rules q m reads n Memory le h = le
Gave-fed rules q m reads n other le h = absurd h

-- where the reads ran out, each of them gave a byte
all-gave : (reads : ℕ) (r : List ℕ) (e : End) → e ≡ ReadLimit → (w : IsReadWithin reads r e) → w.giving ≡ reads
all-gave reads r e is w = rw is at w.gave

-- one read more than there are bytes is enough
pub enough-reads : (a b : Option (List ℕ)) (reads : ℕ) (r : List ℕ) (e : End) → Consumes a b r → IsReadWithin reads r e
    → IfSome a (λ bytes. length bytes < reads → e ≢ ReadLimit)
enough-reads None b reads r e c w = tt
enough-reads (Some a) None reads r e c w = absurd c
enough-reads (Some a) (Some b) reads r e c w =
    λ few is. absurd (omega (arith, all-gave reads r e is w, w.least, ap length c, length-append r b))

pub unread-memory : (reads : ℕ) (e : End) → e ≡ Memory → IsReadWithin reads [] e
unread-memory reads e is = rw is (record { giving = 0; gave = omega arith; least = omega arith; most = omega arith })

pub enough-memory : (a : Option (List ℕ)) (reads : ℕ) (e : End) → e ≡ Memory
    → IfSome a (λ bytes. length bytes < reads → e ≢ ReadLimit)
enough-memory None reads e is = tt
enough-memory (Some a) reads e is = λ few limit. cc

-- by no read no line is handled
pub none-counted : (rules : Rules) (reads : ℕ) (r : List ℕ) (n features refusals : ℕ) (e : End) → reads ≡ 0
    → e ≡ ReadLimit → IsReadWithin reads r e → Counts rules r n features refusals → (n ≡ 0) × (features ≡ 0)
none-counted rules reads [] zero features refusals e nothing is w h = (refl, h.counted.kept)
none-counted rules reads [] (suc n) features refusals e nothing is w h = let few = h.few in
    absurd (omega arith)
none-counted rules reads (x ∷ r) n features refusals e nothing is w h =
    absurd (omega (arith, all-gave reads (x ∷ r) e is w, w.most))
