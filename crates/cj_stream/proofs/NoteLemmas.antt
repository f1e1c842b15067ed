-- What a sink of reports has noted of a text, and of pieces until one is refused.
use Rattle.cj_stream.proofs.Common.{Account, Bool, Collects, Complete, Delivers, End, Ends, EngineState, Err, Faults, Item, JudgedAs, Line, List, Memory, NoLf, None, Notes, NotesPieces, NotesRun, Ok, OnErr, OnOk, ReadFault, ReadLimit, Reading, Reads, Refused, Report, Result, Rules, Run, RunsNoting, Handles, SinkContract, Some, StandsFor, Stores, Took, Verdict, WriteFault, [], ap, append-nil, append_assoc, arith, begun, closed, ended_line, false, good, in_pieces, joined, length, length-append, lines, lines_of, map, nat_tests, outcome_of, refl, refusal_in, reported, reported_first, reported_from, reported_of, reports_of, rules_of, ruling_after, rulings_first, stream_of, stretch, subst, suc, sym, take, begun_verdict, true, up_to, verdict, with_sink, zero, ℕ, ◌++◌, ◌+◌, ◌<◌, ◌∙◌, ◌∷◌, ◌≡◌, ◌≤◌, Fed, Feeds, IsFinished, TookWhole, given_after, judged, peaks_of}
use Rattle.cj_stream.proofs.CutLemmas.{given-said, TookWhole-left, EndsAt-said, EndsAt-concludes}
use Rattle.cj_stream.proofs.EngineLemmas.{Counts-front, handled-err, Going-reads}
use Rattle.cj_stream.proofs.FinishLemmas.{take-closed, take-last, unended}
use Rattle.cj_stream.proofs.TookLemmas.{lines-front, first-split, More-all, More-line, More-none, More-then, front-took, over-reported, took-good, took-whole, first-either, first-same, More-over, over-kept}
use Rattle.cj_stream.proofs.OutputLemmas.{Runs-said}
use Rattle.cj_stream.proofs.RunLemmas.{Delivers-ended, Delivers-join, Ends-finished, Ends-fed, said-not_complete}
use Rattle.cj_stream.proofs.ReadingLemmas.{length-map_lines, map_lines-append, next-verdict, said-verdict, Reads-stored}
use Rattle.cj_stream.proofs.LineLemmas.{closed-lf, joined-all}
use Rattle.cj_stream.specs.Run.{Runs}
use Rattle.cj_stream.specs.declared.pieces.PiecesOutcome.{PiecesOutcome}

-- ---- what a sink of reports has noted of a text, line by line and call by call

-- ---- what is reported of the first line

-- nothing is reported of a first line that is not the end
unreported : (rules : Rules) (l : Line) → refusal_in rules (l ∷ []) ≡ None → reported_from rules [] (l ∷ []) ≡ []
unreported rules l h = grind arith

pub first-unreported : (rules : Rules) (k : ℕ) (q : List ℕ) → k ≤ 1 → refusal_in rules (take k (lines q)) ≡ None
    → reported_first rules k q ≡ []
first-unreported rules zero q few h = refl
first-unreported rules (suc (suc k)) q few h = absurd (omega arith)
first-unreported rules (suc zero) q few h =
    grind (arith, nat_tests)

-- ---- what was noted

module _ {N : Type 0} (notes : N → Report → N → Type 0) (rules : Rules) where
  pub Notes-none : (q : List ℕ) (i j : ℕ) (n m : N) → j ≡ i → m ≡ n → Notes notes (stretch rules q i j) n m
  Notes-none q i j n m e same =
      More-none _ over-reported _ _ n m (ap (λ k. rulings_first rules k q) e) same

  -- of a header
  pub Notes-first : (q : List ℕ) (i k : ℕ) (n m : N) → i ≡ 0 → k ≤ 1 → refusal_in rules (take k (lines q)) ≡ None
      → m ≡ n → Notes notes (stretch rules q i k) n m
  Notes-first q i k n m first few good same =
      rw (first, same) (record {
        done = rulings_first rules k q;
        grown = refl;
        took = rw (first-unreported rules k q few good) refl;
      })

  module _ (r : List ℕ) (at_end : Type 0) (count : ℕ) (n m : N)
      (good_first : refusal_in rules (take count (lines r)) ≡ None) (a : Notes notes (stretch rules r 0 count) n m)
    where
      -- what was noted, by the end of a run
      pub NotesRun-said : (e : End) → Ends rules r count at_end e → (e ≡ Memory → count ≡ 0)
          → NotesRun notes (stream_of rules r) e n m
      NotesRun-said ReadFault ends none = took-whole _ over-reported _ r _ n m ends.0 ends.1 a
      NotesRun-said ReadLimit ends none = took-whole _ over-reported _ r _ n m ends.0 ends.1 a
      NotesRun-said WriteFault ends none =
          front-took _ over-reported _ r 0 _ _ _ (first-split rules count r good_first)
          m m refl n a
      NotesRun-said Memory ends none =
          rw (none refl) at (More-all _ over-reported a)
      NotesRun-said other ends none = took-good _ over-reported _ r _ n m ends.1 a

  -- what was noted of pieces, by the end
  pub NotesPieces-said : (pieces : List (List ℕ)) (k count : ℕ) (n m : N) (e : End)
      → Ends rules (joined (take (k + 1) pieces)) count (joined (take (k + 1) pieces) ≡ joined pieces) e
      → (e ≡ ReadFault → ⊥) → (e ≡ ReadLimit → ⊥)
      → NotesRun notes (stream_of rules (joined (take (k + 1) pieces))) e n m
      → NotesPieces notes (in_pieces rules pieces k) e n m
  NotesPieces-said pieces k count n m Complete ends u v h = rw (← ends.2) h
  NotesPieces-said pieces k count n m (Refused number place reason) ends u v h =
      let same = given-said rules [] _ k _ ends.2 ends.0 in
      subst (λ ls. Took notes n (reported_from rules [] ls) m) (sym same.1) h
  NotesPieces-said pieces k count n m ReadFault ends u v h = absurd (u refl)
  NotesPieces-said pieces k count n m ReadLimit ends u v h = absurd (v refl)
  NotesPieces-said pieces k count n m other ends u v h = h

-- ---- one line

module _ {N : Type 0} (notes : N → Report → N → Type 0) where
  -- a front with the header, and then what comes after it
  pub Notes-header : (f g : Reading) (p front rest : List ℕ) (k : ℕ) (n m : N) → f.lines ≡ 0 → g.lines ≤ 1
      → g.rules ≡ f.rules → Reads g (p ++ front)
      → Notes notes (stretch g.rules ((p ++ front) ++ rest) g.lines k) n m
      → Notes notes (stretch f.rules (p ++ (front ++ rest)) f.lines k) n m
  Notes-header f g p front rest k n m first few under reads later =
      let now = Notes-first _ _ ((p ++ front) ++ rest) f.lines g.lines n n first few (Counts-front g (p ++ front) rest
      reads).counted.good refl in
      let all = More-then notes over-reported now later in
      rw (under, append_assoc p front rest) at all

  -- what is reported of the begun line, by its result
  one-noted : (f : Reading) (p : List ℕ) (lf : Bool) (n m : N) → Reads f p
      → Took notes n (reports_of (f.lines + 1) (begun_verdict f)) m
      → Took notes n (reported_of (ruling_after f.rules (map ended_line (closed p))
      (record { content = begun p; lf = lf }) ∷ [])) m
  one-noted f p lf n m reads noted =
      let at : f.lines + 1 ≡ length (map ended_line (closed p)) + 1 =
      omega (arith, length-map_lines) in
      let now = rw (said-verdict f (begun p) reads.begun ∙ next-verdict f p reads (begun p), at) at noted in
      rw (append-nil (reports_of (length (map ended_line (closed p)) + 1)
      (verdict f.rules (map ended_line (closed p)) (begun p)))) now

  -- a part and an LF
  pub Notes-line : (f g h : Reading) (p part more : List ℕ) (n m : N) → Reads f p → NoLf part → Stores f part g
      → h.lines ≡ g.lines + 1
      → Took notes n (reports_of (g.lines + 1) (begun_verdict g)) m
      → Notes notes (stretch f.rules (p ++ (part ++ 10 ∷ more)) f.lines h.lines) n m
  Notes-line f g h p part more n m reads free st one noted =
      let q = p ++ part in
      let now = Reads-stored f g p part reads st free in
      let count : h.lines ≡ length (closed ((p ++ part) ++ 10 ∷ [])) =
      rw (closed-lf (p ++ part) [])
      (omega (arith, one, now.lines, length-append (closed (p ++ part)) (begun (p ++ part) ∷ []))) in
      let ended : map ended_line (closed ((p ++ part) ++ 10 ∷ []))
      ≡ map ended_line (closed (p ++ part)) ++ ended_line (begun (p ++ part)) ∷ [] =
      ap (map ended_line) (closed-lf q []) ∙ map_lines-append (closed q) (begun q ∷ []) in
      let all = lines-front h.lines (q ++ 10 ∷ []) more count ∙ ended in
      let k = More-line notes over-reported g.rules (q ++ 10 ∷ more) g.lines h.lines (map ended_line (closed q))
      (ended_line (begun q)) n m (lines-front g.lines q (10 ∷ more) now.lines)
      (rw (append_assoc (p ++ part) (10 ∷ []) more) at all) (one-noted g q true n m now noted) in
      rw (st.rules, st.lines, append_assoc p part (10 ∷ more)) at k

  -- a last line
  pub Notes-last : (f g : Reading) (p : List ℕ) (n m : N) → Reads f p → 0 < length (begun p) → g.lines ≡ f.lines + 1
      → Took notes n (reports_of (f.lines + 1) (begun_verdict f)) m
      → Notes notes (stretch f.rules p f.lines g.lines) n m
  Notes-last f g p n m reads some one noted =
      More-line _ over-reported _ p _ _ _ _ n m
      (take-closed p _ reads.lines) (take-last p _ (omega arith) some)
      (one-noted f p false n m reads noted)

  -- what came of a last line
  pub Notes-finished : {S : Type 0} (law : SinkContract S) (on : Bool) (v : Verdict) (i : Item) (f g : Reading)
      (s t : S)
      (p : List ℕ) (n m : N) (r : Result (Unit {0}) End)
      → Reads f p → 0 < length (begun p) → Handles law (JudgedAs (f.lines + 1) on v i) (with_sink f s) r (with_sink g t)
      → OnOk r (g.lines ≡ f.lines + 1)
      → OnOk r (Took notes n (reports_of (f.lines + 1) (begun_verdict f)) m) → OnErr r (m ≡ n)
      → Notes notes (stretch f.rules p f.lines g.lines) n m
  Notes-finished law on v i f g s t p n m (Ok x) reads some d one noted silent = Notes-last f g p n m reads some one
      noted
  Notes-finished law on v i f g s t p n m (Err e) reads some d one noted silent =
      Notes-none _ _ p _ _ n m (handled-err law _ v i f g s t e d) silent

-- a run by what was noted of its lines
pub Noting-said : {N : Type 0} (notes : N → Report → N → Type 0) (run : Run) (at_end : Type 0) (n m : N)
    → Account run at_end → (run.outcome.ended ≡ Memory → run.outcome.lines ≡ 0)
    → Notes notes (stretch run.rules run.read 0 run.outcome.lines) n m → RunsNoting notes run n m
Noting-said notes run at_end n m account none a = record {
  reports = a;
  noted = NotesRun-said _ run.rules run.read at_end _ n m account.counts.counted.good a
      _ account.ends none;
}

-- a run by what both sinks took of its lines
pub Both-said : {S N : Type 0} (law : SinkContract S) (notes : N → Report → N → Type 0) (run : Run) (at_end : Type 0)
    (s t : S) (n m : N) → Account run at_end → (run.outcome.ended ≡ Memory → run.outcome.lines ≡ 0)
    → Delivers law (stretch run.rules run.read 0 run.outcome.lines) s t (Some run.outcome.ended)
    → Notes notes (stretch run.rules run.read 0 run.outcome.lines) n m
    → Runs law run at_end s t × RunsNoting notes run n m
Both-said law notes run at_end s t n m account none sink reports =
    (Runs-said _ _ _ s t account sink, Noting-said _ _ _ n m account none reports)

-- a run that is left between two pieces, with an end that keeps the sink as it is
pub Both-left : {S N : Type 0} (law : SinkContract S) (notes : N → Report → N → Type 0) (e : EngineState)
    (rules : Rules)
    (r : List ℕ) (at_end : Type 0) (s t : S) (n m : N) (end : End) → rules_of e ≡ rules → (end ≡ Complete → ⊥)
    → (end ≡ Memory → ⊥) → Ends (rules_of e) r (lines_of e) at_end end
    → ((m u : S) → u ≡ m → Faults law (up_to rules r (lines_of e)) m u (Some end)) → StandsFor e r
    → Delivers law (stretch rules r 0 (lines_of e)) s t None → Notes notes (stretch rules r 0 (lines_of e)) n m
    → Runs law (record { rules = rules; read = r; outcome = outcome_of e end }) at_end s t
    × RunsNoting notes (record { rules = rules; read = r; outcome = outcome_of e end }) n m
Both-left law notes e rules r at_end s t n m end under unended granted ends still stands sink reports =
    Both-said _ _ _ _ s t n m
    (record {
      bounded = rw under at stands.bounded;
      exact = λ x. absurd (unended x);
      counts = rw under at stands.counts;
      ends = rw under at ends;
    })
    (λ lacks. absurd (granted lacks)) (Delivers-ended _ _ r _ s t _ still sink) reports

-- a list of reports is collected one by one
Collects-all : (xs ys : List Report) → Took Collects xs ys (xs ++ ys)
Collects-all xs [] = append-nil xs
Collects-all xs (y ∷ ys) =
    (xs ++ y ∷ [], refl, (let k = Collects-all (xs ++ y ∷ []) ys in rw (append_assoc xs (y ∷ []) ys) at k))

pub Noting-collected : (run : Run) (at_end : Type 0) → Account run at_end
    → (run.outcome.ended ≡ Memory → run.outcome.lines ≡ 0)
    → RunsNoting Collects run [] (reported_first run.rules run.outcome.lines run.read)
Noting-collected run at_end account none =
    Noting-said _ _ _ _ _ account none (record {
      done = rulings_first run.rules run.outcome.lines run.read;
      grown = refl;
      took = Collects-all _ _;
    })

-- what is not reported of all lines is not of the first
empty-front : (xs ys : List Report) → [] ≡ xs ++ ys → xs ≡ []
empty-front [] ys h = refl
empty-front (x ∷ xs) ys h = cc

pub first-silent : (rules : Rules) (n : ℕ) (r : List ℕ) → reported rules r ≡ []
    → refusal_in rules (take n (lines r)) ≡ None → reported_first rules n r ≡ []
first-silent rules n r none good_first =
    empty-front _ _
    (sym none ∙ ap reported_of (first-split _ n r good_first) ∙ over-reported.both (rulings_first rules n r) _)

-- a run that was refused its memory before the first read
pub Noting-memory : {N : Type 0} (notes : N → Report → N → Type 0) (rules : Rules) (n : N)
    → RunsNoting notes (record {
      rules = rules;
      read = [];
      outcome = record {
        lines = 0;
        kept = 0;
        refused = 0;
        peaks = record { bytes = 0; tokens = 0; depth = 0 };
        ended = Memory;
      };
    }) n n
Noting-memory notes rules n = record { reports = Notes-none _ rules [] 0 0 n n refl refl; noted = refl }

-- memory was refused: nothing was noted
pub noted-none : {N : Type 0} (notes : N → Report → N → Type 0) (rules : Rules) (r : List ℕ) (n m : N) (e : End)
    → e ≡ Memory → NotesRun notes (stream_of rules r) e n m → m ≡ n
noted-none notes rules r n m e is h = rw is at h

-- ---- pieces that were given one after another, to an engine or to a reader of lines, until it ended

-- after the first lines of a stream, so many, which are those of p
module _ {S N : Type 0} (law : SinkContract S) (notes : N → Report → N → Type 0) (rules : Rules) (p : List ℕ)
    (first : ℕ)
    (pieces : List (List ℕ)) where
  -- so many of the pieces were given, and none of them ended it
  pub record IsGiven (k : ℕ) (e : EngineState) (s t : S) (n m : N) : Type 0 where
    pub behind : first ≡ length (closed p)
    pub going : e.ended ≡ None
    pub under : rules_of e ≡ rules
    pub stands : StandsFor e (p ++ joined (take k pieces))
    pub took : Delivers law (stretch rules (p ++ joined (take k pieces)) first (lines_of e)) s t None
    pub noted : Notes notes (stretch rules (p ++ joined (take k pieces)) first (lines_of e)) n m

  -- it was given pieces until it ended, so many of which were wholly taken
  pub record IsGivenAll (o : PiecesOutcome) (e : EngineState) (s t : S) (n m : N) : Type 0 where
    pub fed : Fed rules p pieces o e
    pub ends : Ends rules (p ++ joined (take (o.taken + 1) pieces)) (lines_of e)
        (joined (take (o.taken + 1) pieces) ≡ joined pieces) o.ended
    pub taken : TookWhole law (given_after p first (in_pieces rules pieces o.taken) (lines_of e)) s t o.ended
    pub noted : Notes notes (stretch rules (p ++ joined (take (o.taken + 1) pieces)) first (lines_of e)) n m

  pub Given-none : (e : EngineState) (s : S) (n : N) → e.ended ≡ None → rules_of e ≡ rules → lines_of e ≡ first
      → StandsFor e p → IsGiven 0 e s s n n
  Given-none e s n going under none st = record {
    behind = sym none ∙ (st.going going).0.lines;
    going = going;
    under = under;
    stands = rw (append-nil p) st;
    took = record {
      middle = s;
      took = More-none _ over-kept _ _ s s (ap (λ k. rulings_first rules k (p ++ [])) none) refl;
      fault = refl;
    };
    noted = Notes-none _ rules (p ++ []) _ _ n n none refl;
  }

  module _ {k : ℕ} {e : EngineState} {s t : S} {n m : N} (given : IsGiven k e s t n m) where
    no_refusal : refusal_in rules (judged rules.limits (p ++ joined (take k pieces))) ≡ None
    no_refusal =
        let st = given.stands.going given.going in
        let z = (Going-reads e _ st.0 st.1).good in
        rw given.under at z

    -- the next piece
    module _ (piece : List ℕ) (next : joined (take (k + 1) pieces) ≡ joined (take k pieces) ++ piece)
        (f : EngineState) (u : S) (l : N)
        (reports : (q : List ℕ) → StandsFor e q → e.ended ≡ None
        → Notes notes (stretch (rules_of e) (q ++ piece) (lines_of e) (lines_of f)) m l) where
      text : (p ++ joined (take k pieces)) ++ piece ≡ p ++ joined (take (k + 1) pieces)
      text = append_assoc p (joined (take k pieces)) piece ∙ ap (λ z. p ++ z) (sym next)

      read : lines_of e ≡ length (closed (p ++ joined (take k pieces)))
      read = (given.stands.going given.going).0.lines

      -- of the lines so far the same is said
      start : rulings_first rules first (p ++ joined (take (k + 1) pieces))
          ≡ rulings_first rules first (p ++ joined (take k pieces))
      start = first-either _ _ p _ _ given.behind

      same : rulings_first rules (lines_of e) (p ++ joined (take (k + 1) pieces))
          ≡ rulings_first rules (lines_of e) (p ++ joined (take k pieces))
      same = let z = first-same rules _ (p ++ joined (take k pieces)) piece read in rw text at z

      noted : Notes notes (stretch rules (p ++ joined (take (k + 1) pieces)) first (lines_of f)) n l
      noted =
          More-then _ over-reported (More-over _ over-reported start same given.noted)
          (rw (text, given.under) at (reports (p ++ joined (take k pieces)) given.stands given.going))

      pub Given-next : Feeds law piece (with_sink e t) (Ok tt) (with_sink f u) → IsGiven (k + 1) f s u n l
      Given-next feeds = record {
        behind = given.behind;
        going = feeds.unended;
        under = feeds.rules ∙ given.under;
        stands = rw (given.going, text) at (feeds.stands (p ++ joined (take k pieces)) given.stands);
        took =
            Delivers-join start same given.took (rw (text, given.under, feeds.unended) at
            (feeds.sink (p ++ joined (take k pieces)) given.stands given.going));
        noted = noted;
      }

      pub Given-fed : (x : End) → k ≤ length pieces → f.taken ≡ e.taken
          → Feeds law piece (with_sink e t) (Err x) (with_sink f u)
          → IsGivenAll (record { taken = k; peaks = peaks_of f; ended = x }) f s u n l
      Given-fed x few taken feeds =
          let q = p ++ joined (take k pieces) in
          let st = given.stands.going given.going in
          let after = p ++ joined (take (k + 1) pieces) in
          let said = rw (text, given.under) at (feeds.said q given.stands given.going) in
          let stands = rw (given.going, text) at (feeds.stands q given.stands) in
          record {
            fed = record {
              under = feeds.rules ∙ given.under;
              ended = feeds.ended;
              few = few;
              good = no_refusal;
              at = EndsAt-said _ p _ k _ x said;
              used = taken ∙ st.2;
              counts = rw (feeds.rules, given.under) at stands.counts;
              memory = λ h.
                  rw (text, given.under) at (feeds.memory q given.stands given.going (ap Err h)).0;
              peaks = refl;
              held = stands.held;
              bounded = rw (feeds.rules, given.under) at stands.bounded;
              least = rw (text, given.under) at (feeds.least q given.stands given.going);
              exact = λ h. absurd (said-not_complete rules after (lines_of f) x said h);
            };
            ends = Ends-fed rules after (lines_of f) (joined (take (k + 1) pieces) ≡ joined pieces) x said;
            taken =
                TookWhole-left _ e _ p _ _ k _ s t u x given.under st.0 given.took
                (rw (text, given.under, feeds.ended) at (feeds.sink q given.stands given.going));
            noted = noted;
          }

    -- the end, after all pieces
    pub Given-finished : (i : ℕ) (x : End) (f : EngineState) (u : S) (l : N) → k ≡ i → i ≡ length pieces
        → f.taken ≡ e.taken
        → ((q : List ℕ) → StandsFor e q → e.ended ≡ None
        → Notes notes (stretch (rules_of e) q (lines_of e) (lines_of f)) m l)
        → IsFinished law (with_sink e t) x (with_sink f u)
        → IsGivenAll (record { taken = i; peaks = peaks_of f; ended = x }) f s u n l
    Given-finished i x f u l all_given all_pieces taken reports finished =
        let last : k ≡ length pieces = all_given ∙ all_pieces in
        let q = p ++ joined (take k pieces) in
        let after = p ++ joined (take (k + 1) pieces) in
        let st = given.stands.going given.going in
        let all = joined-all k pieces (omega (arith, last)) in
        let given_all = joined-all (k + 1) pieces (omega (arith, last)) in
        let same : joined (take k pieces) ≡ joined (take (k + 1) pieces) = all ∙ sym given_all in
        let concludes = let z = finished.concludes q given.stands given.going in rw (same, given.under) at z in
        let stands = let z = finished.stands q given.stands in rw same at z in
        rw (← all_given) (record {
          fed = record {
            under = finished.rules ∙ given.under;
            ended = finished.ended;
            few = omega (arith, last);
            good = no_refusal;
            at = EndsAt-concludes rules p pieces k after (lines_of f) x last concludes;
            used = taken ∙ st.2;
            counts = let z = stands.counts in rw (finished.rules, given.under) at z;
            memory = λ h. absurd (finished.memory given.going h);
            peaks = refl;
            held = stands.held;
            bounded = let z = stands.bounded in rw (finished.rules, given.under) at z;
            least = let z = finished.least q given.stands given.going in rw (same, given.under) at z;
            exact = λ h. let z = finished.exact q given.stands given.going h in rw (all, given.under) at z;
          };
          ends = Ends-finished rules after (lines_of f) (joined (take (k + 1) pieces) ≡ joined pieces) x given_all
              concludes;
          taken =
              let z = finished.sink q given.stands given.going in
              TookWhole-left law e rules p first pieces k (lines_of f) s t u x given.under st.0 given.took
              (rw (same, given.under, finished.ended) at z);
          noted =
              let z = reports q given.stands given.going in
              let w = More-then notes over-reported given.noted (rw given.under at z) in
              rw same at w;
        })
