-- A header and a part as one text, and what a call answers of it.
use Rattle.cityseq_c.proofs.Common.{AreCut, Complete, Counts, CountsAll, Delivers, End, Ends, Holds, IsBounded, IsJudged, IsUnhindered, Judged, Line, List, NoLf, Noted, Outcome, Peaks, PutsPieces, Rules, SinkContract, Some, CReport, Took, [], add-one, ap, append-nil, append_assoc, arith, ended_line, ending, flat_map, in_pieces, joined, kept, length, lent, lines, raw, slice_get, stream_of, subst, suc, sym, take, take-append-le, take-nil, zero, ℕ, ◌++◌, ◌+◌, ◌∙◌, ◌∷◌, ◌≡◌, ◌≢◌, ◌≤◌, ◌⊎◌, rules, Answer, Copied, DeclinesCall, HasRisen, IfErr, IfOk, IsAsked, NotJudged, OnErr, OnOk, Request, Result, WriteFault, false, is_ok}
use Rattle.cj_budget.specs.Meaning.Limits.{LimitPair}
use Rattle.cj_stream.specs.declared.ending.End.TheVariants.{Memory}
use Rattle.cj_stream.specs.Bound.{IsBelow, IsExact, exact_peaks, first_lines}
use Rattle.cj_stream.specs.Parts.{headed}
use Rattle.cj_stream.proofs.LineLemmas.{first-length}
use Rattle.cj_stream.specs.ReportSink.{Notes}
use Rattle.cj_stream.specs.Verdict.{good, reported, reported_first, reported_from, stretch}
use Rattle.cj_stream.proofs.PartsLemmas.{first-headed, lines-headed}
use Rattle.cityseq_c.specs.ReportSlice.{count_of, noted_loan, noted_room, noted_text, NotesOne}
use Rattle.cityseq_c.proofs.RoomLemmas.{all-held}
use Rattle.cj_stream.proofs.TookLemmas.{More-all, over-kept, over-reported}
use Rattle.cityseq_c.specs.Answer.{answer_to, not_judged}
use Rattle.cityseq_c.specs.Called.{Filters, Goes, IsUnjudged, call}

-- ---- a header and a part are one text, of which an engine was given the header, or all

-- all was given, or a header that LF ended, behind which the part comes
abbrev IsGiven : List ℕ → List ℕ → List ℕ → Type 0
IsGiven header part given = (given ≡ header ++ part)
    ⊎ ((h : List ℕ) × NoLf h × (given ≡ headed h []) × (header ++ part ≡ headed h part))

pub all-joined : (header part : List ℕ) → joined (header ∷ part ∷ []) ≡ header ++ part
all-joined header part = grind (arith, append-nil)

module _ (header part : List ℕ) (cut : AreCut header part) where
  given-taken : (k : ℕ) → IsGiven header part (joined (take (k + 1) (header ∷ part ∷ [])))
  given-taken zero = grind (arith, append_assoc, append-nil, add-one, take-nil, all-joined)
  given-taken (suc k) = grind (arith, add-one, take-nil, all-joined)

  -- what holds of what was given holds of the text, if it goes on from a header to a part behind it
  over-text : (P : List ℕ → Type 0) (k : ℕ) → ((h : List ℕ) → NoLf h → P (headed h []) → P (headed h part))
      → P (joined (take (k + 1) (header ∷ part ∷ []))) → P (header ++ part)
  over-text P k step x = grind (arith, given-taken)

-- ---- from a header to a part behind it

next-same : (x l : Line) (xs : List Line) (n : ℕ) → slice_get (x ∷ []) n ≡ Some l → slice_get (x ∷ xs) n ≡ Some l
next-same x l xs n h = grind arith

module _ (rules : Rules) (h part : List ℕ) (free : NoLf h) (n : ℕ) (few : n ≤ length (lines (headed h []))) where
  front : lines (headed h []) ≡ ended_line h ∷ []
  front = lines-headed h [] free

  all : lines (headed h part) ≡ ended_line h ∷ lines part
  all = lines-headed h part free

  first-same : take n (lines (headed h part)) ≡ take n (lines (headed h []))
  first-same =
      grind (arith, lines-headed, take-append-le)

  counts-more : (f k : ℕ) → Counts rules (headed h []) n f k → Counts rules (headed h part) n f k
  counts-more f k x = grind (arith, lines-headed, all-joined, take-append-le)

  module _ {S : Type 0} (law : SinkContract S) where
    delivers-more : (s t : S) (e : End) → Delivers law (stretch rules (headed h []) 0 n) s t (Some e)
        → Delivers law (stretch rules (headed h part) 0 n) s t (Some e)
    delivers-more s t e x = grind (arith, over-kept, first-same, all, next-same, front)

bounded-more : (limits : LimitPair) (h part : List ℕ) (peaks : Peaks) → NoLf h → IsBounded limits (headed h []) peaks
    → IsBounded limits (headed h part) peaks
bounded-more limits h part peaks free x =
    let same = first-length (headed h []) ∙ ap length (first-headed h [] free) in
    let more = first-length (headed h part) ∙ ap length (first-headed h part free) in
    record {
      bytes = rw more (let y = x.bytes in rw same at y);
      tokens = rw more (let y = x.tokens in rw same at y);
      depth = x.depth;
    }

module _ {S : Type 0} (law : SinkContract S) (rules : Rules) (n f r : ℕ) (peaks : Peaks) (e : End) (s t : S)
    (a b : Noted) where
  -- what comes of the first n lines of what was given
  record OfFirst (q : List ℕ) : Type 0 where
    bounded : IsBounded rules.limits q peaks
    least : IsBelow (exact_peaks rules.limits (first_lines n q)) peaks
    counts : Counts rules q n f r
    delivers : Delivers law (stretch rules q 0 n) s t (Some e)
    noted : Took NotesOne a (reported_first rules n q) b

  first-more : (h part : List ℕ) → NoLf h → OfFirst (headed h []) → OfFirst (headed h part)
  first-more h part free x =
      let few = x.counts.few in
      record {
        bounded = bounded-more rules.limits h part peaks free x.bounded;
        least = subst (λ (ls : List Line). IsBelow (exact_peaks rules.limits (flat_map raw ls)) peaks)
            (sym (first-same rules h part free n few)) x.least;
        counts = counts-more rules h part free n few f r x.counts;
        delivers = delivers-more rules h part free n few law s t e x.delivers;
        noted = subst (λ z. Took NotesOne a z b)
            (ap (λ z. reported_from rules [] z) (sym (first-same rules h part free n few))) x.noted;
      }

  first-text : (header part : List ℕ) → AreCut header part → (k : ℕ)
      → OfFirst (joined (take (k + 1) (header ∷ part ∷ []))) → OfFirst (header ++ part)
  first-text header part cut k = over-text header part cut OfFirst k (λ h. first-more h part)

-- ---- how it ended

module _ {S : Type 0} (law : SinkContract S) (rules : Rules) (pieces : List (List ℕ)) (k : ℕ) (s t : S) where
  -- without a hindrance the end and what the sink took are those of the whole
  put-all : (e : End) → PutsPieces law (in_pieces rules pieces k) e s t → IsUnhindered e
      → (e ≡ ending rules (joined pieces)) × Took law.takes s (kept rules (joined pieces)) t
  put-all e h free = grind arith

ends-all : (rules : Rules) (text : List ℕ) (n : ℕ) (e : End) → IsJudged e → (IsUnhindered e → e ≡ ending rules text)
    → (IsUnhindered e → n ≡ length (good rules text)) → Ends rules text n (Unit {0}) e
ends-all rules text n e judged ends count = grind (arith, all-joined, judged)

module _ {S : Type 0} (law : SinkContract S) (rules : Rules) (header part : List ℕ) (cut : AreCut header part) (k : ℕ)
    (s t : S) (a b : Noted) (o : Outcome) (old new : List CReport)
    (granted : o.ended ≢ Memory) (puts : PutsPieces law (in_pieces rules (header ∷ part ∷ []) k) o.ended s t)
    (counts_all : IsUnhindered o.ended → CountsAll rules (joined (header ∷ part ∷ [])) o)
    (exact_all : o.ended ≡ Complete → IsExact rules.limits (joined (header ∷ part ∷ [])) o.peaks)
    (bounded : IsBounded rules.limits (joined (take (k + 1) (header ∷ part ∷ []))) o.peaks)
    (least : IsBelow
    (exact_peaks rules.limits (first_lines o.lines (joined (take (k + 1) (header ∷ part ∷ []))))) o.peaks)
    (counts : Counts rules (joined (take (k + 1) (header ∷ part ∷ []))) o.lines o.kept o.refused)
    (delivers : Delivers law (stretch rules (joined (take (k + 1) (header ∷ part ∷ []))) 0 o.lines) s t (Some o.ended))
    (notes : Notes NotesOne (stretch rules (joined (take (k + 1) (header ∷ part ∷ []))) 0 o.lines) a b)
    (good_reported : (r : List ℕ) (n : ℕ) → n ≡ length (good rules r) → reported_first rules n r ≡ reported rules r)
    (over : noted_text a ≡ header ++ part) (none : count_of a ≡ 0) (loan : noted_room a ≡ old)
    (back : noted_loan b ≡ noted_loan a → new ≡ noted_room b) where
  whole : joined (header ∷ part ∷ []) ≡ header ++ part
  whole = all-joined header part

  of_first : OfFirst law rules o.lines o.kept o.refused o.peaks o.ended s t a b (header ++ part)
  of_first = first-text law rules o.lines o.kept o.refused o.peaks o.ended s t a b header part cut k (record {
    bounded = bounded;
    least = least;
    counts = counts;
    delivers = delivers;
    noted = More-all NotesOne over-reported notes;
  })

  judged-end : IsJudged o.ended
  judged-end = grind arith

  ends : IsUnhindered o.ended → o.ended ≡ ending rules (header ++ part)
  ends free = grind (arith, all-joined)

  counted : IsUnhindered o.ended → CountsAll rules (header ++ part) o
  counted free = grind (arith, all-joined)

  pub judged : Judged law (stream_of rules (header ++ part)) o (lent s old) (lent t new)
  judged =
      let first = all-held a b (reported_first rules o.lines (header ++ part)) none of_first.noted in
      let held : Holds (header ++ part) (reported_first rules o.lines (header ++ part)) old new =
      subst (λ z. Holds z (reported_first rules o.lines (header ++ part)) old new) over
      (rw (back first.0, ← loan) first.1) in
      record {
        answers = record {
          judged = judged-end;
          account = record {
            bounded = of_first.bounded;
            exact = λ is. subst (λ z. IsExact rules.limits z o.peaks) whole (exact_all is);
            counts = of_first.counts;
            ends = ends-all rules (header ++ part) o.lines o.ended judged-end ends (λ free. (counted free).lines);
          };
          ends = ends;
          counts = counted;
          reports = λ free. subst (λ z. Holds (header ++ part) z old new)
              (good_reported (header ++ part) o.lines (counted free).lines) held;
          first = held;
          least = of_first.least;
        };
        took = λ free. subst (λ z. Took law.takes s (kept rules z) t) whole
            (put-all law rules (header ∷ part ∷ []) k s t o.ended puts free).1;
        delivers = of_first.delivers;
      }

-- ---- what a call answers, by how its stream was judged

module _ {S : Type 0} (law : SinkContract S) (r : Request) (header part : List ℕ) (s t : S)
    (old new : List CReport) where
  abbrev WasJudged : Rules → Outcome → Type 0
  WasJudged rules o = Judged law (stream_of rules (header ++ part)) o (lent s old) (lent t new)

  abbrev WasAsked : Result Outcome NotJudged → Type 0
  WasAsked went = IfOk went (λ o. (rules : Rules) × IsAsked r rules × WasJudged rules o)

  pub goes : (also : Rules → Outcome → Type 0) → ((rules : Rules) (o : Outcome) → WasJudged rules o → also rules o)
      → (went : Result Outcome NotJudged) → WasAsked went → IfErr went (DeclinesCall r header part) → OnErr went
      ((t ≡ s) × (new ≡ old))
      → Goes (call r header part old new) also went
  goes also gives went ok declined unread = grind arith

  -- the same where more is known of a call that was judged
  pub goes-known : (Known : Type 0) (also : Rules → Outcome → Type 0) → (Known → (rules : Rules) (o : Outcome)
      → WasJudged rules o → also rules o) → (went : Result Outcome NotJudged) → OnOk went Known → WasAsked went
      → IfErr went (DeclinesCall r header part) → OnErr went ((t ≡ s) × (new ≡ old))
      → Goes (call r header part old new) also went
  goes-known Known also gives went known ok declined unread = grind arith

  -- where nothing was judged the answer is a status and a code alone, and all is as it was
  pub unjudged : (went : Result Outcome NotJudged) (answer : Answer) (written : ℕ) → answer ≡ answer_to r went written
      → WasAsked went → OnErr went ((t ≡ s) × (new ≡ old))
      → IsUnjudged answer → (answer ≡ not_judged answer.status answer.code answer.list answer.item) × (new ≡ old)
      × (t ≡ s)
  unjudged went answer written is ok unread which = grind arith

-- what is known where a call was judged, and nothing else
pub known-ok : (Known : Type 0) (went : Result Outcome NotJudged) → Known → OnOk went Known
known-ok Known went known = grind arith

pub unknown-err : (Known : Type 0) (went : Result Outcome NotJudged) → is_ok went ≡ false → OnOk went Known
unknown-err Known went other = grind arith

-- an answer says how many bytes were written
shown-written : (r : Request) (went : Result Outcome NotJudged) (answer : Answer) (written : ℕ)
    → answer ≡ answer_to r went written → answer ≡ answer_to r went answer.written
shown-written r went answer written is = grind arith

-- what else comes of a call that was judged counts for what it says
module _ (r : Request) (header part : List ℕ) (old new : List CReport) (before after : List ℕ) (written : ℕ)
    (answer : Answer) where
  abbrev GoesCopied : ℕ → Result Outcome NotJudged → Type 0
  GoesCopied n went =
      Goes (call r header part old new) (λ rules o. Copied rules (header ++ part) before after n o) went

  goes-shown : (went : Result Outcome NotJudged) → answer ≡ answer_to r went written → GoesCopied written went
      → GoesCopied answer.written went
  goes-shown went is h = grind arith

  pub filters : (went : Result Outcome NotJudged) → answer ≡ answer_to r went written → GoesCopied written went
      → Filters (call r header part old new) before after answer
  filters went is h = record {
    went = went;
    goes = goes-shown went is h;
    shown = shown-written r went answer written is;
  }

-- ---- a sink that never fails

-- so no call over it answers that an output does not fit
pub never-full : (r : Request) (went : Result Outcome NotJudged) (answer : Answer) (written : ℕ)
    → answer ≡ answer_to r went written → IfOk went (λ o. o.ended ≡ WriteFault → HasRisen 0 0) → answer.status ≡ 4 → ⊥
never-full r went answer written is cause full = grind arith
