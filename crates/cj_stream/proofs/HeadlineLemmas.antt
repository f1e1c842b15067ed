-- What the headline says, by what a run says, and by what pieces say.
use Rattle.cj_stream.proofs.Common.{Account, Appends, BeginsWell, Channel, Complete, Copies, End, Ends, Fate, HasRisen, Headline, IsBounded, IsExact, IsUnhindered, IsUnread, Keeps, Kept, LacksMemory, Line, List, Memory, NotesPieces, NotesRun, Option, Outputs, Peaks, ReadFault, ReadLimit, Refused, RefusedMemory, Report, Rules, Run, SinkContract, Some, Took, WriteFault, [], ap, append-nil, arith, begun, closed, ended_line, ending, in_pieces, inl, inr, joined, judged, judged_lines, judged_list, last_line, lines, map, output, outputs, refl, refusal_in, reported, slice_get, stream_of, subst, sym, verdict, ℕ, ◌++◌, ◌∙◌, ◌∷◌, ◌≡◌, ◌⊎◌, nat_tests}
use Rattle.cj_stream.specs.Run.{fate_of, HeadlineOfRun, LacksRoom, Runs, Writes}
use Rattle.cj_stream.specs.Meaning.Judged.{output_in, reported_in, ending_in}
use Rattle.cj_stream.proofs.AgreeLemmas.{ending-in, output-in, reported-in, HasPeaks-exact, IsExact-peaks}
use Rattle.cj_stream.proofs.CutLemmas.{refused-more}
use Rattle.cj_stream.proofs.JudgedLemmas.{list-are, list-only}
use Rattle.cj_stream.proofs.LineLemmas.{closed-then, lines-cut}
use Rattle.cj_stream.proofs.NoteLemmas.{noted-none}
use Rattle.cj_stream.proofs.OutputLemmas.{memory-sink}
use Rattle.cj_stream.proofs.VerdictLemmas.{verdict-first}

module _ (rules : Rules) (pieces : List (List ℕ)) (n : ℕ) (old new : Option (List ℕ)) where
  pub Copies-writes : (e : End) → Copies (in_pieces rules pieces n) e old new → IsUnhindered e
      → Appends old new (output rules (joined pieces))
  Copies-writes ReadFault h u = absurd h
  Copies-writes ReadLimit h u = absurd h
  Copies-writes WriteFault h u = absurd u
  Copies-writes Memory h u = absurd u
  Copies-writes other h u = h.1

  pub Copies-ends : (e : End) → Copies (in_pieces rules pieces n) e old new → IsUnhindered e
      → e ≡ ending rules (joined pieces)
  Copies-ends ReadFault h u = absurd h
  Copies-ends ReadLimit h u = absurd h
  Copies-ends WriteFault h u = absurd u
  Copies-ends Memory h u = absurd u
  Copies-ends other h u = sym h.0

-- ---- the first line, where memory was refused

-- a first line that LF ended is that of all that begins so
first-stays : (r more c : List ℕ) → slice_get (lines r) 0 ≡ Some (ended_line c)
    → slice_get (lines (r ++ more)) 0 ≡ Some (ended_line c)
first-stays r more c h =
    rw (lines-cut, closed-then)
    (go (closed r) (begun r) (closed (begun r ++ more)) (begun (r ++ more)) (rw (lines-cut r) at h))
  where
    go : (cs : List (List ℕ)) (b : List ℕ) (ds : List (List ℕ)) (d : List ℕ)
        → slice_get (map ended_line cs ++ last_line b) 0 ≡ Some (ended_line c)
        → slice_get (map ended_line (cs ++ ds) ++ last_line d) 0 ≡ Some (ended_line c)
    go [] [] ds d h = cc
    go [] (b ∷ s) ds d h = grind arith
    go (x ∷ cs) b ds d h = h

begins-list : (rules : Rules) (ls : List Line) (c : List ℕ) → slice_get ls 0 ≡ Some (ended_line c)
    → verdict rules [] c ≡ Kept → BeginsWell (judged_list rules ls)
begins-list rules [] c h v = cc
begins-list rules (l ∷ ls) c h v =
    let same : l ≡ ended_line c = grind arith in
    rw same (verdict-first _ _ _ c ∙ v, refl)

pub begins-well : (rules : Rules) (r more : List ℕ) (n : ℕ) → LacksMemory rules r n
    → BeginsWell (judged_lines rules (r ++ more))
begins-well rules r more n lacks =
    begins-list _ _ _ (first-stays r _ _ lacks.first) lacks.valid

-- ---- the headline, by what is told of a stream

module _ {N : Type 0} (notes : N → Report → N → Type 0) (rules : Rules) (text given : List ℕ) (e : End) (peaks : Peaks)
    (old new : Outputs N) where
  pub Headline-said : (IsUnhindered e → Appends old.bytes new.bytes (output rules text))
      → (IsUnhindered e → Took notes old.reports (reported rules text) new.reports)
      → (IsUnhindered e → e ≡ ending rules text)
      → (e ≡ WriteFault → HasRisen old.failures new.failures)
      → (e ≡ Memory → RefusedMemory (judged_lines rules text) old new)
      → IsBounded rules.limits given peaks
      → (e ≡ Complete → IsExact rules.limits text peaks)
      → Headline notes (fate_of rules text given e peaks) old new
  Headline-said writes gives ends cause memory held exact = record {
    js = judged_lines rules text;
    judged = list-are _ _;
    writes = λ u. rw (output-in rules text) at (writes u);
    gives = λ u. rw (reported-in rules text) at (gives u);
    ends = λ u. ends u ∙ ending-in rules text;
    cause = cause;
    memory = memory;
    held = held;
    exact = λ c. HasPeaks-exact _ _ _ (sym (ends (rw c tt)) ∙ c) (exact c);
  }

module _ {N : Type 0} (notes : N → Report → N → Type 0) (a b : N) (rules : Rules) (r : List ℕ) (at_end : Type 0) (n : ℕ)
    (peaks : Peaks) (bounded : IsBounded rules.limits r peaks) where
  -- a run whose end is that of each text that begins so
  said : (e : End) (old new : Channel) (rest : List ℕ) → (e ≡ ending rules (r ++ rest))
      → Appends old.bytes new.bytes (output rules (r ++ rest)) → Took notes a (reported rules (r ++ rest)) b
      → (e ≡ WriteFault → HasRisen old.failures new.failures) → (e ≡ Memory → ⊥)
      → (e ≡ Complete → IsExact rules.limits (r ++ rest) peaks)
      → Headline notes (fate_of rules (r ++ rest) r e peaks) (outputs old a) (outputs new b)
  said e old new rest ends writes gives cause granted exact =
      Headline-said _ _ _ r e _ _ _ (λ u. writes) (λ u. gives)
      (λ u. ends) cause (λ m. absurd (granted m)) bounded exact

  -- what a run over a writer says is the headline, by its end
  ended : (e : End) (old new : Channel) → Ends rules r n at_end e → (e ≡ Complete → IsExact rules.limits r peaks)
      → Writes (stream_of rules r) e old.bytes new.bytes → NotesRun notes (stream_of rules r) e a b
      → (e ≡ WriteFault → HasRisen old.failures new.failures)
      → (rest : List ℕ) → (e ≡ Memory → RefusedMemory (judged_lines rules (r ++ rest)) (outputs old a) (outputs new b))
      → (at_end → rest ≡ []) → IsUnread e
      → Headline notes (fate_of rules (r ++ rest) r e peaks) (outputs old a) (outputs new b)
  ended Complete old new ends exact w noted c rest lacks all u =
      let none = all ends.2 in
      let nothing : r ++ rest ≡ r = rw none (append-nil r) in
      said Complete old new rest (rw nothing (sym ends.0)) (rw nothing w) (rw nothing noted) c (λ h. cc)
      (λ h. rw nothing (exact h))
  ended (Refused number place reason) old new ends exact w noted c rest lacks all u = go ends.2
    where
      go : at_end ⊎ (refusal_in rules (judged rules.limits r) ≡ Some (Refused number place reason))
          → Headline notes (fate_of rules (r ++ rest) r (Refused number place reason) peaks) (outputs old a)
          (outputs new b)
      go (inl end) =
          let none = all end in
          let nothing : r ++ rest ≡ r = rw none (append-nil r) in
          said (Refused number place reason) old new rest (rw nothing (sym ends.0)) (rw nothing w) (rw nothing noted) c
          (λ h. cc)
          (λ h. cc)
      go (inr refused) =
          let more = refused-more rules r rest (Refused number place reason) refused in
          said (Refused number place reason) old new rest (sym more.0) (rw more.1 w) (rw more.1 noted) c
          (λ h. cc)
          (λ h. cc)
  ended WriteFault old new ends exact w noted c rest lacks all u =
      Headline-said notes rules (r ++ rest) r WriteFault peaks (outputs old a) (outputs new b) (λ h. absurd h)
      (λ h. absurd h) (λ h. absurd h) c (λ m. cc) bounded
      (λ h. cc)
  ended Memory old new ends exact w noted c rest lacks all u =
      Headline-said notes rules (r ++ rest) r Memory peaks (outputs old a) (outputs new b) (λ h. absurd h)
      (λ h. absurd h) (λ h. absurd h) c lacks bounded (λ h. cc)
  ended other old new ends exact w noted c rest lacks all u = absurd u

-- an end is that of refused memory, or not
is_memory : (e : End) → (e ≡ Memory) ⊎ (e ≡ Memory → ⊥)
is_memory Memory = inl refl
is_memory other = inr (λ e. cc)

-- where memory was refused, no line was handled, and the sink is as before
pub unhandled : (run : Run) (at_end : Type 0) → Account run at_end → LacksRoom run (Unit {0}) → run.outcome.lines ≡ 0
unhandled run at_end account (inl start) =
    omega (arith, rw start.1 at account.counts.few)
unhandled run at_end account (inr memory) = memory.none

pub unput : {S : Type 0} (law : SinkContract S) (run : Run) (at_end : Type 0) (s t : S) → Runs law run at_end s t
    → run.outcome.ended ≡ Memory → LacksRoom run (Unit {0}) → t ≡ s
unput law run at_end s t runs is lacks =
    memory-sink _ _ _ _ s t _ is
    (unhandled _ _ runs.account lacks) runs.sink

-- what a run over a writer says is the headline
pub Headline-run : {N : Type 0} (notes : N → Report → N → Type 0) (run : Run) (at_end : Type 0)
    (old new : Channel) (a b : N) → Account run at_end
    → Writes (stream_of run.rules run.read) run.outcome.ended old.bytes new.bytes
    → NotesRun notes (stream_of run.rules run.read) run.outcome.ended a b
    → (run.outcome.ended ≡ WriteFault → HasRisen old.failures new.failures)
    → (run.outcome.ended ≡ Memory → LacksRoom run (Unit {0}))
    → (run.outcome.ended ≡ Memory → Keeps old.bytes new.bytes)
    → HeadlineOfRun notes run at_end (outputs old a) (outputs new b)
Headline-run notes run at_end old new a b account writes noted cause lacks kept =
    by (is_memory run.outcome.ended)
  where
    -- the headline of each text that begins so
    of-texts : ((rest : List ℕ) → run.outcome.ended ≡ Memory
        → RefusedMemory (judged_lines run.rules (run.read ++ rest)) (outputs old a) (outputs new b))
        → (rest : List ℕ) → (at_end → rest ≡ []) → IsUnread run.outcome.ended
        → Headline notes (fate_of run.rules (run.read ++ rest) run.read run.outcome.ended run.outcome.peaks)
        (outputs old a) (outputs new b)
    of-texts refused rest all u =
        ended notes a b run.rules run.read at_end run.outcome.lines run.outcome.peaks account.bounded run.outcome.ended
        old new account.ends account.exact writes noted cause rest (refused rest) all u

    room : run.outcome.ended ≡ Memory → LacksRoom run (Unit {0})
        → HeadlineOfRun notes run at_end (outputs old a) (outputs new b)
    room is (inl start) = inl (record {
      ended = is;
      unread = start.1;
      peaks = start.2;
      unwritten = kept is;
      unreported = noted-none notes run.rules run.read a b run.outcome.ended is noted;
    })
    room is (inr memory) = inr (of-texts (λ rest m. record {
      unwritten = kept m;
      unreported = noted-none notes run.rules run.read a b run.outcome.ended m noted;
      header = begins-well run.rules run.read rest run.outcome.lines memory;
    }))

    by : (run.outcome.ended ≡ Memory) ⊎ (run.outcome.ended ≡ Memory → ⊥)
        → HeadlineOfRun notes run at_end (outputs old a) (outputs new b)
    by (inl is) = room is (lacks is)
    by (inr other) = inr (of-texts (λ rest m. absurd (other m)))

-- ---- and the headline says that of the stream

module _ {N : Type 0} (notes : N → Report → N → Type 0) (fate : Fate End) (old new : Outputs N)
    (h : Headline notes fate old new) where
  one-list : h.js ≡ judged_lines fate.rules fate.text
  one-list = list-only _ _ _ h.judged

  pub headline-writes : IsUnhindered fate.end
      → Appends old.bytes new.bytes (output fate.rules fate.text)
  headline-writes u = rw (ap (output_in fate.rules) one-list ∙ sym (output-in fate.rules fate.text)) at (h.writes u)

  pub headline-gives : IsUnhindered fate.end → Took notes old.reports (reported fate.rules fate.text) new.reports
  headline-gives u = rw (ap (reported_in fate.rules) one-list ∙ sym (reported-in fate.rules fate.text)) at (h.gives u)

  pub headline-ends : IsUnhindered fate.end → fate.end ≡ ending fate.rules fate.text
  headline-ends u = h.ends u ∙ ap (ending_in fate.rules) one-list ∙ sym (ending-in fate.rules fate.text)

  pub headline-exact : fate.end ≡ Complete → IsExact fate.rules.limits fate.text fate.peaks
  headline-exact e =
      IsExact-peaks _ _ _ (sym (headline-ends (subst IsUnhindered (sym e) tt)) ∙ e)
      (rw one-list at (h.exact e))

  pub headline-memory : fate.end ≡ Memory → RefusedMemory (judged_lines fate.rules fate.text) old new
  headline-memory e = rw one-list at (h.memory e)

-- what was noted of pieces, where nothing hindered it
pub NotesPieces-gives : {N : Type 0} (notes : N → Report → N → Type 0) (rules : Rules) (pieces : List (List ℕ)) (n : ℕ)
    (a b : N) (e : End) → NotesPieces notes (in_pieces rules pieces n) e a b → IsUnhindered e
    → Took notes a (reported rules (joined pieces)) b
NotesPieces-gives notes rules pieces n a b x h u = grind (arith, nat_tests)
