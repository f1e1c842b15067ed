-- Streams that come in pieces.
use Rattle.std.specs.Prelude.{◌≡◌, ◌⊎◌, ℕ, ◌+◌, ◌≤◌, List, ◌++◌, Option, Some, None, length, take}
use Rattle.std.specs.Io.KnownBytes.{Appends}
use Rattle.cj_stream.specs.declared.pieces.PiecesOutcome.{PiecesOutcome}
use Rattle.cj_stream.specs.declared.ending.End.{End}
use Rattle.cj_stream.specs.declared.ending.End.TheVariants.{Complete, Refused, ReadFault, ReadLimit, WriteFault, Memory}
use Rattle.cj_stream.specs.Meaning.Lines.{lines}
use Rattle.cj_stream.specs.Lines.{closed, joined, whole}
use Rattle.cj_stream.specs.Items.{Item}
use Rattle.cj_stream.specs.Meaning.Rules.{Rules}
use Rattle.cj_stream.specs.Verdict.{refusal_in, judged, kept, ending, output, stretch}
use Rattle.cj_stream.specs.Meaning.Bound.{IsBounded}
use Rattle.cj_stream.specs.Bound.{IsBelow, IsExact, exact_peaks, first_lines}
use Rattle.cj_stream.specs.Engine.{EngineState, Counts, Delivers, rules_of, lines_of, refused_of, held_by, peaks_of}
use Rattle.cj_stream.specs.Reading.{LacksMemory}
use Rattle.cj_stream.specs.Sink.{SinkContract, prefixes, TookFront, LeavesNext, AppendsPart}
use Rattle.cj_stream.specs.Meaning.Outputs.{Took}

-- a stream that was given in pieces: the rules, all of the pieces, and how many of them were wholly taken
pub record InPieces : Type 0 where
  pub rules : Rules
  pub pieces : List (List ℕ)
  pub taken : ℕ

abbrev pub in_pieces : Rules → List (List ℕ) → ℕ → InPieces
in_pieces rules pieces n = record { rules = rules; pieces = pieces; taken = n }

-- all its bytes; those of the pieces that were wholly taken; and of these and the next piece
abbrev pub all_of : InPieces → List ℕ
all_of cut = joined cut.pieces

abbrev pub taken_of : InPieces → List ℕ
taken_of cut = joined (take cut.taken cut.pieces)

abbrev pub given_of : InPieces → List ℕ
given_of cut = joined (take (cut.taken + 1) cut.pieces)

-- a sink took a prefix of what is kept of the pieces that were wholly taken and the next, with all that is kept of the
-- whole lines of the former, and then this happened to it, by the items that were to come
abbrev pub PutsFront : {S : Type 0} → (S → Item → S → Type 0) → (List Item → S → S → Type 0) → InPieces → S → S
    → Type 0
PutsFront takes then cut s t =
    TookFront takes then (prefixes (kept cut.rules (given_of cut)) (kept cut.rules (whole (taken_of cut)))) s t

-- a sink that was given a cut stream: it took what is kept of the whole stream, whose ending is the answer; or, after a
-- fault, a prefix of it, by the pieces that were given: a write fault leaves of the sink what the next step may, and
-- refused memory all
abbrev pub PutsPieces : {S : Type 0} → SinkContract S → InPieces → End → S → S → Type 0
PutsPieces law cut Complete s t = (ending cut.rules (all_of cut) ≡ Complete)
    × Took law.takes s (kept cut.rules (all_of cut)) t
PutsPieces law cut (Refused number place reason) s t =
    (ending cut.rules (all_of cut) ≡ Refused number place reason) × Took law.takes s (kept cut.rules (all_of cut)) t
PutsPieces law cut ReadFault s t = ⊥
PutsPieces law cut ReadLimit s t = ⊥
PutsPieces law cut WriteFault s t = PutsFront law.takes (LeavesNext law.leaves) cut s t
PutsPieces law cut Memory s t = PutsFront law.takes (λ others a b. b ≡ a) cut s t

-- the known bytes grow by these, and perhaps by more
pub record AppendsMore (old new : Option (List ℕ)) (bs : List ℕ) : Type 0 where
  pub middle : Option (List ℕ)
  pub more : List ℕ
  pub first : Appends old middle bs
  pub grows : Appends middle new more

-- the known bytes grow by a prefix of the output of the pieces that were wholly taken and the next, with all of the
-- output of the whole lines of the former
abbrev pub AppendsFront : InPieces → Option (List ℕ) → Option (List ℕ) → Type 0
AppendsFront cut old new =
    AppendsPart old new (output cut.rules (given_of cut))
    × AppendsMore old new (output cut.rules (whole (taken_of cut)))

-- a writer that was given a cut stream: it has the output of the whole stream, whose ending is the answer; or, after a
-- fault, a prefix of the output of the pieces that were given
abbrev pub Copies : InPieces → End → Option (List ℕ) → Option (List ℕ) → Type 0
Copies cut Complete old new = (ending cut.rules (all_of cut) ≡ Complete)
    × Appends old new (output cut.rules (all_of cut))
Copies cut (Refused number place reason) old new =
    (ending cut.rules (all_of cut) ≡ Refused number place reason) × Appends old new (output cut.rules (all_of cut))
Copies cut ReadFault old new = ⊥
Copies cut ReadLimit old new = ⊥
Copies cut WriteFault old new = AppendsFront cut old new
Copies cut Memory old new = AppendsFront cut old new

-- an end that no reader makes
abbrev pub IsUnread : End → Type 0
IsUnread Complete = Unit {0}
IsUnread (Refused number place reason) = Unit {0}
IsUnread ReadFault = ⊥
IsUnread ReadLimit = ⊥
IsUnread WriteFault = Unit {0}
IsUnread Memory = Unit {0}

-- the piece at which it ended, after n, where these bytes came before the pieces: none after a complete end; after a
-- refusal the next one, if there is one, ended the refused line or made it too long
abbrev pub EndsAt : Rules → List ℕ → List (List ℕ) → ℕ → End → Type 0
EndsAt rules before pieces n Complete = n ≡ length pieces
EndsAt rules before pieces n (Refused number place reason) =
    (n ≡ length pieces) ⊎ (refusal_in rules (judged rules.limits (before ++ joined (take (n + 1) pieces)))
    ≡ Some (Refused number place reason))
EndsAt rules before pieces n ReadFault = ⊥
EndsAt rules before pieces n ReadLimit = ⊥
EndsAt rules before pieces n WriteFault = Unit {0}
EndsAt rules before pieces n Memory = Unit {0}

-- the bytes before, and those of the pieces that were wholly taken; and of these and the next piece
abbrev pub bytes_taken : List ℕ → List (List ℕ) → PiecesOutcome → List ℕ
bytes_taken before pieces outcome = before ++ joined (take outcome.taken pieces)

abbrev pub bytes_given : List ℕ → List (List ℕ) → PiecesOutcome → List ℕ
bytes_given before pieces outcome = before ++ joined (take (outcome.taken + 1) pieces)

-- An engine that stood for the bytes before, and had not ended, was given these pieces and then the end, until it
-- ended. So many of the pieces were wholly taken, of which nothing that could be judged was refused, and it counts
-- their bytes. Its other counts are of the lines that it handled, of all bytes that were given. Memory is refused
-- with a valid first line alone. What it is said to have held at most is what its lists have held at most, within the
-- bound for the bytes that were given, no less than the lines that it handled need, and exact where the end is
-- complete.
pub record Fed (rules : Rules) (before : List ℕ) (pieces : List (List ℕ)) (outcome : PiecesOutcome)
    (engine : EngineState) : Type 0 where
  pub under : rules_of engine ≡ rules
  pub ended : engine.ended ≡ Some outcome.ended
  pub few : outcome.taken ≤ length pieces
  pub good : refusal_in rules (judged rules.limits (bytes_taken before pieces outcome)) ≡ None
  pub at : EndsAt rules before pieces outcome.taken outcome.ended
  pub used : engine.taken ≡ length (bytes_taken before pieces outcome)
  pub counts :
      Counts rules (bytes_given before pieces outcome) (lines_of engine) engine.reading.kept (refused_of engine)
  pub memory : outcome.ended ≡ Memory → LacksMemory rules (bytes_given before pieces outcome) (lines_of engine)
  pub peaks : outcome.peaks ≡ peaks_of engine
  pub held : IsBelow (held_by engine) outcome.peaks
  pub bounded : IsBounded rules.limits (bytes_given before pieces outcome) outcome.peaks
  pub least :
      IsBelow (exact_peaks rules.limits (first_lines (lines_of engine) (bytes_given before pieces outcome)))
      outcome.peaks
  pub exact : outcome.ended ≡ Complete → IsExact rules.limits (before ++ joined pieces) outcome.peaks

-- Pieces that were given after the bytes before. These have this number of first lines of a stream. `lines` counts
-- those that were handled in the end.
pub record GivenAfter : Type 0 where
  pub before : List ℕ
  pub first : ℕ
  pub cut : InPieces
  pub lines : ℕ

abbrev pub given_after : List ℕ → ℕ → InPieces → ℕ → GivenAfter
given_after before first cut n = record { before = before; first = first; cut = cut; lines = n }

-- A sink took what is kept of the pieces that were wholly taken, after the first lines. No whole line was refused by
-- then. The end came by the next piece, or after the last one.
pub record TookWhole {S : Type 0} (law : SinkContract S) (later : GivenAfter) (s t : S) (e : End) : Type 0 where
  pub middle : S
  pub good : refusal_in later.cut.rules (lines (whole (later.before ++ taken_of later.cut))) ≡ None
  pub taken : Delivers law
      (stretch later.cut.rules (later.before ++ taken_of later.cut) later.first
      (length (closed (later.before ++ taken_of later.cut)))) s middle None
  pub after : Delivers law
      (stretch later.cut.rules (later.before ++ given_of later.cut)
      (length (closed (later.before ++ taken_of later.cut))) later.lines) middle t (Some e)
