-- Pieces of a stream whose first lines were read, given to its reader of lines.
use Rattle.std.specs.List.{flat_map}
use Rattle.std.specs.Prelude.{◌≡◌, ◌≢◌, ℕ, ◌+◌, List, [], ◌++◌, Option, length, take, drop}
use Rattle.std.specs.Io.KnownBytes.{Appends}
use Rattle.cj_stream.specs.declared.ending.LineEnd.{LineEnd}
use Rattle.cj_stream.specs.declared.ending.LineEnd.TheVariants.{Complete, WriteFault}
use Rattle.cj_stream.specs.declared.line_pieces.LinesOutcome.{LinesOutcome}
use Rattle.cj_stream.specs.declared.pieces.PiecesOutcome.{PiecesOutcome}
use Rattle.cj_stream.specs.declared.report_sink.Report.{Report}
use Rattle.cj_stream.specs.Meaning.Bound.{IsBounded}
use Rattle.cj_stream.specs.Bound.{IsExact}
use Rattle.cj_stream.specs.Lines.{joined, whole}
use Rattle.cj_stream.specs.Cut.{AppendsMore}
use Rattle.cj_stream.specs.Ending.{line_end}
use Rattle.cj_stream.specs.Items.{Item, raw_item}
use Rattle.cj_stream.specs.Meaning.Headline.{Fate}
use Rattle.cj_stream.specs.Meaning.Outputs.{Outputs, Took}
use Rattle.cj_stream.specs.Sink.{SinkContract, prefixes, TookFront, LeavesNext, AppendsPart, HasRisen}
use Rattle.cj_stream.specs.Meaning.Rules.{Rules}
use Rattle.cj_stream.specs.Verdict.{kept, kept_first, reported, reported_first, ending}

-- what is kept of a stream, but for what is kept of its first n lines; and what is written of that
abbrev pub kept_after : Rules → ℕ → List ℕ → List Item
kept_after rules n s = drop (length (kept_first rules n s)) (kept rules s)

abbrev pub output_after : Rules → ℕ → List ℕ → List ℕ
output_after rules n s = flat_map raw_item (kept_after rules n s)

-- and what is reported of it but for those lines
abbrev pub reported_after : Rules → ℕ → List ℕ → List Report
reported_after rules n s = drop (length (reported_first rules n s)) (reported rules s)

-- how it went to give pieces to a reader of lines, seen as how it goes to give pieces to an engine
abbrev pub pieces_outcome : LinesOutcome → PiecesOutcome
pieces_outcome o = record { taken = o.taken; peaks = o.peaks; ended = line_end o.ended }

-- pieces of a stream after the bytes before, whose lines were handled; `lines` counts these
pub record LaterPieces : Type 0 where
  pub rules : Rules
  pub before : List ℕ
  pub pieces : List (List ℕ)
  pub lines : ℕ

abbrev pub later_pieces : Rules → List ℕ → List (List ℕ) → ℕ → LaterPieces
later_pieces rules before pieces n = record { rules = rules; before = before; pieces = pieces; lines = n }

-- the whole stream; as far as the pieces were wholly taken, so many; and as far as they were given
abbrev pub later_whole : LaterPieces → List ℕ
later_whole later = later.before ++ joined later.pieces

abbrev pub later_taken : LaterPieces → ℕ → List ℕ
later_taken later k = later.before ++ joined (take k later.pieces)

abbrev pub later_given : LaterPieces → ℕ → List ℕ
later_given later k = later.before ++ joined (take (k + 1) later.pieces)

-- A sink that was given these pieces. Unless a step of it failed, the end is the ending of the whole stream, and it
-- took what is kept of it after those lines. After a fault it took a prefix of that, of the pieces that were given,
-- with all that is kept of the whole lines of those that were wholly taken, and then what the failed step leaves.
pub record PutsLines {S : Type 0} (law : SinkContract S) (later : LaterPieces) (outcome : LinesOutcome) (s t : S) :
    Type 0 where
  pub ends : outcome.ended ≢ WriteFault → line_end outcome.ended ≡ ending later.rules (later_whole later)
  pub took : outcome.ended ≢ WriteFault → Took law.takes s (kept_after later.rules later.lines (later_whole later)) t
  pub fault : outcome.ended ≡ WriteFault
      → TookFront law.takes (LeavesNext law.leaves)
      (prefixes (kept_after later.rules later.lines (later_given later outcome.taken))
      (kept_after later.rules later.lines (whole (later_taken later outcome.taken)))) s t

-- the same of reports: after a fault of the sink a prefix was noted of what is reported of the pieces that were given
pub record NotesLines {N : Type 0} (notes : N → Report → N → Type 0) (later : LaterPieces) (outcome : LinesOutcome)
    (a b : N) : Type 0 where
  pub noted : outcome.ended ≢ WriteFault
      → Took notes a (reported_after later.rules later.lines (later_whole later)) b
  pub fault : outcome.ended ≡ WriteFault
      → TookFront notes (λ others x y. y ≡ x)
      (prefixes (reported_after later.rules later.lines (later_given later outcome.taken)) []) a b

-- a writer that was given these pieces: it has what is written of the stream after those lines, or, after a write
-- fault, a prefix of that of the pieces that were given, with all that is written of the whole lines of those that were
-- wholly taken
pub record CopiesLines (later : LaterPieces) (outcome : LinesOutcome) (old new : Option (List ℕ)) : Type 0 where
  pub writes : outcome.ended ≢ WriteFault
      → Appends old new (output_after later.rules later.lines (later_whole later))
  pub part : outcome.ended ≡ WriteFault
      → AppendsPart old new (output_after later.rules later.lines (later_given later outcome.taken))
  pub more : outcome.ended ≡ WriteFault
      → AppendsMore old new (output_after later.rules later.lines (whole (later_taken later outcome.taken)))

-- The headline of a stream whose first n lines were handled: there is no case for want of memory. Where no write
-- failed, the writer has got exactly what the output has after those lines, what is reported of the others was noted,
-- and the end is the ending of the whole; there is a write fault only where a write has failed; and whatever came, what
-- was held is within the bound, and exact at a complete end.
pub record HeadlineOfLines {N : Type 0} (notes : N → Report → N → Type 0) (n : ℕ) (fate : Fate LineEnd)
    (old new : Outputs N) : Type 0 where
  pub writes : fate.end ≢ WriteFault
      → Appends old.bytes new.bytes (output_after fate.rules n fate.text)
  pub gives : fate.end ≢ WriteFault → Took notes old.reports (reported_after fate.rules n fate.text) new.reports
  pub ends : fate.end ≢ WriteFault → line_end fate.end ≡ ending fate.rules fate.text
  pub cause : fate.end ≡ WriteFault → HasRisen old.failures new.failures
  pub held : IsBounded fate.rules.limits fate.given fate.peaks
  pub exact : fate.end ≡ Complete → IsExact fate.rules.limits fate.text fate.peaks
