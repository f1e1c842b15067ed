-- A stream that is read in parts: a header with the first of its later lines, and the same header with what follows
-- these.
use Rattle.std.specs.Prelude.{◌≡◌, ℕ, ◌+◌, ◌-◌, ◌<◌, ◌≤◌, List, [], ◌∷◌, ◌++◌, Option, Some, None, ℤ, max, get_or}
use Rattle.std.specs.Int.{int_min, int_max}
use Rattle.cj_budget.specs.declared.limits.Peaks.{Peaks}
use Rattle.cj_stream.specs.declared.ending.End.{End}
use Rattle.cj_stream.specs.declared.ending.End.TheVariants.{Complete, Refused, ReadFault, ReadLimit, WriteFault, Memory}
use Rattle.cj_stream.specs.declared.report_sink.Report.{Report}
use Rattle.cj_stream.specs.declared.running.Outcome.{Outcome}
use Rattle.cj_stream.specs.Meaning.Lines.{newline}
use Rattle.cj_stream.specs.Meaning.Judged.{JudgedLine}
use Rattle.cj_stream.specs.Lines.{NoLf, whole}
use Rattle.cj_stream.specs.Tallied.{capped, slot_count}
use Rattle.cj_stream.specs.TallySink.{RangesFront, Tally}
use Rattle.cj_stream.specs.Meaning.Rules.{Rules}
use Rattle.cj_stream.specs.Verdict.{ending}

-- the stream of a first line with this content, and then these bytes
abbrev pub headed : List ℕ → List ℕ → List ℕ
headed h s = h ++ newline ∷ s

-- a stream is cut between two lines: a first line has this content, and these bytes behind it are whole lines
pub record IsCut (h a : List ℕ) : Type 0 where
  pub header : NoLf h
  pub lines : whole a ≡ a

-- each of these parts is whole lines, with which the header is complete
abbrev pub AreComplete : Rules → List ℕ → List (List ℕ) → Type 0
AreComplete rules h [] = Unit {0}
AreComplete rules h (a ∷ parts) = IsCut h a × (ending rules (headed h a) ≡ Complete) × AreComplete rules h parts

-- the end of the second part, seen as one of the stream: a refused line comes so many lines later
abbrev pub moved_end : ℕ → End → End
moved_end n Complete = Complete
moved_end n (Refused number place reason) = Refused (number + n) place reason
moved_end n ReadFault = ReadFault
moved_end n ReadLimit = ReadLimit
moved_end n WriteFault = WriteFault
moved_end n Memory = Memory

-- a report of the second part, seen as one of the stream
abbrev pub moved_report : ℕ → Report → Report
moved_report n r = record { line = r.line + n; place = r.place; reason = r.reason }

-- a judged line of the second part, seen as one of the stream
abbrev pub moved_line : ℕ → JudgedLine → JudgedLine
moved_line n j = record j { number = j.number + n }

-- the greater of each two counts
abbrev pub greater_peaks : Peaks → Peaks → Peaks
greater_peaks p q = record { bytes = max p.bytes q.bytes; tokens = max p.tokens q.tokens; depth = max p.depth q.depth }

-- a number of lines stops at the greatest u64
abbrev pub capped_end : End → End
capped_end Complete = Complete
capped_end (Refused number place reason) = Refused (capped number) place reason
capped_end ReadFault = ReadFault
capped_end ReadLimit = ReadLimit
capped_end WriteFault = WriteFault
capped_end Memory = Memory

-- how a run over the stream goes, by runs over both parts of which the first is complete: the header counts once
abbrev pub both_outcomes : Outcome → Outcome → Outcome
both_outcomes first second = record {
  lines = first.lines + (second.lines - 1);
  kept = first.kept + second.kept;
  refused = first.refused + second.refused;
  peaks = greater_peaks first.peaks second.peaks;
  ended = moved_end (first.lines - 1) second.ended;
}

-- the same with counts that stop at the greatest u64
abbrev pub capped_outcome : Outcome → Outcome
capped_outcome o = record {
  lines = capped o.lines;
  kept = capped o.kept;
  refused = capped o.refused;
  peaks = o.peaks;
  ended = capped_end o.ended;
}

-- ---- tallies

-- the least and the greatest of some numbers and others, by those of each
abbrev pub wider : Option (ℤ × ℤ) → Option (ℤ × ℤ) → Option (ℤ × ℤ)
wider None q = q
wider (Some p) None = Some p
wider (Some p) (Some q) = Some (int_min p.0 q.0, int_max p.1 q.1)

-- a range is joined to that of the numbers before those that are left
abbrev pub WidensFront : Option (ℤ × ℤ) → List ℤ → Option (ℤ × ℤ) → List ℤ → Type 0
WidensFront old all new left = (r : Option (ℤ × ℤ)) × RangesFront all r left × (new ≡ wider old r)

-- the tally of both parts, by that of each: counts add up, ranges become wider, and the transform is that of the first
pub record JoinsTallies (first second both : Tally) : Type 0 where
  pub features : both.features ≡ capped (first.features + second.features)
  pub types : (n : ℕ) → n < slot_count
      → get_or both.types n 0 ≡ capped (get_or first.types n 0 + get_or second.types n 0)
  pub lods : (class : ℕ) → class ≤ 5
      → get_or both.lods class 0 ≡ capped (get_or first.lods class 0 + get_or second.lods class 0)
  pub ranges : (axis : ℕ) → axis < 3
      → get_or both.ranges axis None ≡ wider (get_or first.ranges axis None) (get_or second.ranges axis None)
  pub scale : both.scale ≡ first.scale
  pub translate : both.translate ≡ first.translate
