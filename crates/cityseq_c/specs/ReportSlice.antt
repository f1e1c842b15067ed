-- What contracts see of room that is lent for reports, and what it has of some reports.
use Rattle.std.specs.Prelude.{◌≡◌, ℕ, ◌+◌, List, ◌++◌, map, length, min, take, drop, nat_lt, if◌then◌else◌, slice_set}
use Rattle.cj_spans.specs.Meaning.Reason.{code_of}
use Rattle.cj_stream.specs.declared.report_sink.Report.{Report}
use Rattle.cityseq_c.specs.Begins.{begin_of}
use Rattle.cityseq_c.specs.declared.finder.Finder.{Finder}
use Rattle.cityseq_c.specs.declared.report_slice.CReport.{CReport}
use Rattle.cityseq_c.specs.declared.report_slice.Noted.{Noted}

-- the text that a finder goes along
abbrev pub finder_text : Finder → List ℕ
finder_text f = f.header.now ++ f.part.now

-- ---- reports

-- a report of a text, as C has it
abbrev pub c_report : List ℕ → Report → CReport
c_report text r = record { line = r.line; begin = begin_of text r.line; place = r.place; code = code_of r.reason }

-- the text, the room, which loan of it it is, and how many reports are in it
abbrev pub noted_text : Noted → List ℕ
noted_text n = finder_text n.finder

abbrev pub noted_room : Noted → List CReport
noted_room n = n.reports.now

abbrev pub noted_loan : Noted → ℕ
noted_loan n = n.reports.ghost_name

abbrev pub count_of : Noted → ℕ
count_of n = n.count

-- one report is written behind the others, if there is room for it
pub record NotesOne (a : Noted) (r : Report) (b : Noted) : Type 0 where
  pub text : noted_text b ≡ noted_text a
  pub loan : noted_loan b ≡ noted_loan a
  pub reports : noted_room b ≡ (if nat_lt (count_of a) (length (noted_room a)) then slice_set (noted_room a)
      (count_of a) (c_report (noted_text a) r) else noted_room a)
  pub count : count_of b ≡ (if nat_lt (count_of a) (length (noted_room a)) then count_of a + 1 else count_of a)

-- room has the first of these reports of a text, as many as fit, and is else as it was
pub record Holds (text : List ℕ) (rs : List Report) (old new : List CReport) : Type 0 where
  pub size : length new ≡ length old
  pub first : take (min (length rs) (length old)) new ≡ take (length old) (map (c_report text) rs)
  pub rest : drop (min (length rs) (length old)) new ≡ drop (min (length rs) (length old)) old
