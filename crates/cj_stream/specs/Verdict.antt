-- What is kept, written and reported of a stream, line after line, as functions. The laws say that these are what the
-- list of its judged lines says.
use Rattle.std.specs.Prelude.{◌≡◌, ℕ, ◌+◌, List, [], ◌∷◌, ◌++◌, Bool, true, false, not, ◌&&◌, ◌||◌, ◌==◌, nat_lt}
use Rattle.std.specs.Prelude.{if◌then◌else◌, Option, Some, None, length, take, map, unwrap_or, is_some}
use Rattle.std.specs.List.{filter, flat_map, list_all}
use Rattle.std.specs.Str.{is_utf8}
use Rattle.std.specs.Str.Lossy.{utf8_valid_len}
use Rattle.cj_budget.specs.Meaning.Limits.{LimitPair}
use Rattle.cj_spans.specs.declared.reason.Reason.TheVariants.{NoHeader, LineTooLong, NotUtf8, Syntax, TooDeep}
use Rattle.cj_spans.specs.declared.finding.Finding.{Finding}
use Rattle.cj_spans.specs.Meaning.Finding.{least}
use Rattle.cj_spans.specs.Meaning.Tree.{Tree}
use Rattle.cj_spans.specs.Meaning.Judgement.{Judgement, spelled, broken, sunk}
use Rattle.cj_spans.proofs.Judgements.{judgement}
use Rattle.cj_feature.specs.Meaning.Header.{header as header_findings}
use Rattle.cj_feature.specs.Meaning.Feature.{feature as feature_findings}
use Rattle.cj_stream.specs.declared.ending.End.{End}
use Rattle.cj_stream.specs.declared.ending.End.TheVariants.{Complete, Refused}
use Rattle.cj_stream.specs.declared.report_sink.Report.{Report}
use Rattle.cj_stream.specs.Meaning.Criteria.{needs_box, holds}
use Rattle.cj_stream.specs.Meaning.Lines.{Line, lines, ended_line}
use Rattle.cj_stream.specs.Lines.{closed, begun, last_line}
use Rattle.cj_stream.specs.Items.{Item, raw_item, is_feature}
use Rattle.cj_stream.specs.Item.{tree_of, item_at}
use Rattle.cj_stream.specs.Meaning.Rules.{Rules}
use Rattle.cj_stream.specs.Meaning.Verdict.{Verdict, Invalid, Blank, LeftOut, Kept, is_blank_byte}

-- a later line of such bytes alone is blank
abbrev pub is_blank_line : ℕ → List ℕ → Bool
is_blank_line number content = nat_lt 1 number && list_all is_blank_byte content

-- the findings of the tree of a line: of a header on the first line, and of a feature beside the header on a later one,
-- of which each city object has to be reached, and may be of an extension, where that is told
abbrev pub findings : Rules → ℕ → Tree → Tree → List Finding
findings rules number header t =
    if number == 1 then header_findings (needs_box rules.criteria) t
    else feature_findings header t rules.options.all_reached rules.options.extensions

-- a feature is asked for that satisfies what is asked, or, where such are left out, one that does not
abbrev pub is_asked : Rules → Tree → Tree → Bool
is_asked rules header t = if rules.options.exclude then not (holds rules.criteria header t) else holds
    rules.criteria header t

-- a header is kept if it is valid, and a feature that is asked for
abbrev pub is_kept_if_valid : Rules → ℕ → Tree → Tree → Bool
is_kept_if_valid rules number header t = number == 1 || is_asked rules header t

-- the verdict by the least of some findings; where there is none, by whether the tree is asked for
abbrev pub by_least : Bool → Option Finding → Verdict
by_least keep None = if keep then Kept else LeftOut
by_least keep (Some f) = Invalid f.place f.reason

-- the verdict on a line of this tree
abbrev pub tree_verdict : Rules → ℕ → Tree → Tree → Verdict
tree_verdict rules number header t =
    by_least (is_kept_if_valid rules number header t) (least None (findings rules number header t))

-- the verdict on bytes of UTF-8, by what they are as a JSON text under a depth limit
abbrev pub text_verdict : {c : List ℕ} {depth : ℕ} → Rules → ℕ → Tree → Judgement c depth → Verdict
text_verdict rules number header (spelled tree json shallow) = tree_verdict rules number header tree
text_verdict rules number header (broken place syntax shallow) = Invalid place Syntax
text_verdict rules number header (sunk place deep) = Invalid place TooDeep

-- The verdict on a content, by the rules, the line's number and the tree of the header: too long, no UTF-8, blank, no
-- JSON or nested too deep, or by its findings. Each content has one judgement, whose type says what it is; the proof
-- that it has one computes it.
unfoldable pub verdict_at : Rules → ℕ → Tree → List ℕ → Verdict
verdict_at rules number header content =
    if nat_lt rules.limits.line (length content) then Invalid rules.limits.line LineTooLong
    else (if not (is_utf8 content) then Invalid (utf8_valid_len content) NotUtf8
    else (if is_blank_line number content then Blank
    else text_verdict rules number header (judgement content rules.limits.depth)))

-- the content of the first of some lines
abbrev pub first_line : List Line → List ℕ
first_line [] = []
first_line (l ∷ ls) = l.content

-- the tree of the header, of the lines before another: that of the first of them
abbrev pub header_of : Rules → List Line → Tree
header_of rules before = tree_of rules.limits.depth (first_line before)

-- the verdict on a content, by the rules and the lines before it
abbrev pub verdict : Rules → List Line → List ℕ → Verdict
verdict rules before content = verdict_at rules (length before + 1) (header_of rules before) content

-- the item that a line is after these
abbrev pub item_after : Rules → List Line → Line → Item
item_after rules before l = item_at rules.limits.depth (length before + 1) (header_of rules before) l

-- reading goes on after a refused line with this number: where it is told to, and the line is not the first
abbrev pub goes_on : Rules → ℕ → Bool
goes_on rules number = nat_lt 1 number && rules.options.keep_going

-- the end that a refusal makes, where reading does not go on after it
abbrev pub refusal_of : Rules → ℕ → Verdict → Option End
refusal_of rules number (Invalid place reason) =
    if goes_on rules number then None else Some (Refused number place reason)
refusal_of rules number Blank = None
refusal_of rules number LeftOut = None
refusal_of rules number Kept = None

-- what is reported of a line with this number, where reading goes on after it: its refusal, if it is refused
abbrev pub reports_of : ℕ → Verdict → List Report
reports_of number (Invalid place reason) = record { line = number; place = place; reason = reason } ∷ []
reports_of number Blank = []
reports_of number LeftOut = []
reports_of number Kept = []

-- a valid line that is asked for is kept
abbrev pub is_kept : Verdict → Bool
is_kept (Invalid place reason) = false
is_kept Blank = false
is_kept LeftOut = false
is_kept Kept = true

-- The result of a line: the item that it is, and whether that is kept; the end that it is, if reading ends at it; and
-- what is reported of it, if reading goes on.
pub record Ruling : Type 0 where
  pub item : Item
  pub kept : Bool
  pub end : Option End
  pub reports : List Report

-- the result of a line after these
abbrev pub ruling_after : Rules → List Line → Line → Ruling
ruling_after rules before l = record {
  item = item_after rules before l;
  kept = is_kept (verdict rules before l.content);
  end = refusal_of rules (length before + 1) (verdict rules before l.content);
  reports = reports_of (length before + 1) (verdict rules before l.content);
}

-- the results of lines that come after others, line after line
abbrev pub rulings : Rules → List Line → List Line → List Ruling
rulings rules before [] = []
rulings rules before (l ∷ ls) = ruling_after rules before l ∷ rulings rules (before ++ l ∷ []) ls

-- the first end among them
abbrev pub first_end : List Ruling → Option End
first_end [] = None
first_end (r ∷ rs) = if is_some r.end then r.end else first_end rs

-- the lines before it
abbrev pub lines_before : List Ruling → List Line
lines_before [] = []
lines_before (r ∷ rs) = if is_some r.end then [] else r.item.line ∷ lines_before rs

-- the items that are kept
abbrev pub kept_of : List Ruling → List Item
kept_of [] = []
kept_of (r ∷ rs) = if r.kept then r.item ∷ kept_of rs else kept_of rs

-- what is reported
abbrev pub reported_of : List Ruling → List Report
reported_of rs = flat_map (λ (r : Ruling). r.reports) rs

-- the first refusal that is an end, among lines that come after others
abbrev pub refusal_from : Rules → List Line → List Line → Option End
refusal_from rules before ls = first_end (rulings rules before ls)

-- the handled lines: the longest prefix without a refusal that is an end
abbrev pub good_from : Rules → List Line → List Line → List Line
good_from rules before ls = lines_before (rulings rules before ls)

-- the items of the lines that are kept: the header, and each feature that satisfies what is asked
abbrev pub kept_from : Rules → List Line → List Line → List Item
kept_from rules before ls = kept_of (rulings rules before ls)

-- what is reported of lines that come after others
abbrev pub reported_from : Rules → List Line → List Line → List Report
reported_from rules before ls = reported_of (rulings rules before ls)

-- the results of the lines that LF ended in some bytes, and of the first n lines
abbrev pub rulings_closed : Rules → List ℕ → List Ruling
rulings_closed rules s = rulings rules [] (map ended_line (closed s))

abbrev pub rulings_first : Rules → ℕ → List ℕ → List Ruling
rulings_first rules n s = rulings rules [] (take n (lines s))

-- none of these results is an end, and so many features are kept by them, and so many lines reported
pub record AreCounted (rs : List Ruling) (features refusals : ℕ) : Type 0 where
  pub good : first_end rs ≡ None
  pub kept : features ≡ length (filter is_feature (kept_of rs))
  pub refused : refusals ≡ length (reported_of rs)

-- the first such refusal among the lines of a stream, or of a prefix of them
abbrev pub refusal_in : Rules → List Line → Option End
refusal_in rules ls = refusal_from rules [] ls

-- the handled lines of a stream: those before the first whose refusal is the end. If reading goes on, these are all
-- lines, unless the first is invalid.
abbrev pub good : Rules → List ℕ → List Line
good rules s = good_from rules [] (lines s)

-- the results of these
abbrev pub rulings_good : Rules → List ℕ → List Ruling
rulings_good rules s = rulings rules [] (good rules s)

-- the header and the features among them
abbrev pub kept : Rules → List ℕ → List Item
kept rules s = kept_from rules [] (good rules s)

-- the refused lines among them, each with its number, place and reason: those that reading has gone on after
abbrev pub reported : Rules → List ℕ → List Report
reported rules s = reported_from rules [] (good rules s)

-- what is written of a stream
abbrev pub output : Rules → List ℕ → List ℕ
output rules s = flat_map raw_item (kept rules s)

-- the end of these lines: a stream without a line is refused, and else the first line whose refusal is an end
abbrev pub ending_of : Rules → List Line → End
ending_of rules [] = Refused 1 0 NoHeader
ending_of rules (l ∷ ls) = unwrap_or (refusal_in rules (l ∷ ls)) Complete

-- how a stream ends
abbrev pub ending : Rules → List ℕ → End
ending rules s = ending_of rules (lines s)

-- a begun line that is too long already
abbrev pub long_line : LimitPair → List ℕ → List Line
long_line limits c = if nat_lt limits.line (length c) then last_line c else []

-- the lines that can be judged before the end of a stream: those that LF ended, and a begun one that is too long
abbrev pub judged : LimitPair → List ℕ → List Line
judged limits s = map ended_line (closed s) ++ long_line limits (begun s)

-- the kept ones of the first n lines
abbrev pub kept_first : Rules → ℕ → List ℕ → List Item
kept_first rules n s = kept_from rules [] (take n (lines s))

-- what is written of the first n lines
abbrev pub output_first : Rules → ℕ → List ℕ → List ℕ
output_first rules n s = flat_map raw_item (kept_first rules n s)

-- what is reported of the first n lines
abbrev pub reported_first : Rules → ℕ → List ℕ → List Report
reported_first rules n s = reported_from rules [] (take n (lines s))

-- ---- streams and their lines

-- bytes, and the rules that their lines are judged by
pub record Stream : Type 0 where
  pub rules : Rules
  pub bytes : List ℕ

abbrev pub stream_of : Rules → List ℕ → Stream
stream_of rules s = record { rules = rules; bytes = s }

-- this number of first lines of a stream
pub record UpTo : Type 0 where
  pub rules : Rules
  pub bytes : List ℕ
  pub lines : ℕ

abbrev pub up_to : Rules → List ℕ → ℕ → UpTo
up_to rules s n = record { rules = rules; bytes = s; lines = n }

-- their lines from one count of lines to another
pub record Stretch : Type 0 where
  pub rules : Rules
  pub bytes : List ℕ
  pub from : ℕ
  pub to : ℕ

abbrev pub stretch : Rules → List ℕ → ℕ → ℕ → Stretch
stretch rules s from to = record { rules = rules; bytes = s; from = from; to = to }
