-- Which lines are invalid, and what becomes of the others: docs/RULES.md, "Verdict on a line".
use Rattle.std.specs.Prelude.{◌≡◌, ℕ, ◌<◌, ◌≤◌, List, Bool, true, false, not, ◌&&◌, ◌||◌, ◌==◌, if◌then◌else◌}
use Rattle.std.specs.Prelude.{Option, Some, None, is_some, length}
use Rattle.std.specs.List.{list_all}
use Rattle.std.specs.Str.{is_utf8}
use Rattle.std.specs.Str.Lossy.{utf8_valid_len}
use Rattle.cj_spans.specs.declared.reason.Reason.{Reason}
use Rattle.cj_spans.specs.declared.reason.Reason.TheVariants.{LineTooLong, NotUtf8, Syntax, TooDeep}
use Rattle.cj_spans.specs.declared.finding.Finding.{Finding}
use Rattle.cj_spans.specs.Meaning.Signs.{carriage_return, space, tab}
use Rattle.cj_spans.specs.Meaning.Finding.{least}
use Rattle.cj_spans.specs.Meaning.Prefix.{SyntaxAt, DeepAt, NowhereDeep}
use Rattle.cj_spans.specs.Meaning.Json.{Json}
use Rattle.cj_spans.specs.Meaning.Tree.{Tree, nest}
use Rattle.cj_feature.specs.Meaning.Header.{header as header_findings}
use Rattle.cj_feature.specs.Meaning.Feature.{feature as feature_findings}
use Rattle.cj_stream.specs.Meaning.Criteria.{needs_box, holds}
use Rattle.cj_stream.specs.Meaning.Rules.{Rules}

-- A line is invalid, at a byte of its content for a reason. Or it is blank. Or it is a valid feature that is not
-- selected. Or it is kept: the header, or a selected feature.
pub data Verdict : Type 0 where
  Invalid : ℕ → Reason → Verdict
  Blank : Verdict
  LeftOut : Verdict
  Kept : Verdict

-- space, tab and CR
abbrev pub is_blank_byte : ℕ → Bool
is_blank_byte b = b == space || (b == tab || b == carriage_return)

-- A line is judged beside the tree of the header. The first line has no header before it.

-- only a later line can be blank
abbrev pub is_blank : Option Tree → List ℕ → Bool
is_blank header content = is_some header && list_all is_blank_byte content

-- what is wrong with the tree of a line: of a header on the first line (RULES, "Headers"), and of a feature on a later
-- one (RULES, "Features")
abbrev pub faults : Rules → Option Tree → Tree → List Finding
faults rules None t = header_findings (needs_box rules.criteria) t
faults rules (Some header) t = feature_findings header t rules.options.all_reached rules.options.extensions

-- A header is kept. A feature is kept that satisfies the query (RULES, "Queries"), or, if such features are left out,
-- one that does not.
abbrev pub is_selected : Rules → Option Tree → Tree → Bool
is_selected rules None t = true
is_selected rules (Some header) t =
    if rules.options.exclude then not (holds rules.criteria header t) else holds rules.criteria header t

-- a content that is read as a JSON text: it is within the line limit, in UTF-8, and not blank
pub record IsRead (rules : Rules) (header : Option Tree) (content : List ℕ) : Type 0 where
  pub short : length content ≤ rules.limits.line
  pub text : is_utf8 content ≡ true
  pub not_blank : is_blank header content ≡ false

-- a content that is read, and spells this tree within the depth limit
pub record Spells (rules : Rules) (header : Option Tree) (content : List ℕ) (t : Tree) : Type 0 where
  pub read : IsRead rules header content
  pub json : Json content t
  pub shallow : nest t ≤ rules.limits.depth

-- The verdict on a content, with the tree that it spells, if it spells one. The cases come in the order of RULES, and
-- exclude each other. A tree with findings is invalid by the least of them, by place and code.
pub data IsVerdict (rules : Rules) (header : Option Tree) (content : List ℕ) : Option Tree → Verdict → Type 0 where
  too_long : rules.limits.line < length content
      → IsVerdict rules header content None (Invalid rules.limits.line LineTooLong)
  not_utf8 : length content ≤ rules.limits.line → is_utf8 content ≡ false
      → IsVerdict rules header content None (Invalid (utf8_valid_len content) NotUtf8)
  blank_line : length content ≤ rules.limits.line → is_utf8 content ≡ true → is_blank header content ≡ true
      → IsVerdict rules header content None Blank
  too_deep : (place : ℕ) → IsRead rules header content → DeepAt content rules.limits.depth place
      → IsVerdict rules header content None (Invalid place TooDeep)
  no_json : (place : ℕ) → IsRead rules header content → NowhereDeep content rules.limits.depth → SyntaxAt content place
      → IsVerdict rules header content None (Invalid place Syntax)
  faulty : (t : Tree) (f : Finding) → Spells rules header content t → least None (faults rules header t) ≡ Some f
      → IsVerdict rules header content (Some t) (Invalid f.place f.reason)
  leaves_out : (t : Tree) → Spells rules header content t → least None (faults rules header t) ≡ None
      → is_selected rules header t ≡ false → IsVerdict rules header content (Some t) LeftOut
  keeps : (t : Tree) → Spells rules header content t → least None (faults rules header t) ≡ None
      → is_selected rules header t ≡ true → IsVerdict rules header content (Some t) Kept
