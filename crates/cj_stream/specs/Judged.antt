-- The lines of a stream with their verdicts, computed. The laws say that no other list of judged lines is theirs.
use Rattle.std.specs.Prelude.{ℕ, ◌+◌, List, [], ◌∷◌, not, ◌&&◌, if◌then◌else◌, Option, Some, None, unwrap_or}
use Rattle.std.specs.List.{filter_map}
use Rattle.cj_spans.specs.Meaning.Judgement.{Judgement, spelled, broken, sunk}
use Rattle.cj_spans.specs.Meaning.Tree.{Tree, array, no_items}
use Rattle.cj_spans.proofs.Judgements.{judgement}
use Rattle.cj_stream.specs.Bound.{is_text}
use Rattle.cj_stream.specs.Items.{Item}
use Rattle.cj_stream.specs.Meaning.Judged.{JudgedLine, handled}
use Rattle.cj_stream.specs.Meaning.Lines.{Line, lines}
use Rattle.cj_stream.specs.Meaning.Rules.{Rules}
use Rattle.cj_stream.specs.Meaning.Verdict.{Verdict, Invalid, Blank, LeftOut, Kept, is_blank}
use Rattle.cj_stream.specs.Verdict.{verdict_at}

-- the tree that a content spells, if it spells one
abbrev pub spelled_tree : {c : List ℕ} {depth : ℕ} → Judgement c depth → Option Tree
spelled_tree (spelled tree json shallow) = Some tree
spelled_tree (broken place syntax shallow) = None
spelled_tree (sunk place deep) = None

-- the tree of a content that is read
abbrev pub read_tree : Rules → Option Tree → List ℕ → Option Tree
read_tree rules header content =
    if is_text rules.limits content && not (is_blank header content)
    then spelled_tree (judgement content rules.limits.depth) else None

-- a line judged with its number beside a header; the verdict on the first line does not depend on the tree beside it
abbrev pub judged_at : Rules → ℕ → Option Tree → Line → JudgedLine
judged_at rules number header l = record {
  number = number;
  line = l;
  header = header;
  tree = read_tree rules header l.content;
  verdict = verdict_at rules number (unwrap_or header (array 0 0 no_items)) l.content;
}

-- the later lines, from this number on
abbrev pub judged_later : Rules → Tree → ℕ → List Line → List JudgedLine
judged_later rules header number [] = []
judged_later rules header number (l ∷ ls) =
    judged_at rules number (Some header) l ∷ judged_later rules header (number + 1) ls

-- the lines after a first one with this verdict and this tree
abbrev pub judged_behind : Rules → Verdict → Option Tree → List Line → List JudgedLine
judged_behind rules Kept (Some header) ls = judged_later rules header 2 ls
judged_behind rules Kept None ls = []
judged_behind rules (Invalid place reason) tree ls = []
judged_behind rules Blank tree ls = []
judged_behind rules LeftOut tree ls = []

-- a kept line as what is put to a sink
abbrev pub item_by : Line → Option Tree → Option Tree → Verdict → Option Item
item_by line header (Some tree) Kept = Some (record { line = line; tree = tree; header = header })
item_by line header tree verdict = None

abbrev pub item_of : JudgedLine → Option Item
item_of j = item_by j.line j.header j.tree j.verdict

-- what is kept
abbrev pub kept_in : Rules → List JudgedLine → List Item
kept_in rules js = filter_map item_of (handled rules js)

-- the lines of a text, and those of a stream
abbrev pub judged_list : Rules → List Line → List JudgedLine
judged_list rules [] = []
judged_list rules (l ∷ ls) =
    let first = judged_at rules 1 None l in first ∷ judged_behind rules first.verdict first.tree ls

abbrev pub judged_lines : Rules → List ℕ → List JudgedLine
judged_lines rules s = judged_list rules (lines s)
