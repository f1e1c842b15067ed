-- The items that a header, a feature and a line are.
use Rattle.std.specs.Prelude.{ℕ, List, Bool, ◌==◌, if◌then◌else◌, Some, None}
use Rattle.cj_spans.specs.Meaning.Tree.{Tree, no_items, array}
use Rattle.cj_spans.specs.Meaning.Judgement.{Judgement, spelled, broken, sunk}
use Rattle.cj_spans.proofs.Judgements.{judgement}
use Rattle.cj_feature.specs.declared.header.Header.{Header}
use Rattle.cj_feature.specs.declared.feature.Feature.{Feature}
use Rattle.cj_feature.specs.HeaderView.{header_tree, header_line}
use Rattle.cj_feature.specs.View.{feature_tree, feature_line, feature_header}
use Rattle.cj_stream.specs.Items.{Item}
use Rattle.cj_stream.specs.Meaning.Lines.{Line}

-- the item that a header is, and the one that a feature is, with or without LF
abbrev pub header_item : Header → Bool → Item
header_item h lf = record { line = record { content = header_line h; lf = lf }; tree = header_tree h; header = None }

abbrev pub feature_item : Feature → Bool → Item
feature_item f lf = record {
  line = record { content = feature_line f; lf = lf };
  tree = feature_tree f;
  header = Some (feature_header f);
}

-- the tree that a content spells under a depth limit, by its one judgement, or an empty array where it spells none
abbrev pub judged_tree : {c : List ℕ} {depth : ℕ} → Judgement c depth → Tree
judged_tree (spelled tree json shallow) = tree
judged_tree (broken place syntax shallow) = array 0 0 no_items
judged_tree (sunk place deep) = array 0 0 no_items

abbrev pub tree_of : ℕ → List ℕ → Tree
tree_of depth c = judged_tree (judgement c depth)

-- the item that a line is under a depth limit, by its number and the tree of the header
abbrev pub item_at : ℕ → ℕ → Tree → Line → Item
item_at depth number header l =
    record { line = l; tree = tree_of depth l.content; header = if number == 1 then None else Some header }
