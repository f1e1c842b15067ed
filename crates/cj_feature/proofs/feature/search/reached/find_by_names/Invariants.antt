use Rattle.cj_feature.proofs.Common.{Contains, IsMarkedBy, Tree, chars, codes, length, line_of, listed_in, members_left, members_line, members_of, members_source, same_text, source_of, tree, true, ◌≡◌, ◌⊎◌}
use Rattle.cj_feature.proofs.feature.search.reached.find_by_names.Given as goal

-- what is listed by one with a mark, is one of the later city objects or has a mark
abbrev pub invariant-loop-later : goal.invariant-loop-later
invariant-loop-later l = record {
  same : length l.names ≡ length l.fn.names;
  line : members_line l.later ≡ line_of l.objects;
  source : members_source l.later ≡ source_of l.objects;
  left : (p : Tree × Tree) → Contains (members_of (tree l.objects)) p → IsMarkedBy l.objects p.1 → (item : Tree)
      → Contains (listed_in (chars (codes "children")) p.1) item
      → (m : Tree × Tree) → Contains (members_of (tree l.objects)) m → same_text m.0 item ≡ true
      → Contains (members_left l.later) m ⊎ IsMarkedBy l.objects m.1;
}

abbrev pub decreases-loop-later : goal.decreases-loop-later
decreases-loop-later l = length (members_left l.later)
