use Rattle.cj_feature.proofs.Common.{ArePassed, length, line_of, members_left, members_line, members_source, source_of, take, ◌+◌, ◌≡◌, ◌≤◌}
use Rattle.cj_feature.proofs.feature.search.unmarked.note_next.Given as goal

abbrev pub invariant-loop-count : goal.invariant-loop-count
invariant-loop-count l = record {
  few : l.count ≤ length l.names;
  same : length l.names ≡ length l.fn.names;
  fewer : length (members_left l.later) + l.count ≤ length (members_left l.fn.later);
  passed : ArePassed l.objects (members_left l.fn.later) (members_left l.later) (take l.count l.names);
  line : members_line l.later ≡ line_of l.objects;
  source : members_source l.later ≡ source_of l.objects;
}

abbrev pub decreases-loop-count : goal.decreases-loop-count
decreases-loop-count l = length (members_left l.later)
