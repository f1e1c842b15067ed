use Rattle.cj_spans.proofs.Common.{◌≡◌, chars, first_named, member_of, tree, line_of, source_of, members_left, members_line, members_source}
use Rattle.cj_spans.proofs.node.Node.get.Given as goal

abbrev pub invariant-loop-key : goal.invariant-loop-key
invariant-loop-key l = record {
  value : first_named (chars l.name) (members_left l.key-iterator) ≡ member_of (chars l.name) (tree l.self);
  line : members_line l.key-iterator ≡ line_of l.self;
  source : members_source l.key-iterator ≡ source_of l.self;
}
