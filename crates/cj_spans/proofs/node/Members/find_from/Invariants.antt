use Rattle.cj_spans.proofs.Common.{◌≡◌, chars, first_named, members_left, members_source}
use Rattle.cj_spans.specs.inner.Noted.{members_from}
use Rattle.cj_spans.proofs.node.Members.find_from.Given as goal

abbrev pub invariant-loop-key : goal.invariant-loop-key
invariant-loop-key l = record {
  value : first_named (chars l.text) (members_left l.key-iterator)
      ≡ first_named (chars l.text) (members_from l.self l.place);
  source : members_source l.key-iterator ≡ members_source l.self;
}
