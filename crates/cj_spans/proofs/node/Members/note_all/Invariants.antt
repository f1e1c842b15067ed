use Rattle.cj_spans.proofs.Common.{◌≡◌, ◌<◌, ◌-◌, true, map, are_apart, begin_apart, AreWhole, ShowMembers, members_left}
use Rattle.cj_spans.specs.inner.Noted.{AreNoted, members_from, is_noted}
use Rattle.cj_spans.proofs.node.Members.note_all.Given as goal

abbrev pub invariant-loop-next : goal.invariant-loop-next
invariant-loop-next l = record {
  begun : 0 < l.next;
  whole : AreWhole l.self.source.tokens.now l.next l.self.stop;
  named : ShowMembers l.self.source.line.now l.self.source.tokens.now l.next l.self.stop;
  noted : AreNoted l.self (members_from l.self l.next) l.places;
  apart : l.apart ≡ true
      → begin_apart (members_left l.self) ≡ are_apart (map is_noted l.places) (members_from l.self l.next);
}

abbrev pub decreases-loop-next : goal.decreases-loop-next
decreases-loop-next l = l.self.stop - l.next
