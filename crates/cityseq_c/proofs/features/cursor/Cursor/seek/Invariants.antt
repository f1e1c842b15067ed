use Rattle.cityseq_c.proofs.Common.{length, place_of, seek, ◌-◌, ◌≡◌}
use Rattle.cityseq_c.proofs.features.cursor.Cursor.seek.Given as goal

abbrev pub invariant-loop-self : goal.invariant-loop-self
invariant-loop-self l = seek l.content (place_of l.initial.self) ≡ seek l.content (place_of l.self)

abbrev pub decreases-loop-self : goal.decreases-loop-self
decreases-loop-self l = length l.self.part.now - l.self.at
