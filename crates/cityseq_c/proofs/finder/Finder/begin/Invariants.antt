use Rattle.std.proofs.Common.{◌≡◌, ◌-◌, ◌≤◌, length}
use Rattle.cityseq_c.proofs.finder.Finder.begin.Given as goal

abbrev pub invariant-loop-self : goal.invariant-loop-self
invariant-loop-self l = (l.self.header ≡ l.initial.self.header) × (l.self.part ≡ l.initial.self.part)
    × (l.self.cursor.line ≤ l.line)

abbrev pub decreases-loop-self : goal.decreases-loop-self
decreases-loop-self l = length l.self.part.now - l.self.cursor.at
