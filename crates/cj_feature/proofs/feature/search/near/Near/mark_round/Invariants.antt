use Rattle.cj_feature.proofs.Common.{IsGuide, OnlyMarks}
use Rattle.cj_feature.proofs.feature.search.near.Near.mark_round.Given as goal

abbrev pub invariant-loop-block : goal.invariant-loop-block
invariant-loop-block g l = record {
  guide : IsGuide l.line l.tokens.elements l.self;
  marks : OnlyMarks l.fn.tokens l.tokens;
}
