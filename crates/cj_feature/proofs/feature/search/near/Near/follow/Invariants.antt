use Rattle.cj_feature.proofs.Common.{IsGuide, OnlyMarks}
use Rattle.cj_feature.proofs.feature.search.near.Near.follow.Given as goal

abbrev pub invariant-loop : goal.invariant-loop
invariant-loop g l = record {
  guide : IsGuide l.line l.tokens.elements l.self;
  marks : OnlyMarks l.fn.tokens l.tokens;
}
