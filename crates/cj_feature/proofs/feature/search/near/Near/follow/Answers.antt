use Rattle.cj_feature.proofs.Common.{Json, Tree, arith, rules, spans_of}
use Rattle.cj_spans.proofs.Scanned.{length-spans_of}
use Rattle.cj_feature.proofs.NearLemmas.{guide-on, same-hand}
use Rattle.cj_feature.proofs.feature.search.near.Near.follow.Goals as goal

pub returns-in_default-clause-guide : goal.returns-in_default-clause-guide
returns-in_default-clause-guide g c =
    search (rules, guide-on, same-hand, c.loop.invariant.guide, c.pop.ensures.pending)

pub mark-requires : goal.mark-requires
mark-requires g c =
    let line = c.args.line.now in
    let spans = spans_of c.loop.tokens.elements in
    let guide = c.loop.invariant.guide in
    let number = λ (f : Tree) (j : Json line f). c.in-Some.ensures.number f line spans (guide.waiting f j) in
    let within = (number guide.of.tree guide.of.json).0 in
    let same = length-spans_of c.loop.tokens.elements in (
      search rules,
      (
        guide-on guide same-hand (λ f j waits. c.pop.ensures.pending f line spans waits),
        (omega arith, λ f j. (number f j).1),
      ),
    )
