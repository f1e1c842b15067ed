use Rattle.cj_stream.proofs.Common.{chars, codes, items_if, items_left, member_of, own_classes, tree}
use Rattle.cj_stream.proofs.TallySinkLemmas.{Counting}
use Rattle.cj_stream.proofs.tally.adding.count_own.Given as goal

abbrev pub invariant-loop-geometry : goal.invariant-loop-geometry
invariant-loop-geometry l =
    Counting 6 l.initial.counts (own_classes (items_if (member_of (chars (codes "geometry")) (tree l.object)))) l.counts
    (own_classes (items_left l.geometry-iterator))
