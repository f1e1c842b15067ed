use Rattle.cj_feature.proofs.Common.{inl, inr, noted, ◌∙◌}
use Rattle.cj_feature.proofs.feature.search.reached.find_by_names.Goals as goal

pub loop-later-preserved : goal.loop-later-preserved
loop-later-preserved c =
    let inv = c.loop-later.invariant in
    let next = c.gather_next-count.ensures in
    record {
      same = next.length ∙ inv.same;
      line = next.line;
      source = next.source;
      left = λ p held marked item listed m among same.
          elim (inv.left p held marked item listed m among same) [
            | inl later ↦ elim (next.passed m later) [
              | inl k ↦ inl k
              | inr k ↦ inr (elim k [
                | inl has ↦ has
                | inr noted ↦
                    c.in_default.ensures.none p held marked item listed m among same noted
              ])
            ]
            | inr has ↦ inr has
          ];
    }
