use Rattle.cj_feature.proofs.Common.{drop, inl, inr, length, rules, take, take_at, ◌≡◌}
use Rattle.cj_feature.proofs.Questions.{noted-moved}
use Rattle.cj_feature.proofs.feature.search.unmarked.gather_next.Goals as goal

pub returns-clause-passed : goal.returns-clause-passed
returns-clause-passed c = λ m h.
    let objects = c.args.objects in
    let count = c.note_next-count.result in
    let sorted = c.sort.new.names in
    let rest = drop count c.note_next-count.new.names in
    let long : length sorted ≡ count = search rules in
    let e = take_at sorted rest count long in
    elim (c.note_next-count.ensures.passed m h) [
      | inl k ↦ inl k
      | inr k ↦ inr (elim k [
        | inl marked ↦ inl marked
        | inr n ↦ inr (rw e
            (noted-moved objects (take count c.note_next-count.new.names) sorted m.0 c.sort.ensures.moved n))
      ])
    ]
