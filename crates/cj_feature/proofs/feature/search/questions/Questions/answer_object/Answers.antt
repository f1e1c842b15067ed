use Rattle.cj_feature.proofs.Common.{arith, common_steps, length, members_left, noted, rules, slice_get_within, sym, trees, ◌<◌, ◌∙◌}
use Rattle.cj_feature.proofs.Questions.{left_unasked, left_flagged}
use Rattle.cj_feature.proofs.feature.search.questions.Questions.answer_object.Goals as goal

pub returns-in_default : goal.returns-in_default
returns-in_default g c =
    let a = c.args.self.now in
    record {
      few = c.requires.answered.few;
      order = c.requires.answered.order;
      listed = c.requires.answered.listed;
      known = left_unasked c.args.objects (noted a) a.known (trees (c.args.name, c.args.object))
          (members_left c.args.later) c.requires.answered.known
          (λ i f. sym c.in_default.is
          ∙ c.first_on.ensures.only i (rw c.of-from.ensures f));
    }

pub answer_items-requires : goal.answer_items-requires
answer_items-requires g c =
    let a = c.args.self.now in
    let rest = members_left c.args.later in
    let below : c.in-Some.place < length (noted a) =
    slice_get_within (noted a) c.in-Some.place c.in-Some.ensures.first.question c.in-Some.ensures.first.stands in (
      search rules,
      (
        record {
          few = c.requires.answered.few;
          order = c.requires.answered.order;
          listed = c.requires.answered.listed;
          known = rw c.set_flag.ensures
              (left_flagged c.args.objects (noted a) a.known (trees (c.args.name, c.args.object)) rest
              c.requires.answered.known c.in-Some.place (grind (arith, common_steps))
              (λ i f. sym c.in-Some.is
              ∙ c.first_on.ensures.only i
              (rw c.of-from.ensures f)));
        },
        λ f t h k. c.requires.listed f t (rw c.of-from.ensures at h) k,
      ),
    )
