use Rattle.cj_feature.proofs.Common.{arith, chars, common_steps, refl, rules, take-append-le}
use Rattle.cj_feature.proofs.Questions.{none_listed}
use Rattle.cj_feature.proofs.feature.search.questions.Questions.ask.Goals as goal

pub answer_all-requires : goal.answer_all-requires
answer_all-requires g c = (
  search rules,
  record {
    few = grind (arith, common_steps);
    order = rw (take-append-le c.gather-self.result c.gather-self.new.questions _ c.gather-self.ensures.few)
        c.gather-self.ensures.order;
    listed = none_listed c.args.objects _ (chars c.args.list.now) _ c.clear-2.ensures;
    known = λ t i f clear. refl;
  },
)
