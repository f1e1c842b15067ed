use Rattle.std.proofs.Common.{rules}
use Rattle.cj_feature.proofs.Questions.{in_order}
use Rattle.cj_feature.proofs.feature.search.questions.order.sort.Goals as goal

pub returns : goal.returns
returns c = in_order c.args.objects _ c.sort_unstable_by.ensures.sorted (λ a r f k. search rules)
