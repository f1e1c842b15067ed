use Rattle.cj_feature.proofs.Common.{units_of}
use Rattle.cj_feature.proofs.Rules.{fixed-units, test-fixed}
use Rattle.cj_feature.proofs.laws.fixed_numbers_are_fixed.Goals as goal

pub returns : goal.returns
returns c = record {
  fixed = λ n normal. (λ is. (units_of n, fixed-units n is), test-fixed n normal);
  units = λ n is. fixed-units n is;
}
