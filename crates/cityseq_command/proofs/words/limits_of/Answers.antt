use Rattle.cityseq_command.proofs.Common.{ArgMatches, IfErr, IsErrOf, Result, ℕ, arith}
use Rattle.cj_budget.specs.Limits.{InLine, InDepth}
use Rattle.cj_budget.specs.declared.limits.LimitFault.{LimitFault}
use Rattle.cj_budget.specs.declared.limits.LimitFault.TheVariants.{LineLimit, DepthLimit}
use Rattle.cityseq_command.specs.Words.{HasLimits, DeclinesLimits}
use Rattle.cityseq_command.proofs.words.limits_of.Goals as goal

-- the first limit that is out of its range is that of the numbers that were given
module _ {T : Type 0} (m : ArgMatches) (line depth : ℕ) (given : HasLimits m (record { line = line; depth = depth }))
  where
    declines : (r : Result T LimitFault) → (IsErrOf r LineLimit → ¬ InLine line)
        → (IsErrOf r DepthLimit → InLine line × ¬ InDepth depth) → IfErr r (DeclinesLimits m)
    declines r lines depths = grind arith

pub returns-clause-err : goal.returns-clause-err
returns-clause-err c =
    grind (arith, declines)
