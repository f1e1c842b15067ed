-- What lines are judged by: limits, a query and options.
use Rattle.std.specs.Prelude.{Bool}
use Rattle.cj_budget.specs.Meaning.Limits.{LimitPair}
use Rattle.cj_stream.specs.Meaning.Criteria.{Criteria}

-- whether reading goes on after an invalid line that is not the first; whether each city object has to be reached from
-- the main one of its feature; whether the features that satisfy the query are left out, in place of the others; and
-- whether types of extensions are known
pub record OptionSet : Type 0 where
  pub keep_going : Bool
  pub all_reached : Bool
  pub exclude : Bool
  pub extensions : Bool

-- the limits on a line, the query, and the options
pub record Rules : Type 0 where
  pub limits : LimitPair
  pub criteria : Criteria
  pub options : OptionSet
