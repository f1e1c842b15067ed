use Rattle.cj_decimal.proofs.Classes.{class}
use Rattle.cj_decimal.proofs.laws.one_class.Goals as goal

pub returns-clause-classified : goal.returns-clause-classified
returns-clause-classified c = class
