use Rattle.cityseq_c.proofs.Common.{arith}
use Rattle.cityseq_c.proofs.RecordLemmas.{line-kept}
use Rattle.cityseq_c.proofs.features.record_of.attributes_of.Goals as goal

pub returns-in-Some-clause-tree : goal.returns-in-Some-clause-tree
returns-in-Some-clause-tree c =
    grind arith

pub returns-in-Some-clause-line : goal.returns-in-Some-clause-line
returns-in-Some-clause-line c = line-kept _ _ c.get.result c.get.ensures.line c.in-Some.ensures.line

pub returns-in-None-clause-tree : goal.returns-in-None-clause-tree
returns-in-None-clause-tree c =
    grind arith
