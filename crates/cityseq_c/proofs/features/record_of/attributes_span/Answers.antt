use Rattle.cityseq_c.proofs.Common.{arith}
use Rattle.cityseq_c.proofs.RecordLemmas.{no-span, span-of}
use Rattle.cityseq_c.proofs.features.record_of.attributes_span.Goals as goal

pub returns-in-Some : goal.returns-in-Some
returns-in-Some c =
    grind (arith, span-of)

pub returns-in-None : goal.returns-in-None
returns-in-None c =
    grind (arith, no-span)
