use Rattle.cityseq_c.proofs.Common.{feature_item, refl, arith}
use Rattle.cityseq_c.proofs.CursorLemmas.{left-record, listed-there, stored-record}
use Rattle.cityseq_c.proofs.features.listed.ListedLineSink.put.Goals as goal

pub returns-else-self-clause-ok : goal.returns-else-self-clause-ok
returns-else-self-clause-ok c =
    grind (arith, listed-there, left-record)

pub returns-then-self-clause-ok : goal.returns-then-self-clause-ok
returns-then-self-clause-ok c =
    listed-there (feature_item c.args.feature.now c.args._lf) c.args.self.now _ c.bytes.result.now c.bytes.ensures
    (c.in-Some.line, c.in-Some.begin)
    c.in-Some.ensures (stored-record _ c.args.self.now _ c.of.result refl c.if-self.true (c.of.ensures c.args._lf) refl
    refl)
