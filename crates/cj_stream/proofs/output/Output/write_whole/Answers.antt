use Rattle.std.proofs.Common.{◌++◌, sym, take}
use Rattle.cj_stream.proofs.FinishLemmas.{taken-is}
use Rattle.cj_stream.proofs.OutputLemmas.{taken_more}
use Rattle.std.proofs.KnownBytes.{Appends-trans}
use Rattle.cj_stream.proofs.output.Output.write_whole.Goals as goal

pub loop-rest-preserved : goal.loop-rest-preserved
loop-rest-preserved g c =
    let i = c.loop-rest.invariant in
    let rest = c.loop-rest.rest.now in
    let is = taken-is _ _ (sym c.in-Ok.ensures) in (
      (
        i.0.0 ++ take c.in-Ok.n rest,
        taken_more _ _ _ _ (rw is at c.write.ensures.bound) i.0.1,
        Appends-trans _ _ _ _ _
            i.0.2 (rw is at c.write.ensures.bytes),
      ),
      i.1,
      i.2,
    )
