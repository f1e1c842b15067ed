use Rattle.std.proofs.Common.{refl}
use Rattle.cj_stream.proofs.tally.TallySinkLineSink.put.Goals as goal

pub returns-clause-ok : goal.returns-clause-ok
returns-clause-ok c = rw (← c.self.view_is) (record {
  features = c.saturating_add-self-inside.ensures;
  types = c.count_objects.ensures.types;
  lods = c.count_objects.ensures.lods;
  ranges = c.widen_all.ensures;
  scale = refl;
  translate = refl;
})
