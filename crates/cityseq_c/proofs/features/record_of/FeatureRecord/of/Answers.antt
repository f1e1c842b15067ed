use Rattle.cityseq_c.proofs.Common.{None, [], ap, get_or, length, refl, spelling_of, tree, ◌∙◌}
use Rattle.cityseq_c.proofs.RoomLemmas.{nothing-ranged, ranges-shown}
use Rattle.cityseq_c.proofs.features.record_of.FeatureRecord.of.Goals as goal

pub returns : goal.returns
returns c lf = record {
  line = refl;
  begin = refl;
  long = ap length c.bytes.ensures;
  id = record {
    id = tree c.id-id.result;
    member = c.id-id.ensures.tree;
    begin = c.start.ensures;
    long = ap length c.bytes-2.ensures.spelling
        ∙ ap (λ l. length (spelling_of l (tree c.id-id.result))) c.id-id.ensures.line;
  };
  attributes = c.attributes_span-attributes_begin.ensures;
  objects = c.tally_objects-objects.ensures.count;
  geometries = c.tally_geometries-geometries.ensures.count;
  types = c.tally_objects-objects.ensures.types;
  lods = c.tally_geometries-geometries.ensures.lods;
  ranges = λ axis small. record {
    range = get_or c.widen_all.new.ranges axis None;
    ends = c.widen_all.ensures axis small [] (nothing-ranged axis small);
    shown = ranges-shown c.widen_all.new.ranges c.range_of.result c.range_of-2.result c.range_of-3.result
        c.range_of.ensures c.range_of-2.ensures c.range_of-3.ensures axis small;
  };
}
