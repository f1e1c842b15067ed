use Rattle.cityseq_c.proofs.Common.{drop, map, name_in, type_words, ◌≡◌}
use Rattle.cj_geometry.specs.ObjectTypes.{row_at}
use Rattle.cityseq_c.proofs.words.type_name.Given as goal

abbrev pub invariant-loop-object_type : goal.invariant-loop-object_type
invariant-loop-object_type l = name_in l.number (map row_at (drop l.object_type-index l.object_type-items))
    ≡ type_words l.number
