use Rattle.cj_geometry.proofs.Values.{count, has-number, has-level, of-name, type-number, same-row}
use Rattle.cj_geometry_tests.proofs.examples.table_of_object_types.Goals as goal

pub returns : goal.returns
returns c =
    record {
      count = count;
      number = has-number;
      level = has-level;
      name = of-name;
      types = type-number;
      apart = same-row;
    }
