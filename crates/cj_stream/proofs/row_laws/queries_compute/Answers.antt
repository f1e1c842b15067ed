use Rattle.cj_stream.proofs.QueryRowLemmas.{ids, types, extensions, names, memory, lods, instance, within, outside, each}
use Rattle.cj_stream.proofs.row_laws.queries_compute.Goals as goal

pub returns : goal.returns
returns c =
    record {
      ids = ids;
      types = types;
      extensions = extensions;
      names = names;
      memory = memory;
      lods = lods;
      instance = instance;
      in_box = within;
      out_of_box = outside;
      each = each;
    }
