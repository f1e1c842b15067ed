use Rattle.cityseq_command.proofs.decline.write_declined_query.Goals as goal

pub returns : goal.returns
returns g c =
    record {
      written = c.write_query_fault.result;
      wrote = c.write_query_fault.ensures;
      status = c.query_status.ensures;
    }
