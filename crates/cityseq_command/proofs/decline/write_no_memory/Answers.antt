use Rattle.cityseq_command.proofs.decline.write_no_memory.Goals as goal

pub returns : goal.returns
returns g c =
    record { written = c.write_fault_line.result; wrote = c.write_fault_line.ensures; status = c.status.ensures }
