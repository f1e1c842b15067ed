use Rattle.std.proofs.Common.{refl}
use Rattle.cityseq_command.proofs.decline.write_wrong_words.Goals as goal

pub returns : goal.returns
returns g c = record { written = c.write_text.result; wrote = c.write_text.ensures; status = refl }
