use Rattle.cityseq_command.proofs.Common.{digits, refl}
use Rattle.cityseq_command.proofs.words.usual_line.Goals as goal

pub returns : goal.returns
unfolding digits
returns c = refl
