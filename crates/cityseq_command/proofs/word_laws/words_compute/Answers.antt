use Rattle.cityseq_command.proofs.Common.{List, [], digits, ◌∷◌, ◌≡◌, arith}
use Rattle.clap.proofs.OnLiterals.{clap_on_literals}
use Rattle.clap.specs.declared.error.kind.ErrorKind.{ErrorKind}
use Rattle.cityseq_command.proofs.word_laws.words_compute.Goals as goal

-- there is a fault
faulty : (kind : ErrorKind) (others : List ErrorKind) → kind ∷ others ≡ [] → ⊥
faulty kind others none = cc

pub returns : goal.returns
unfolding digits clap_on_literals
returns c =
    grind (arith, faulty)
