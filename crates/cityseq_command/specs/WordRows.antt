-- What small command lines name and give, and what is wrong with others.
use Rattle.std.specs.Prelude.{◌≡◌, ℕ, List, [], ◌∷◌, Option, Some, codes, option_map}
use Rattle.clap.specs.Words.{Text, fault_of, first_of, subcommand_of}
use Rattle.clap.specs.declared.error.kind.ErrorKind.TheVariants.{DisplayHelp, DisplayHelpOnMissingArgumentOrSubcommand}
use Rattle.clap.specs.declared.error.kind.ErrorKind.TheVariants.{UnknownArgument, ValueValidation}
use Rattle.cityseq_command.specs.Commands.{program_app}
use Rattle.cityseq_command.specs.Words.{AsksFor, IsNumeral64, MayDecline, number_in}
use Rattle.cityseq_command.specs.declared.ask.Ask.{Ask}
use Rattle.cityseq_command.specs.declared.asking.NoAsk.TheVariants.{NoCommand}

-- the command that the words name, and the text that it has of this option
abbrev pub found_in : List Text → Text → Option (Text × Option Text)
found_in words option = option_map (λ p. (p.0, first_of option p.1))
    (subcommand_of program_app (codes "cityseq" ∷ words))

-- the limits that hold where none is given
abbrev pub UsualRow : Type 0
UsualRow =
    (found_in (codes "check" ∷ []) (codes "line-limit") ≡ Some (codes "check", Some (codes "8388608")))
    × (found_in (codes "check" ∷ []) (codes "depth") ≡ Some (codes "check", Some (codes "64")))
    × (found_in (codes "info" ∷ []) (codes "tree") ≡ Some (codes "info", Some (codes "false")))

-- a limit and a text that are given, and an option that takes none
abbrev pub GivenRow : Type 0
GivenRow =
    let words = codes "filter" ∷ codes "--depth" ∷ codes "7" ∷ codes "--id=b" ∷ codes "--exclude" ∷ [] in
    (found_in words (codes "depth") ≡ Some (codes "filter", Some (codes "7")))
    × (found_in words (codes "line-limit") ≡ Some (codes "filter", Some (codes "8388608")))
    × (found_in words (codes "id") ≡ Some (codes "filter", Some (codes "b")))
    × (found_in words (codes "exclude") ≡ Some (codes "filter", Some (codes "true")))

-- these words of a command have no fault, and give an option this text, which spells this number
pub record Spells (words : List Text) (option text : Text) (number : ℕ) : Type 0 where
  pub faultless : fault_of program_app (codes "cityseq" ∷ codes "check" ∷ words) ≡ []
  pub found : found_in (codes "check" ∷ words) option ≡ Some (codes "check", Some text)
  pub is : IsNumeral64 text
  pub spelled : number_in text ≡ number

-- limits with zeros or a plus before their digits
abbrev pub SpelledRow : Type 0
SpelledRow =
    Spells (codes "--depth" ∷ codes "007" ∷ []) (codes "depth") (codes "007") 7
    × Spells (codes "--line-limit=+209" ∷ []) (codes "line-limit") (codes "+209") 209

-- a file that is named, an option that a command does not take, a limit that is out of its range, no word at all, and
-- help
abbrev pub FaultRow : Type 0
FaultRow =
    (fault_of program_app (codes "cityseq" ∷ codes "check" ∷ codes "town.city.jsonl" ∷ []) ≡ UnknownArgument ∷ [])
    × (fault_of program_app (codes "cityseq" ∷ codes "info" ∷ codes "--keep-going" ∷ []) ≡ UnknownArgument ∷ [])
    × (fault_of program_app (codes "cityseq" ∷ codes "check" ∷ codes "--depth=1025" ∷ []) ≡ ValueValidation ∷ [])
    × (fault_of program_app (codes "cityseq" ∷ []) ≡ DisplayHelpOnMissingArgumentOrSubcommand ∷ [])
    × (fault_of program_app (codes "cityseq" ∷ codes "--help" ∷ []) ≡ DisplayHelp ∷ [])
    × (fault_of program_app (codes "cityseq" ∷ codes "check" ∷ []) ≡ [])

-- so a file that is named is judged by nothing; and that no command is named is said of no words that have a fault: no
-- word at all, help, the version, and a command that is misspelt
abbrev pub UnaskedRow : Type 0
UnaskedRow =
    ((ask : Ask) → ¬ AsksFor (codes "cityseq" ∷ codes "check" ∷ codes "town.city.jsonl" ∷ []) ask)
    × ¬ MayDecline (codes "cityseq" ∷ []) NoCommand
    × ¬ MayDecline (codes "cityseq" ∷ codes "--help" ∷ []) NoCommand
    × ¬ MayDecline (codes "cityseq" ∷ codes "-V" ∷ []) NoCommand
    × ¬ MayDecline (codes "cityseq" ∷ codes "chekc" ∷ []) NoCommand
