use Rattle.cityseq_command.proofs.Common.{ArgMatches, IfErr-weaker, IfOk-weaker, IsCalled, List, Option, Some, Text, option_map, program_app, ℕ, ◌≡◌, arith}
use Rattle.clap.specs.Words.{Row, subcommand_name_of, subcommand_of, subcommand_rows_of}
use Rattle.cityseq_command.specs.Words.{IsNoCommand, MayDecline, DeclinesOptions}
use Rattle.cityseq_command.specs.declared.asking.NoAsk.{NoAsk}
use Rattle.cityseq_command.proofs.asking.read_ask.Goals as goal

-- a name and rows that are those of one thing
module _ {B : Type 0} (f : B → List ℕ) (g : B → List Row) where
  abbrev both : B → List ℕ × List Row
  both b = (f b, g b)

  pair : (name : List ℕ) (rows : List Row) (o : Option B) → Some name ≡ option_map f o
      → Some rows ≡ option_map (λ (p : List ℕ × List Row). p.1) (option_map both o)
      → option_map both o ≡ Some (name, rows)
  pair name rows o e h = grind arith

called : (m : ArgMatches) (name : List ℕ) (rows : List Row) → Some name ≡ subcommand_name_of m
    → Some rows ≡ option_map (λ p. p.1) (subcommand_rows_of m) → subcommand_rows_of m ≡ Some (name, rows)
called m name rows e h = grind (arith, pair)

-- the words of a command that is none of the program's name none of them
other-command : (words : List Text) (name : List ℕ) (rows : List Row)
    → subcommand_of program_app words ≡ Some (name, rows) → IsNoCommand name → (other : List ℕ)
    → option_map (λ (p : List ℕ × List Row). p.0) (subcommand_of program_app words) ≡ Some other → IsNoCommand other
other-command words name rows is none other named =
    grind arith

-- what a command declines that the words name
may-decline : (words : List Text) (name : List ℕ) (options : ArgMatches) → IsCalled words name options → (why : NoAsk)
    → DeclinesOptions name options why → MayDecline words why
may-decline words name options is why declines = grind (arith, other-command)

pub returns-in-Some-clause-ok : goal.returns-in-Some-clause-ok
returns-in-Some-clause-ok c =
    grind (arith, called, IfOk-weaker)

pub returns-in-Some-clause-err : goal.returns-in-Some-clause-err
returns-in-Some-clause-err c =
    grind (arith, called, IfErr-weaker, may-decline)
