-- What the words of a command line say, as `clap` found it.
use Rattle.std.specs.Prelude.{◌≡◌, ◌≢◌, ℕ, ◌<◌, ◌^◌, List, [], Bool, true, false, Some, None, Ok, codes, option_map}
use Rattle.std.specs.Str.Parse.{IsNumeral, digits_value, without_leading_plus}
use Rattle.clap.specs.Words.{HasKind, Text, fault_of, found_of, first_value, one_text, subcommand_of}
use Rattle.clap.specs.declared.parser.matches.ArgMatches.{ArgMatches}
use Rattle.cj_budget.specs.Meaning.Limits.{LimitPair}
use Rattle.cj_budget.specs.Limits.{InLine, InDepth}
use Rattle.cj_budget.specs.declared.limits.LimitFault.{LimitFault}
use Rattle.cj_budget.specs.declared.limits.LimitFault.TheVariants.{LineLimit, DepthLimit}
use Rattle.cj_stream.specs.Meaning.Rules.{OptionSet}
use Rattle.cj_stream.specs.Query.{criteria}
use Rattle.cj_stream.specs.declared.query.fault.QueryFault.{QueryFault}
use Rattle.cityseq_command.specs.Commands.{IsCalled, program_app}
use Rattle.cityseq_command.specs.Options.{Texts, criteria_by, DeclinesTexts}
use Rattle.cityseq_command.specs.declared.ask.Ask.{Ask}
use Rattle.cityseq_command.specs.declared.ask.Ask.TheVariants.{Check, Filter, Info}
use Rattle.cityseq_command.specs.declared.asking.NoAsk.{NoAsk}
use Rattle.cityseq_command.specs.declared.asking.NoAsk.TheVariants.{Words, NoCommand, Limits, Query}

-- the texts of the options of a query that a command was given
abbrev pub texts_in : ArgMatches → Texts
texts_in m = record {
  ids = first_value (found_of m) (codes "id");
  types = first_value (found_of m) (codes "type");
  lods = first_value (found_of m) (codes "lod");
  box = first_value (found_of m) (codes "bbox");
}

-- the number that decimal digits spell, as std reads them: a plus may come first, and zeros before other digits
abbrev pub number_in : Text → ℕ
number_in text = digits_value 10 (without_leading_plus text)

-- a text spells a number of 64 bits so
abbrev pub IsNumeral64 : Text → Type 0
IsNumeral64 text = IsNumeral 10 (without_leading_plus text) × (number_in text < 2 ^ 64)

-- an option that takes a number has this one: the usual one where it has no text, and else the one that its text spells
pub record HasNumber (m : ArgMatches) (option : Text) (usual number : ℕ) : Type 0 where
  pub none : one_text (found_of m) option ≡ None → number ≡ usual
  pub some : (text : Text) → one_text (found_of m) option ≡ Some text → IsNumeral64 text → number ≡ number_in text

-- the limits that a command was given
pub record HasLimits (m : ArgMatches) (limits : LimitPair) : Type 0 where
  pub line : HasNumber m (codes "line-limit") 8388608 limits.line
  pub depth : HasNumber m (codes "depth") 64 limits.depth

-- of these limits this one is the first that is out of its range
abbrev pub IsOutOfRange : LimitFault → LimitPair → Type 0
IsOutOfRange LineLimit limits = ¬ InLine limits.line
IsOutOfRange DepthLimit limits = InLine limits.line × ¬ InDepth limits.depth

-- a command was given limits, and this is the first one that is out of its range
pub record DeclinesLimits (m : ArgMatches) (fault : LimitFault) : Type 0 where
  pub limits : LimitPair
  pub given : HasLimits m limits
  pub out_of_range : IsOutOfRange fault limits

-- an option without a text is given, or not
pub record HasFlag (m : ArgMatches) (option : List ℕ) (given : Bool) : Type 0 where
  pub none : one_text (found_of m) option ≡ None → given ≡ false
  pub yes : one_text (found_of m) option ≡ Some (codes "true") → given ≡ true
  pub no : one_text (found_of m) option ≡ Some (codes "false") → given ≡ false

-- the options that `check` was given, and none that it does not take
pub record HasCheckOptions (m : ArgMatches) (options : OptionSet) : Type 0 where
  pub keep_going : HasFlag m (codes "keep-going") options.keep_going
  pub tree : HasFlag m (codes "tree") options.all_reached
  pub extensions : HasFlag m (codes "extensions") options.extensions
  pub exclude : options.exclude ≡ false

-- the options that `filter` was given
pub record HasFilterOptions (m : ArgMatches) (options : OptionSet) : Type 0 where
  pub keep_going : HasFlag m (codes "keep-going") options.keep_going
  pub tree : HasFlag m (codes "tree") options.all_reached
  pub extensions : HasFlag m (codes "extensions") options.extensions
  pub exclude : HasFlag m (codes "exclude") options.exclude

-- the options that `info` was given, and none that it does not take
pub record HasInfoOptions (m : ArgMatches) (options : OptionSet) : Type 0 where
  pub tree : HasFlag m (codes "tree") options.all_reached
  pub extensions : HasFlag m (codes "extensions") options.extensions
  pub keep_going : options.keep_going ≡ false
  pub exclude : options.exclude ≡ false

-- a command of this name with these options asks for this
abbrev pub AsksBy : List ℕ → ArgMatches → Ask → Type 0
AsksBy name m (Check limits options) = (name ≡ codes "check") × HasLimits m limits × HasCheckOptions m options
AsksBy name m (Filter limits query options) = (name ≡ codes "filter") × HasLimits m limits
    × (criteria_by options.extensions (texts_in m) ≡ Ok (criteria query)) × HasFilterOptions m options
AsksBy name m (Info limits options) = (name ≡ codes "info") × HasLimits m limits × HasInfoOptions m options

-- a command of this name with these options cannot be asked: it is `filter`, and this is the first fault of its texts
abbrev pub CannotAsk : List ℕ → ArgMatches → QueryFault → Type 0
CannotAsk name m fault = (name ≡ codes "filter")
    × (extensions : Bool) × HasFlag m (codes "extensions") extensions × DeclinesTexts extensions (texts_in m) fault

-- a name is that of no command of the program
abbrev pub IsNoCommand : List ℕ → Type 0
IsNoCommand name = (name ≢ codes "check") × (name ≢ codes "filter") × (name ≢ codes "info")

-- the words ask for this, the program's name first: they have no fault, and name a command and give it options that ask
-- for it
abbrev pub AsksFor : List Text → Ask → Type 0
AsksFor words ask = (name : List ℕ) × (options : ArgMatches) × IsCalled words name options × AsksBy name options ask

-- what a command of this name asks for with these options cannot be done: it is none of the program's; this is the
-- first limit that is out of its range; or this is the first fault of its texts
abbrev pub DeclinesOptions : List ℕ → ArgMatches → NoAsk → Type 0
DeclinesOptions name m (Words error) = ⊥
DeclinesOptions name m NoCommand = IsNoCommand name
DeclinesOptions name m (Limits fault) = DeclinesLimits m fault
DeclinesOptions name m (Query fault) = CannotAsk name m fault

-- what these words ask for cannot be done: by the rules of `clap` they have a fault or ask for help, or memory was
-- refused to it; or they have no fault, and name no command of the program, or one that declines its limits or its
-- query
abbrev pub MayDecline : List Text → NoAsk → Type 0
MayDecline words (Words error) = HasKind (fault_of program_app words) error
MayDecline words NoCommand = (fault_of program_app words ≡ [])
    × ((name : List ℕ) → option_map (λ p. p.0) (subcommand_of program_app words) ≡ Some name → IsNoCommand name)
MayDecline words (Limits fault) = (name : List ℕ) × (options : ArgMatches) × IsCalled words name options
    × DeclinesOptions name options (Limits fault)
MayDecline words (Query fault) = (name : List ℕ) × (options : ArgMatches) × IsCalled words name options
    × DeclinesOptions name options (Query fault)
