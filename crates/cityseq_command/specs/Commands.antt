-- What `clap` gets of the command line: the program's commands, and the options of each.
use Rattle.std.specs.Prelude.{◌≡◌, ℕ, List, [], ◌∷◌, Option, Some, true, false, codes, decimal}
use Rattle.clap.specs.Words.{App, Rule, Text, app_of, fault_of, found_of, new_app, new_rule, rows_of, rule_of}
use Rattle.clap.specs.Words.{subcommand_of, with_rule, with_subcommand}
use Rattle.clap.specs.declared.builder.action.ArgAction.TheVariants.{SetTrue}
use Rattle.clap.specs.declared.builder.arg.Arg.{Arg}
use Rattle.clap.specs.declared.builder.command.Command.{Command}
use Rattle.clap.specs.declared.builder.command.Command.TheViews.{out-Command as fields_of}
use Rattle.clap.specs.declared.builder.value_parser.ValueParser.TheVariants.{Unsigned}
use Rattle.clap.specs.declared.parser.matches.ArgMatches.{ArgMatches}

-- an option of this name that takes a text
abbrev pub text_rule : Text → Rule
text_rule name = record (new_rule name) { long = Some name; value_names = 1 }

-- one that takes a number from the least to the most, with the one that is usual where none is given
abbrev pub number_rule : Text → ℕ → ℕ → ℕ → Rule
number_rule name usual least most =
    record (text_rule name) { defaults = decimal usual ∷ []; parser = Some (Unsigned least most) }

-- and one that takes none: it is given or not
abbrev pub flag_rule : Text → Rule
flag_rule name = record (new_rule name) { long = Some name; action = Some SetTrue }

-- the limits, of which each has its own usual number and its own range
abbrev pub line_rule : Rule
line_rule = number_rule (codes "line-limit") 8388608 1 1073741824

abbrev pub depth_rule : Rule
depth_rule = number_rule (codes "depth") 64 1 1024

-- ---- the commands

abbrev pub with_limits : App → App
with_limits a = with_rule (with_rule a line_rule) depth_rule

abbrev pub with_tree : App → App
with_tree a = with_rule a (flag_rule (codes "tree"))

abbrev pub with_extensions : App → App
with_extensions a = with_rule a (flag_rule (codes "extensions"))

abbrev pub with_keep_going : App → App
with_keep_going a = with_rule a (flag_rule (codes "keep-going"))

abbrev pub check_app : App
check_app = with_extensions (with_tree (with_keep_going (with_limits (new_app (codes "check")))))

abbrev pub filter_app : App
filter_app =
    let common = with_extensions (with_tree (with_keep_going (with_limits (new_app (codes "filter"))))) in
    let ids = with_rule (with_rule common (flag_rule (codes "exclude"))) (text_rule (codes "id")) in
    with_rule (with_rule (with_rule ids (text_rule (codes "type"))) (text_rule (codes "lod")))
    (text_rule (codes "bbox"))

abbrev pub info_app : App
info_app = with_extensions (with_tree (with_limits (new_app (codes "info"))))

-- the program, which needs a command
abbrev pub bare_app : App
bare_app =
    let a = new_app (codes "cityseq") in
    record a { top = record a.top { has_version = true; arg_required_else_help = true; subcommand_required = true } }

abbrev pub program_app : App
program_app = with_subcommand (with_subcommand (with_subcommand bare_app check_app.top) filter_app.top) info_app.top

-- ---- what was made of them

-- an argument that is this option
pub record IsOption (a : Arg) (r : Rule) : Type 0 where
  pub rule : rule_of a ≡ r
  pub local : a.global ≡ false

-- a command that is this one
pub record IsCommand (c : Command) (a : App) : Type 0 where
  pub app : app_of c ≡ a
  pub local : (fields_of c).has_globals ≡ false

-- the words have no fault, name this command, and give it these options
pub record IsCalled (words : List Text) (name : Text) (options : ArgMatches) : Type 0 where
  pub faultless : fault_of program_app words ≡ []
  pub named : subcommand_of program_app words ≡ Some (name, rows_of (found_of options))
