-- The command line that the judge takes, as the crate `clap` reads it.
use Rattle.std.specs.Prelude.{◌≡◌, Bool, List, [], ◌∷◌, Option, Some, None, true, false, codes, fold, if◌then◌else◌}
use Rattle.std.specs.Option.{option_map_or}
use Rattle.std.specs.Str.{bytes_eq}
use Rattle.clap.specs.Walk.{Row, Rule, Text, first_of}
use Rattle.clap.specs.Simple.{App, new_app, new_rule, subcommand_of, with_rule, with_subcommand}
use Rattle.clap.specs.Words.{app_of}
use Rattle.clap.specs.declared.builder.action.ArgAction.TheVariants.{SetTrue}
use Rattle.clap.specs.declared.builder.command.Command.{Command}
use Rattle.clap.specs.declared.builder.command.Command.TheViews.{out-Command}
use Rattle.clap.specs.Faults.{fault_of}
use Rattle.clap.specs.Kinds.{Kinds}

-- a word that must be there, told from others by its place
abbrev pub required_word : Text → Rule
required_word name = record (new_rule name) { required = true }

-- `--NAME VALUE` or `--NAME=VALUE`, with the value that stands where it is left out
abbrev pub option_or : Text → Text → Rule
option_or name default = record (new_rule name) { long = Some name; defaults = default ∷ [] }

-- the same with no value where it is left out
abbrev pub option_of : Text → Rule
option_of name = record (new_rule name) { long = Some name }

-- `--NAME` without a value
abbrev pub flag_of : Text → Rule
flag_of name = record (new_rule name) { long = Some name; action = Some SetTrue }

-- the choices of the implementation that is judged, and the name of a core that has them
abbrev pub choices_rules : List Rule
choices_rules =
    option_of (codes "profile")
    ∷ option_of (codes "misaligned")
    ∷ option_of (codes "mtval")
    ∷ option_of (codes "ad")
    ∷ option_of (codes "reserve")
    ∷ option_of (codes "bits")
    ∷ []

-- the choices of what rows show, and of its control and status registers
abbrev pub register_rules : List Rule
register_rules =
    option_of (codes "insn")
    ∷ option_of (codes "io-faults")
    ∷ option_of (codes "csr")
    ∷ option_of (codes "pmp")
    ∷ option_of (codes "pmp-bits")
    ∷ option_of (codes "lines")
    ∷ []

-- how the work is shared out
abbrev pub sharing_rules : List Rule
sharing_rules =
    option_or (codes "workers") (codes "4")
    ∷ option_or (codes "segment") (codes "4096")
    ∷ option_or (codes "window") (codes "64")
    ∷ []

-- a command with more that may follow its name
abbrev pub with_rules : App → List Rule → App
with_rules command rules = fold with_rule command rules

-- a command with the names of two files, as `judge` and `state` are
abbrev pub files_command : Text → App
files_command name =
    with_rules (with_rules (with_rules (with_rules (new_app name) (
    required_word (codes "image")
    ∷ required_word (codes "trace")
    ∷ option_of (codes "pc")
    ∷ option_or (codes "ram") (codes "0x80000000:0x8000000")
    ∷ option_of (codes "io")
    ∷ option_or (codes "harts") (codes "1")
    ∷ option_or (codes "max-image") (codes "0x40000000")
    ∷ option_or (codes "max-trace") (codes "0x10000000000")
    ∷ []
    )) choices_rules) register_rules) sharing_rules

-- `judge`, which alone takes the flag `--origin`
abbrev pub judge_command : App
judge_command = with_rule (files_command (codes "judge")) (flag_of (codes "origin"))

-- `make`, with two numbers
abbrev pub make_command : App
make_command =
    with_rules (with_rules (new_app (codes "make")) (
    required_word (codes "number")
    ∷ required_word (codes "rows")
    ∷ []
    )) sharing_rules

-- a command in code is this one, with no option that other commands take too
abbrev pub IsCommand : App → Command → Type 0
IsCommand app command = (app_of command ≡ app) × ((out-Command command).has_globals ≡ false)

-- the program's command line: its name, a command, what that command takes
unfoldable pub command_line : App
command_line =
    with_subcommand
    (with_subcommand (with_subcommand (new_app (codes "rvjudge")) judge_command.top)
    (files_command (codes "state")).top) make_command.top

-- what is found where there is no kind of error
abbrev pub unless_refused : {X : Type 0} → Kinds → Option X → Option X
unless_refused [] found = found
unless_refused (kind ∷ kinds) found = None

-- the command that the words name with what they give it, where a command line takes the words
unfoldable pub command_entered : App → List Text → Option (Text × List Row)
command_entered line words = unless_refused (fault_of line words) (subcommand_of line words)

-- what is given to the command of this name
abbrev pub values_given_to : Text → Option (Text × List Row) → Option (List Row)
values_given_to name None = None
values_given_to name (Some entered) = if bytes_eq entered.0 name then Some entered.1 else None

-- whether a flag of this name is given: its value is `true` where it is, and `false` where it is left out
abbrev pub is_given : Text → List Row → Bool
is_given name given = option_map_or (λ value. bytes_eq value (codes "true")) (first_of name given) false
