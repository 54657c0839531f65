-- The command line as data, and what a parse by it says.
use Rattle.std.proofs.Common.{◌≡◌, ◌∙◌, Bool, true, false, ◌||◌, List, [], ◌∷◌, Option, None, refl, sym, ap, ap₂, inl}
use Rattle.std.proofs.Common.{inr}
use Rattle.clap.specs.Words.{AddsArg, App, Row, Rule, Text, app_of, built, fault_of, is_simple, is_simple_and_free}
use Rattle.clap.specs.Words.{kind_of, rule_of, subcommand_of, with_rule}
use Rattle.clap.specs.Faults.{is_free_app}
use Rattle.clap.specs.Kinds.{HasKind, Kinds}
use Rattle.clap.proofs.WalkLemmas.{both}
use Rattle.clap.specs.declared.builder.arg.Arg.{Arg}
use Rattle.clap.specs.declared.builder.command.Command.{Command}
use Rattle.clap.specs.declared.builder.command.Command.TheViews.{out-Command}
use Rattle.clap.specs.declared.error.Error.{Error}
use Rattle.clap.specs.declared.error.kind.ErrorKind.TheVariants.{OutOfMemory}
use Rattle.clap.proofs.OnLiterals.{clap_on_literals}
use Rattle.judge_words.specs.Commands.{command_entered, command_line, unless_refused}

-- clap's definition is exact of this command line
pub command_line-is_simple : is_simple_and_free command_line ≡ true
unfolding command_line clap_on_literals
command_line-is_simple = refl

-- one argument more, where none is global
pub adds_rule : {old new : Command} {arg : Arg} {app : App} {rule : Rule} → AddsArg old arg new
    → app_of old ≡ app → (out-Command old).has_globals ≡ false → rule_of arg ≡ rule → arg.global ≡ false
    → (app_of new ≡ with_rule app rule) × ((out-Command new).has_globals ≡ false)
adds_rule added is none fits local = (
  added.shape local ∙ ap₂ with_rule is fits,
  added.globals ∙ ap₂ (λ (a b : Bool). a || b) none local,
)

-- clap's matches are exact of such a line
pub is_simple-part : (line : App) → is_simple_and_free line ≡ true → is_simple line ≡ true
is_simple-part line simple = (both (is_simple line) (is_free_app (built line)) simple).0

-- words at which nothing can fail enter what the line says
pub entered_by-taken : (line : App) (words : List Text) (entered : Option (Text × List Row)) → fault_of line words ≡ []
    → entered ≡ subcommand_of line words → command_entered line words ≡ entered
unfolding command_entered
entered_by-taken line words entered none is =
    ap (λ (kinds : Kinds). unless_refused kinds (subcommand_of line words)) none ∙ sym is

-- and words at which something fails enter nothing
pub entered_by-refused : (line : App) (words : List Text) (error : Error) → (kind_of error ≡ OutOfMemory → ⊥)
    → HasKind (fault_of line words) error → command_entered line words ≡ None
unfolding command_entered
entered_by-refused line words error other has = go (fault_of line words) (subcommand_of line words) has
  where
    go : {X : Type 0} (kinds : Kinds) (found : Option X) → HasKind kinds error → unless_refused kinds found ≡ None
    go [] found (inl memory) = absurd (other memory)
    go [] found (inr among) = absurd among
    go (kind ∷ kinds) found has = refl
