use Rattle.std.proofs.Common.{◌∙◌, ap, ap₂}
use Rattle.std.proofs.lemmas.Result.{IfOk-weaker}
use Rattle.clap.specs.Words.{App, with_subcommand}
use Rattle.judge_words.specs.Commands.{command_line}
use Rattle.judge_words.proofs.command_line.command_line.Goals as goal

pub returns : goal.returns
unfolding command_line
returns c =
    let judge = c.in_ok-judge_command.ensures in
    let state = c.in_ok-files_command.ensures in
    let make = c.in_ok-make_command.ensures in
    let first =
    c.in_ok-subcommand.ensures.shape judge.1
    ∙ ap₂ with_subcommand c.new.ensures.app (ap (λ (app : App). app.top) judge.0) in
    let second =
    c.in_ok-subcommand-2.ensures.shape state.1
    ∙ ap₂ with_subcommand first (ap (λ (app : App). app.top) state.0) in
    IfOk-weaker c.subcommand-3.result _ _
    (λ line h. h.shape make.1 ∙ ap₂ with_subcommand second (ap (λ (app : App). app.top) make.0))
    c.subcommand-3.ensures
