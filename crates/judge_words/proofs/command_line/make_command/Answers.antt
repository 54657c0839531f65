use Rattle.std.proofs.Common.{◌∙◌, ap}
use Rattle.std.proofs.lemmas.Result.{IfOk-weaker}
use Rattle.clap.specs.Words.{App}
use Rattle.judge_words.specs.Commands.{sharing_rules, with_rules}
use Rattle.judge_words.proofs.CommandLine.{adds_rule}
use Rattle.judge_words.proofs.command_line.make_command.Goals as goal

pub with_sharing-requires : goal.with_sharing-requires
with_sharing-requires c =
    let number =
    adds_rule c.in_ok-arg.ensures c.new.ensures.app c.new.ensures.local c.required_word.ensures.rule
    c.required_word.ensures.local in
    (adds_rule c.in_ok-make.ensures number.0 number.1 c.required_word-2.ensures.rule
    c.required_word-2.ensures.local).1

pub returns : goal.returns
returns c =
    let number =
    adds_rule c.in_ok-arg.ensures c.new.ensures.app c.new.ensures.local c.required_word.ensures.rule
    c.required_word.ensures.local in
    let rows =
    adds_rule c.in_ok-make.ensures number.0 number.1 c.required_word-2.ensures.rule
    c.required_word-2.ensures.local in
    IfOk-weaker c.with_sharing.result _ _
    (λ command h. (h.0 ∙ ap (λ (app : App). with_rules app sharing_rules) rows.0, h.1))
    c.with_sharing.ensures
