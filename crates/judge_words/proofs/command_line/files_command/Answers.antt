use Rattle.std.proofs.Common.{◌∙◌, ap}
use Rattle.std.proofs.lemmas.Result.{IfOk-weaker}
use Rattle.clap.specs.Words.{App}
use Rattle.judge_words.specs.Commands.{choices_rules, register_rules, sharing_rules, with_rules}
use Rattle.judge_words.proofs.CommandLine.{adds_rule}
use Rattle.judge_words.proofs.command_line.files_command.Goals as goal

pub with_choices-requires : goal.with_choices-requires
with_choices-requires c =
    let image =
    adds_rule c.in_ok-arg.ensures c.new.ensures.app c.new.ensures.local c.required_word.ensures.rule
    c.required_word.ensures.local in
    let trace =
    adds_rule c.in_ok-arg-2.ensures image.0 image.1 c.required_word-2.ensures.rule
    c.required_word-2.ensures.local in
    let pc =
    adds_rule c.in_ok-arg-3.ensures trace.0 trace.1 c.option.ensures.rule c.option.ensures.local in
    let ram =
    adds_rule c.in_ok-arg-4.ensures pc.0 pc.1 c.option_or.ensures.rule c.option_or.ensures.local in
    let io = adds_rule c.in_ok-arg-5.ensures ram.0 ram.1 c.option-2.ensures.rule c.option-2.ensures.local in
    let harts =
    adds_rule c.in_ok-arg-6.ensures io.0 io.1 c.option_or-2.ensures.rule c.option_or-2.ensures.local in
    let max_image =
    adds_rule c.in_ok-arg-7.ensures harts.0 harts.1 c.option_or-3.ensures.rule c.option_or-3.ensures.local in
    (adds_rule c.in_ok-files.ensures max_image.0 max_image.1 c.option_or-4.ensures.rule
    c.option_or-4.ensures.local).1

pub returns : goal.returns
returns c =
    let image =
    adds_rule c.in_ok-arg.ensures c.new.ensures.app c.new.ensures.local c.required_word.ensures.rule
    c.required_word.ensures.local in
    let trace =
    adds_rule c.in_ok-arg-2.ensures image.0 image.1 c.required_word-2.ensures.rule
    c.required_word-2.ensures.local in
    let pc =
    adds_rule c.in_ok-arg-3.ensures trace.0 trace.1 c.option.ensures.rule c.option.ensures.local in
    let ram =
    adds_rule c.in_ok-arg-4.ensures pc.0 pc.1 c.option_or.ensures.rule c.option_or.ensures.local in
    let io = adds_rule c.in_ok-arg-5.ensures ram.0 ram.1 c.option-2.ensures.rule c.option-2.ensures.local in
    let harts =
    adds_rule c.in_ok-arg-6.ensures io.0 io.1 c.option_or-2.ensures.rule c.option_or-2.ensures.local in
    let max_image =
    adds_rule c.in_ok-arg-7.ensures harts.0 harts.1 c.option_or-3.ensures.rule c.option_or-3.ensures.local in
    let max_trace =
    adds_rule c.in_ok-files.ensures max_image.0 max_image.1 c.option_or-4.ensures.rule
    c.option_or-4.ensures.local in
    let choices =
    c.in_ok-with_choices.ensures.0 ∙ ap (λ (app : App). with_rules app choices_rules) max_trace.0 in
    let registers =
    c.in_ok-with_registers.ensures.0 ∙ ap (λ (app : App). with_rules app register_rules) choices in
    IfOk-weaker c.with_sharing.result _ _
    (λ command h. (h.0 ∙ ap (λ (app : App). with_rules app sharing_rules) registers, h.1))
    c.with_sharing.ensures
