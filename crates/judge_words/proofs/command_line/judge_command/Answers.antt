use Rattle.std.proofs.lemmas.Result.{IfOk-weaker}
use Rattle.judge_words.proofs.CommandLine.{adds_rule}
use Rattle.judge_words.proofs.command_line.judge_command.Goals as goal

pub returns : goal.returns
returns c =
    IfOk-weaker c.arg.result _ _
    (λ command h. adds_rule h c.in_ok-files_command.ensures.0 c.in_ok-files_command.ensures.1 c.flag.ensures.rule
    c.flag.ensures.local)
    c.arg.ensures
