use Rattle.std.proofs.Common.{refl}
use Rattle.std.proofs.lemmas.Result.{IfOk-weaker}
use Rattle.judge_words.proofs.CommandLine.{adds_rule}
use Rattle.judge_words.proofs.command_line.with_sharing.Goals as goal

pub returns : goal.returns
returns c =
    let workers =
    adds_rule c.in_ok-arg.ensures refl c.requires c.option_or.ensures.rule c.option_or.ensures.local in
    let segment =
    adds_rule c.in_ok-arg-2.ensures workers.0 workers.1 c.option_or-2.ensures.rule
    c.option_or-2.ensures.local in
    IfOk-weaker c.arg-3.result _ _
    (λ command h. adds_rule h segment.0 segment.1 c.option_or-3.ensures.rule c.option_or-3.ensures.local)
    c.arg-3.ensures
