use Rattle.std.proofs.Common.{refl}
use Rattle.std.proofs.lemmas.Result.{IfOk-weaker}
use Rattle.judge_words.proofs.CommandLine.{adds_rule}
use Rattle.judge_words.proofs.command_line.with_choices.Goals as goal

pub returns : goal.returns
returns c =
    let profile =
    adds_rule c.in_ok-arg.ensures refl c.requires c.option.ensures.rule c.option.ensures.local in
    let misaligned =
    adds_rule c.in_ok-arg-2.ensures profile.0 profile.1 c.option-2.ensures.rule c.option-2.ensures.local in
    let mtval =
    adds_rule c.in_ok-arg-3.ensures misaligned.0 misaligned.1 c.option-3.ensures.rule c.option-3.ensures.local in
    let ad =
    adds_rule c.in_ok-arg-4.ensures mtval.0 mtval.1 c.option-4.ensures.rule c.option-4.ensures.local in
    let reserve =
    adds_rule c.in_ok-arg-5.ensures ad.0 ad.1 c.option-5.ensures.rule c.option-5.ensures.local in
    IfOk-weaker c.arg-6.result _ _
    (λ command h. adds_rule h reserve.0 reserve.1 c.option-6.ensures.rule c.option-6.ensures.local)
    c.arg-6.ensures
