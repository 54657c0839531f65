use Rattle.std.proofs.Common.{◌∙◌}
use Rattle.clap.specs.Words.{app_of}
use Rattle.judge_words.proofs.CommandLine.{entered_by-refused, entered_by-taken, is_simple-part}
use Rattle.judge_words.proofs.command_line.parse.Goals as goal

pub returns-in-Ok : goal.returns-in-Ok
returns-in-Ok c =
    entered_by-taken (app_of c.args.line) _ _ (c.in-Ok.ensures.kinds c.requires)
    (c.in-Ok.ensures.matches (is_simple-part (app_of c.args.line) c.requires)).1

pub returns : goal.returns
returns c = λ _.
    entered_by-refused (app_of c.args.line) _ c.in-Err.error
    (λ memory. c.in_default.not-OutOfMemory (c.kind.ensures ∙ memory))
    (c.in-Err.ensures.kinds c.requires)
