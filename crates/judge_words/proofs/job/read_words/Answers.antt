use Rattle.std.proofs.Common.{◌∙◌, ap}
use Rattle.clap.specs.Words.{is_simple_and_free}
use Rattle.judge_words.proofs.CommandLine.{command_line-is_simple}
use Rattle.judge_words.proofs.job.read_words.Goals as goal

pub parse-requires : goal.parse-requires
parse-requires c = ap is_simple_and_free c.in_ok-command_line.ensures ∙ command_line-is_simple
