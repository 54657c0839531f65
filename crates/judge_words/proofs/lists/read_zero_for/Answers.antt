use Rattle.std.proofs.Common.{rules}
use Rattle.judge_words.proofs.Cuts.{zero_for_in-no_colon}
use Rattle.judge_words.proofs.lists.read_zero_for.Goals as goal

pub returns-in_err-word : goal.returns-in_err-word
returns-in_err-word c = let none = zero_for_in-no_colon c.args.text.now (search rules) in search (rules, none)
