use Rattle.std.proofs.Common.{rules}
use Rattle.judge_words.proofs.Cuts.{with_item-no_equals}
use Rattle.judge_words.proofs.profiles.with_item.Goals as goal

pub returns-in_err-name : goal.returns-in_err-name
returns-in_err-name c =
    let none = with_item-no_equals c.args.item.now c.args.profile (search rules) in search (rules, none)
