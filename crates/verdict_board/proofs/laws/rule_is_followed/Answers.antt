use Rattle.verdict_board.proofs.Wholes.{rule_followed}
use Rattle.verdict_board.proofs.laws.rule_is_followed.Goals as goal

pub returns : goal.returns
returns c = rule_followed
