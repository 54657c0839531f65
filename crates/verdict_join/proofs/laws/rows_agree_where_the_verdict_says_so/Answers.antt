use Rattle.verdict_join.proofs.Agreement.{agree_as_judged}
use Rattle.verdict_join.proofs.laws.rows_agree_where_the_verdict_says_so.Goals as goal

pub returns : goal.returns
returns c = agree_as_judged
