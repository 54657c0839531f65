use Rattle.verdict_join.proofs.Rounds.{settles_some}
use Rattle.verdict_join.proofs.laws.a_round_settles_some.Goals as goal

pub returns : goal.returns
returns g c = settles_some
