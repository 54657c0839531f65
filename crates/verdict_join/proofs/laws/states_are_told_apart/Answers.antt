use Rattle.verdict_join.proofs.Sameness.{cores_sameness, cores_tell}
use Rattle.verdict_join.proofs.laws.states_are_told_apart.Goals as goal

pub returns : goal.returns
returns c = (cores_sameness, cores_tell)
