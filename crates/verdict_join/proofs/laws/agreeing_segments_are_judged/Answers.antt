use Rattle.verdict_join.proofs.Agreement.{agreeing_are_judged}
use Rattle.verdict_join.proofs.laws.agreeing_segments_are_judged.Goals as goal

pub returns : goal.returns
returns c = agreeing_are_judged
