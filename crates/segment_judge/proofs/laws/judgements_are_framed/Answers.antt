use Rattle.segment_judge.proofs.Framed.{framed}
use Rattle.segment_judge.proofs.laws.judgements_are_framed.Goals as goal

pub returns : goal.returns
returns g c = framed
