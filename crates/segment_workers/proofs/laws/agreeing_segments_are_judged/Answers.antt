use Rattle.segment_workers.proofs.Agreeing.{each_judged}
use Rattle.segment_workers.proofs.laws.agreeing_segments_are_judged.Goals as goal

pub returns : goal.returns
returns g c = each_judged
