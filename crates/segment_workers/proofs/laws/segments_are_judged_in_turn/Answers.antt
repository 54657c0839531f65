use Rattle.segment_workers.proofs.Turns.{segments_judged_in_turn}
use Rattle.segment_workers.proofs.laws.segments_are_judged_in_turn.Goals as goal

pub returns : goal.returns
returns g c = segments_judged_in_turn
