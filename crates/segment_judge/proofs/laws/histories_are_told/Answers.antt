use Rattle.segment_judge.proofs.Histories.{history_told}
use Rattle.segment_judge.proofs.laws.histories_are_told.Goals as goal

pub returns : goal.returns
returns c = λ state rows. history_told rows state
