use Rattle.segment_judge.proofs.Histories.{history_framed}
use Rattle.segment_judge.proofs.laws.histories_are_framed.Goals as goal

pub returns : goal.returns
returns c = λ cores rows one other. history_framed rows cores one other
