use Rattle.segment_judge.proofs.Histories.{history_in_parts}
use Rattle.segment_judge.proofs.laws.histories_are_told_in_parts.Goals as goal

pub returns : goal.returns
returns c = λ state rows others. history_in_parts rows others state
