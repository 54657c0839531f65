use Rattle.segment_judge.proofs.Parts.{in_parts}
use Rattle.segment_judge.proofs.laws.rows_are_judged_in_parts.Goals as goal

pub returns : goal.returns
returns g c = in_parts
