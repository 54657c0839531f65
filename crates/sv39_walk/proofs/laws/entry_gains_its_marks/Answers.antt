use Rattle.sv39_walk.proofs.Marked.{gains_its_marks}
use Rattle.sv39_walk.proofs.laws.entry_gains_its_marks.Goals as goal

pub returns : goal.returns
returns c = gains_its_marks
