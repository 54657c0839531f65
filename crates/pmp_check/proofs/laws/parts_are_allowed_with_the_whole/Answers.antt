use Rattle.pmp_check.proofs.Parts.{part_allowed}
use Rattle.pmp_check.proofs.laws.parts_are_allowed_with_the_whole.Goals as goal

pub returns : goal.returns
returns c = part_allowed
