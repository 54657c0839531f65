use Rattle.std.proofs.Common.{rules}
use Rattle.row_origin.specs.Places.{row_in}
use Rattle.row_origin.proofs.block.Block.row.Goals as goal

pub returns-in-0 : goal.returns-in-0
unfolding row_in
returns-in-0 c = search rules

pub returns-in_default : goal.returns-in_default
unfolding row_in
returns-in_default c = search rules
