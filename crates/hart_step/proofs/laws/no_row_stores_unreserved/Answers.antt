use Rattle.hart_step.proofs.Reserved.{stores_in_block}
use Rattle.hart_step.proofs.laws.no_row_stores_unreserved.Goals as goal

pub returns : goal.returns
returns c = stores_in_block
