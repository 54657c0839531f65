use Rattle.row_origin.proofs.Trails.{last_row_is_last}
use Rattle.row_origin.proofs.laws.the_last_row_is_found.Goals as goal

pub returns : goal.returns
returns c = last_row_is_last
