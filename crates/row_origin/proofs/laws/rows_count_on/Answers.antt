use Rattle.row_origin.proofs.LastOf.{count_on}
use Rattle.row_origin.proofs.laws.rows_count_on.Goals as goal

pub returns : goal.returns
returns c = count_on
