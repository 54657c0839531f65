use Rattle.row_origin.proofs.LastOf.{of_none_more}
use Rattle.row_origin.proofs.laws.rows_that_are_not_valid_write_nothing.Goals as goal

pub returns : goal.returns
returns c = of_none_more
