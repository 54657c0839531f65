use Rattle.row_origin.proofs.LastOf.{of_no_row}
use Rattle.row_origin.proofs.last.Last.empty.Goals as goal

pub returns : goal.returns
returns c = of_no_row _ c.empty.ensures c.empty-2.ensures
