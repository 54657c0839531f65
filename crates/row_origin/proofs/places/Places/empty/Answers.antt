use Rattle.row_origin.proofs.Placed.{none_at}
use Rattle.row_origin.proofs.places.Places.empty.Goals as goal

pub returns : goal.returns
returns c = none_at _ c.new.ensures.empty
