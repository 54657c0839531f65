use Rattle.row_origin.proofs.Placed.{block_put}
use Rattle.row_origin.proofs.places.Places.put.Goals as goal

pub returns-clause-rows : goal.returns-clause-rows
returns-clause-rows c = block_put c.args.self.now _ c.args.number c.args.block c.in-Ok.ensures.updates.0
