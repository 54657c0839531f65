use Rattle.page_layers.proofs.LayeredBytes.{under_none}
use Rattle.page_layers.proofs.layered.Layered.over.Goals as goal

pub returns-clause-bytes : goal.returns-clause-bytes
returns-clause-bytes c = under_none c.none.result c.new.result.items c.args.image.now c.none.ensures c.new.ensures.items
