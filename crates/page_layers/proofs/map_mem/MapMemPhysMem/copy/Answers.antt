use Rattle.page_layers.proofs.Changes.{map_unchanged, map_cloned}
use Rattle.page_layers.proofs.map_mem.MapMemPhysMem.copy.Goals as goal

pub returns-clause-bytes : goal.returns-clause-bytes
returns-clause-bytes c = map_unchanged _ _ (map_cloned _ _ c.in_ok-clone.ensures.cases)
