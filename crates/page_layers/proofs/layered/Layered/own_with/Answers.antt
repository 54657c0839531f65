use Rattle.page_layers.proofs.BlockMaps.{on_success}
use Rattle.page_layers.proofs.LayeredBytes.{set_under}
use Rattle.page_layers.proofs.layered.Layered.own_with.Goals as goal

pub returns-clause-ok : goal.returns-clause-ok
returns-clause-ok c =
    on_success c.set.result
    (λ sets. set_under c.args.self.now.written c.set.new.self c.args.self.now.layers.items
    c.args.self.now.image.now _ c.args.pa c.args.len c.args.value c.requires.block (record { sets = sets })
    c.value_beneath-block.ensures c.put.ensures)
    c.set.ensures.ok
