use Rattle.page_layers.proofs.BlockMaps.{block_set, on_refusal, same_entries}
use Rattle.page_layers.proofs.blocks.Blocks.set.Goals as goal

pub returns-in_err-insert-clause-err : goal.returns-in_err-insert-clause-err
returns-in_err-insert-clause-err c =
    on_refusal c.from_residual.result (same_entries c.args.self.now _ c.in_err-insert.ensures.err)

pub returns-clause-ok : goal.returns-clause-ok
returns-clause-ok c =
    block_set c.args.self.now _ c.args.number c.args.block c.ranges.number.fits c.in_ok-insert.ensures.updates.0
