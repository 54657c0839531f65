use Rattle.row_origin.proofs.Blocks.{all_laid, laid_more, row_fits}
use Rattle.row_origin.proofs.block.Block.lay_over.Goals as goal
use Rattle.std.proofs.Common.{arith, ◌≡◌}

pub lay_row-requires-clause-fits : goal.lay_row-requires-clause-fits
lay_row-requires-clause-fits c =
    row_fits c.args.base c.loop-place.place c.args.later.now c.row.result (omega arith) c.requires c.row.ensures

pub loop-place-preserved : goal.loop-place-preserved
loop-place-preserved c =
    λ q. laid_more c.args.base c.loop-place.place q c.args.later.now c.args.self.now c.loop-place.self
    c.lay_row.new.self c.row.result c.row.ensures c.loop-place.invariant c.lay_row.ensures

pub returns : goal.returns
returns c =
    let end : c.loop-place.place ≡ 32 = omega arith in
    all_laid c.args.base c.args.later.now c.args.self.now c.loop-place.self c.loop-place.place end
    c.loop-place.invariant
