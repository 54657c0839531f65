use Rattle.std.proofs.Common.{refl, arith}
use Rattle.page_layers.proofs.BlockBytes.{SetsByte, block_of_page, one_more_byte}
use Rattle.page_layers.specs.Blocks.{block_byte}
use Rattle.page_layers.proofs.block.Block.of_page.Goals as goal

pub loop-k-preserved : goal.loop-k-preserved
loop-k-preserved c =
    let set : SetsByte (block_byte c.loop-k.block) (block_byte c.set.new.self) c.loop-k.k c.byte.result =
    record { sets = c.set.ensures } in
    one_more_byte c.args.page.now _ (omega arith) c.byte.ensures set c.loop-k.invariant

pub returns : goal.returns
returns c =
    block_of_page c.loop-k.block c.args.page.now c.args.number _ refl
    (λ j below. c.loop-k.invariant j (omega (arith, below)))
