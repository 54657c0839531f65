use Rattle.std.proofs.Common.{refl}
use Rattle.image_text.proofs.Pages.{zeros_are_bytes}
use Rattle.page_layers.proofs.BlockBytes.{zero_block}
use Rattle.page_layers.proofs.block.Block.zeros.Goals as goal

pub returns : goal.returns
returns c = zero_block _ refl

pub invariant_of-result-clause-small : goal.invariant_of-result-clause-small
invariant_of-result-clause-small c = zeros_are_bytes 64
