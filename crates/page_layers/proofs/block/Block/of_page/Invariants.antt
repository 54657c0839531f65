use Rattle.std.proofs.Common.{◌≡◌, ◌+◌, ◌<◌, ℕ}
use Rattle.page_image.specs.Pages.{page_byte}
use Rattle.page_layers.specs.Blocks.{block_byte}
use Rattle.page_layers.proofs.block.Block.of_page.Given as goal

-- the first k bytes were set
abbrev pub invariant-loop-k : goal.invariant-loop-k
invariant-loop-k l = (j : ℕ) → j < l.k → block_byte l.block j ≡ page_byte l.page (l.first + j)
