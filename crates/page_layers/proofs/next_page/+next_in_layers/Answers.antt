use Rattle.std.proofs.Common.{subst}
use Rattle.page_layers.specs.Blocks.{HasNoBlock, block_at}
use Rattle.page_layers.specs.Layers.{block_among}
use Rattle.page_layers.proofs.NextPages.{none_in_layers, none_in_none, skips_both}
use Rattle.page_layers.proofs.next_page.+next_in_layers.Goals as goal

pub returns-in-None : goal.returns-in-None
returns-in-None t c = λ page low high. none_in_none c.args.layers.now c.in-None.ensures.cases page

pub returns-in-Some : goal.returns-in-Some
returns-in-Some t c = rw c.earlier.ensures (
    skips_both (HasNoBlock (block_at c.paged.result.now.blocks)) (HasNoBlock (block_among c.in-Some.older.now))
    (HasNoBlock (block_among c.args.layers.now)) c.args.least c.next_page.result c.next_in_layers.result
    (λ page first others. none_in_layers c.in-Some.ensures.cases.0 page
    (subst (λ paged. HasNoBlock (block_at paged.blocks) page) c.paged.ensures first) others)
    c.next_page.ensures c.next_in_layers.ensures)
