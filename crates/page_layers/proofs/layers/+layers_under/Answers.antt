use Rattle.std.proofs.Common.{◌∙◌, ap, sym}
use Rattle.std.specs.Option.{option_or}
use Rattle.page_layers.specs.Blocks.{block_at}
use Rattle.page_layers.specs.Layers.{newest_block}
use Rattle.page_layers.proofs.Stacks.{if_ok, taken_in}
use Rattle.page_layers.proofs.layers.+layers_under.Goals as goal

pub returns-in_ok-union-in-Some : goal.returns-in_ok-union-in-Some
returns-in_ok-union-in-Some t c = if_ok _ _ c.layers_under.result
    (λ layers has number. has number
    ∙ taken_in c.args.newest.blocks c.in_ok-union-in-Some.field-0.blocks c.in-Some.next.now c.in-Some.rest.now
    (λ q. c.in_ok-union-in-Some.ensures q
    ∙ ap (λ blocks. option_or (block_at c.args.newest.blocks q) (block_at blocks q)) (ap (λ paged. paged.blocks) c.paged.ensures)) number
    ∙ ap (λ older. newest_block c.args.newest.blocks older number) (sym c.in-Some.ensures.cases.0))
    c.layers_under.ensures
