use Rattle.std.proofs.Common.{◌∙◌, ap}
use Rattle.std.specs.Option.{option_or}
use Rattle.page_layers.specs.Blocks.{block_at}
use Rattle.page_layers.specs.Layers.{block_among, newest_block}
use Rattle.page_layers.proofs.LayeredBytes.{same_under}
use Rattle.page_layers.proofs.Stacks.{among_cloned}
use Rattle.page_layers.proofs.layered.LayeredPhysMem.copy.Goals as goal

pub returns-then-len-le-MOST_WRITTEN-clause-bytes : goal.returns-then-len-le-MOST_WRITTEN-clause-bytes
returns-then-len-le-MOST_WRITTEN-clause-bytes c =
    same_under c.args.self.now.written c.in_ok-written.written c.args.self.now.layers.items
    c.in_ok-clone.field-0.items c.args.self.now.image.now (λ number.
    ap (λ found. option_or (found number) (block_among c.in_ok-clone.field-0.items number))
    c.in_ok-written.ensures.cases
    ∙ ap (option_or (block_at c.args.self.now.written number)) (among_cloned _ _ c.in_ok-clone.ensures.cases.0 number))

pub returns-clause-bytes : goal.returns-clause-bytes
returns-clause-bytes c =
    same_under c.args.self.now.written c.none.result c.args.self.now.layers.items
    c.in_ok-layers_under.field-0.items c.args.self.now.image.now (λ number.
    ap (λ found. option_or found (block_among c.in_ok-layers_under.field-0.items number)) (c.none.ensures number)
    ∙ c.in_ok-layers_under.ensures number
    ∙ ap (λ older. newest_block c.in_ok-newest.newest.blocks older number) c.deref.ensures.value
    ∙ ap (λ found. option_or (found number) (block_among c.args.self.now.layers.items number))
    (ap block_at c.in_ok-newest.ensures ∙ c.in_ok-written.ensures.cases))
